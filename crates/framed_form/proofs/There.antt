-- When complete envelopes together open all of a request.
use Rattle.std.proofs.Common.{◌≡◌, ℕ, suc, Bool, true, false, List, [], ◌∷◌, ◌++◌, map, Result, Ok, Err, refl, sym, ap, ◌∙◌, subst, inl, inr}
use Rattle.std.specs.Prelude.{Option, Some, None, nat_eq, if◌then◌else◌}
use Rattle.std.proofs.lemmas.Bool.Decides.{Decides-eqb}
use Rattle.std.proofs.lemmas.Option.{same_Some, none-some}
use Rattle.ledger_terms.specs.Forest.{Forest, NoRoots, Root, paths_from}
use Rattle.ledger_terms.specs.Hosting.{hosts_at}
use Rattle.ledger_terms.specs.Roots.{trees_count}
use Rattle.ledger_terms.specs.declared.topology.Topology.{Topology}
use Rattle.ledger_model.proofs.Lists.{In, in_append_left, in_append_right, contains_from_In}
use Rattle.canton_model.specs.declared.envelope.Envelope.{Envelope}
use Rattle.canton_model.specs.declared.request.Request.{Request}
use Rattle.view_split.specs.Filled.{AreFilled}
use Rattle.view_split.specs.Holed.{holes}
use Rattle.view_split.specs.declared.opened_tree.OpenedTree.{OpenedTree}
use Rattle.view_split.specs.declared.split_view.SplitView.{SplitView}
use Rattle.wire_form.specs.declared.wire_fault.WireFault.{WireFault}
use Rattle.blind_tree.specs.Agreement.{Agree}
use Rattle.blind_tree.specs.CoreReading.{core_at}
use Rattle.blind_tree.specs.Leaves.{Sets}
use Rattle.blind_tree.specs.OpenedFor.{is_listed, stands_at}
use Rattle.blind_tree.specs.Opening.{ViewParts, parts_read, read_leaf, roles_at}
use Rattle.blind_tree.specs.Vertices.{Vertices, NoVertices, BlindVertex, InnerVertex, count}
use Rattle.blind_tree.specs.declared.leaf.Leaf.{Leaf}
use Rattle.blind_tree.specs.declared.tree.Tree.{Tree}
use Rattle.sealed_form.specs.SealedForm.{bytes_of, tree_in}
use Rattle.framed_form.specs.Agreeing.{AreAgreed, request_trees}
use Rattle.framed_form.specs.FramedForm.{complete_in, forest_in, offered_by, outline_in, outline_of, part_if, part_of, parts_of, paths_seen, root_in, whole_views}
use Rattle.framed_form.specs.Frames.{paths_in, roles_read, seen_in, tells}
use Rattle.canton_model.specs.Timeline.{or_else}
use Rattle.framed_form.specs.Together.{Part, first_view, parts_after, parts_below, view_at, view_in, views_together}
use Rattle.framed_form.proofs.Existing.{AllShow, Covered, Shows, shows_listed, together_there}
use Rattle.framed_form.proofs.Listed.{Lists, lists_seen, paths_root}
use Rattle.framed_form.proofs.Lying.{AllAgree, Front, Stand, agree_after, agree_below, front_of, if_some, read_ok, same_ok, then_some, told_parts, no_root, no_views}
use Rattle.framed_form.proofs.Wholes.{Complete, all_from, complete_from, in_trees, within_all}

-- ---- the views together have as many holes as views stand below

pub holes_are : (i c : Leaf) (n : ℕ) (parts : ViewParts) → parts_read i c n ≡ Ok parts → holes (parts.1).children ≡ n
holes_are i c n parts e =
    let sets = read_ok (read_leaf roles_at i) _ parts e in
    let core = read_ok (read_leaf core_at c) _ parts sets.2 in
    let test = tested (nat_eq (holes (core.0).children) n) (Ok (sets.0, core.0)) _ parts core.2 in
    ap (λ (p : ViewParts). holes (p.1).children) (sym (same_ok (sets.0, core.0) parts test.1)) ∙ (Decides-eqb (holes (core.0).children) n).0 test.0
  where
    tested : {A : Type 0} (b : Bool) (r : Result A WireFault) (fault : WireFault) (y : A) → (if b then r else Err fault) ≡ Ok y → (b ≡ true) × (r ≡ Ok y)
    tested true r fault y e = (refl, e)
    tested false r fault y e = absurd cc

same_count : (v w : Vertices) → Agree v w → count v ≡ count w
same_count NoVertices NoVertices a = refl
same_count NoVertices (BlindVertex hash others) a = absurd a
same_count NoVertices (InnerVertex i c s o) a = absurd a
same_count (BlindVertex hash others) NoVertices a = absurd a
same_count (BlindVertex hash others) (BlindVertex hash2 others2) a = ap suc (same_count others others2 a)
same_count (BlindVertex hash others) (InnerVertex i c s o) a = ap suc (same_count others o a)
same_count (InnerVertex i c s o) NoVertices a = absurd a
same_count (InnerVertex i c s o) (BlindVertex hash2 others2) a = ap suc (same_count o others2 a)
same_count (InnerVertex i c s o) (InnerVertex i2 c2 s2 o2) a = ap suc (same_count o o2 a.3)

-- a view that some part shows has as many holes as vertices stand below
view_holes : (i c : Leaf) (s o : Vertices) (path : List ℕ) (parts : List Part) (w : SplitView) → AllAgree (InnerVertex i c s o) parts → view_at path parts ≡ Some w → holes w.below ≡ count s
view_holes i c s o path [] w agree e = absurd (none-some w e)
view_holes i c s o path (part ∷ parts) w agree e = first (view_in path part) refl e (λ e'. view_holes i c s o path parts w agree.1 e')
  where
    front : Front part.views w → holes w.below ≡ count s
    front f =
        let agree' : Agree (InnerVertex i c s o) (InnerVertex f.informees f.contents f.subviews f.others) = subst (Agree (InnerVertex i c s o)) f.is agree.0 in
        ap (λ (x : SplitView). holes x.below) f.view ∙ (holes_are f.informees f.contents (count f.subviews) f.parts f.read ∙ sym (same_count s f.subviews agree'.2))

    first : (r : Option SplitView) → view_in path part ≡ r → or_else r (view_at path parts) ≡ Some w → (view_at path parts ≡ Some w → holes w.below ≡ count s) → holes w.below ≡ count s
    first None is e' more = more e'
    first (Some u) is e' more = front (front_of part.views w (if_some (part.opens path) (first_view part.views) w (is ∙ e')).1)

pub filled_together : (above : List ℕ) (k : ℕ) (parts : List Part) (f : Forest Sets) (w : Forest SplitView) (m : Vertices)
    → views_together above k parts f ≡ Some w → roles_read m ≡ Ok f → AllAgree m parts → AreFilled w × (trees_count w ≡ count m)
filled_together above k parts NoRoots w NoVertices e told all = subst (λ (g : Forest SplitView). AreFilled g × (trees_count g ≡ 0)) (same_Some NoRoots w e) (tt, refl)
filled_together above k parts NoRoots w (BlindVertex hash others) e told all = absurd cc
filled_together above k parts NoRoots w (InnerVertex i c s o) e told all = absurd (no_views i c s o told)
filled_together above k parts (Root x below rest) w NoVertices e told all = absurd (no_root (sym (same_ok NoRoots (Root x below rest) told)))
filled_together above k parts (Root x below rest) w (BlindVertex hash others) e told all = absurd cc
filled_together above k parts (Root x below rest) w (InnerVertex i c s o) e told all =
    let path = above ++ k ∷ [] in
    let view = then_some _ (view_at path parts) w e in
    let under = then_some _ (views_together path 0 (parts_below parts) below) w view.2 in
    let after = then_some _ (views_together above (suc k) (parts_after parts) rest) w under.2 in
    let t = told_parts i c s o x below rest told in
    let b = filled_together path 0 (parts_below parts) below under.0 s under.1 t.below_is (agree_below i c s o parts all) in
    let r = filled_together above (suc k) (parts_after parts) rest after.0 o after.1 t.rest_is (agree_after (InnerVertex i c s o) parts all) in
    subst (λ (g : Forest SplitView). AreFilled g × (trees_count g ≡ suc (count o))) (same_Some (Root view.0 under.0 after.0) w after.2)
    ((view_holes i c s o path parts view.0 all view.1 ∙ sym b.1, b.0, r.0), ap suc r.1)

-- ---- a request whose trees agree

module _ (topology : Topology) (request : Request) (agreed : AreAgreed request) (m : Tree) (f : Forest Sets) (spelled : tree_in request.mediator ≡ Some m) (told : roles_read m.views ≡ Ok f) where
  pub outline : outline_of request ≡ f
  outline = ap outline_in spelled ∙ ap forest_in told

  -- a complete envelope shows what its participant sees
  shown_by_complete : (p : ℕ) (bytes : List ℕ) (opened : OpenedTree) → In bytes (request.mediator ∷ map bytes_of request.envelopes)
      → (c : Complete topology p request bytes opened) → Shows (is_listed (paths_seen topology p request)) [] 0 f (c.tree).views
  shown_by_complete p bytes opened there c =
      let keeps = tells (hosts_at topology.hosts p) in
      let seen : paths_seen topology p request ≡ seen_in (hosts_at topology.hosts p) f = ap (seen_in (hosts_at topology.hosts p)) outline in
      let lists : Lists keeps (is_listed (paths_seen topology p request)) false [] 0 f =
      subst (λ (paths : List (List ℕ)). Lists keeps (is_listed paths) false [] 0 f) (sym seen) (lists_seen keeps f) in
      let stand : Stand [] 0 (c.tree).views (seen_in (hosts_at topology.hosts p) f) =
      λ step rest least h. all_from (stands_at 0 (c.tree).views) (paths_seen topology p request) (step ∷ rest) (c.opens).stand (subst (In (step ∷ rest)) (sym seen) h) in
      let in_c = in_trees (request.mediator ∷ map bytes_of request.envelopes) bytes c.tree there c.spelled in
      let in_m = in_trees (request.mediator ∷ map bytes_of request.envelopes) request.mediator m (inl refl) spelled in
      let agree = (agreed c.tree m (contains_from_In (request_trees request) c.tree in_c) (contains_from_In (request_trees request) m in_m)
      (sym c.root ∙ ap root_in spelled)).vertices in
      shows_listed keeps (is_listed (paths_seen topology p request)) [] 0 f m.views (c.tree).views opened.views told agree lists stand (c.opens).views

  all_show : (envelopes : List Envelope) → ((e : Envelope) → In e envelopes → In e.bytes (request.mediator ∷ map bytes_of request.envelopes))
      → AllShow [] 0 f (parts_of topology request envelopes)
  all_show [] within = tt
  all_show (e ∷ envelopes) within = one (complete_in (offered_by topology e.to request e.bytes)) refl (tree_in e.bytes) refl (all_show envelopes (λ d h. within d (inr h)))
    where
      one : (c : Option OpenedTree) → complete_in (offered_by topology e.to request e.bytes) ≡ c → (u : Option Tree) → tree_in e.bytes ≡ u
          → AllShow [] 0 f (parts_of topology request envelopes)
          → AllShow [] 0 f (part_if (is_listed (paths_seen topology e.to request)) c u ++ parts_of topology request envelopes)
      one None is u at more = more
      one (Some opened) is None at more = more
      one (Some opened) is (Some u) at more =
          let c = complete_from topology e.to request e.bytes opened is in
          let same : c.tree ≡ u = same_Some c.tree u (sym c.spelled ∙ at) in
          (subst (λ (t : Tree). Shows (is_listed (paths_seen topology e.to request)) [] 0 f t.views) same (shown_by_complete e.to e.bytes opened (within e (inl refl)) c), more)

  -- a complete envelope opens the view at a path
  abbrev pub Opener : List ℕ → Type 0
  Opener path =
      (e : Envelope) × In e request.envelopes
      × ((opened : OpenedTree) × (complete_in (offered_by topology e.to request e.bytes) ≡ Some opened))
      × (is_listed (paths_seen topology e.to request) path ≡ true)

  part_there : (e : Envelope) (opened : OpenedTree) (envelopes : List Envelope) → In e envelopes → complete_in (offered_by topology e.to request e.bytes) ≡ Some opened
      → (part : Part) × In part (parts_of topology request envelopes) × (part.opens ≡ is_listed (paths_seen topology e.to request))
  part_there e opened [] h is = absurd h
  part_there e opened (d ∷ envelopes) (inl same) is =
      let c = complete_from topology e.to request e.bytes opened is in
      let here : part_of topology request d ≡ record { opens = is_listed (paths_seen topology e.to request); views = (c.tree).views } ∷ [] =
      ap (part_of topology request) same ∙ rw (is, c.spelled) refl in (
        record { opens = is_listed (paths_seen topology e.to request); views = (c.tree).views },
        rw here (inl refl),
        refl,
      )
  part_there e opened (d ∷ envelopes) (inr later) is =
      let more = part_there e opened envelopes later is in
      (more.0, in_append_right (part_of topology request d) (parts_of topology request envelopes) more.0 more.1, more.2)

  covered_from : (above : List ℕ) (k : ℕ) (g : Forest Sets) → ((path : List ℕ) → In path (paths_in (paths_from above k g)) → Opener path)
      → Covered (parts_of topology request request.envelopes) above k g
  covered_from above k NoRoots openers = tt
  covered_from above k (Root x below rest) openers =
      let path = above ++ k ∷ [] in
      let is = paths_root (path, x) (paths_from path 0 below) (paths_from above (suc k) rest) in
      let opener_of : (q : List ℕ) → In q (path ∷ (paths_in (paths_from path 0 below) ++ paths_in (paths_from above (suc k) rest))) → Opener q =
      λ q h. openers q (subst (In q) (sym is) h) in
      let here = opener_of path (inl refl) in
      let part = part_there here.0 (here.2).0 request.envelopes here.1 (here.2).1 in (
        (part.0, part.1, ap (λ (o : List ℕ → Bool). o path) part.2 ∙ here.3),
        covered_from path 0 below (λ q h. opener_of q (inr (in_append_left (paths_in (paths_from path 0 below)) (paths_in (paths_from above (suc k) rest)) q h))),
        covered_from above (suc k) rest (λ q h. opener_of q (inr (in_append_right (paths_in (paths_from path 0 below)) (paths_in (paths_from above (suc k) rest)) q h))),
      )

  -- Where a complete envelope opens each view, all views are there.
  pub whole_is_there : ((path : List ℕ) → In path (paths_in (paths_from [] 0 f)) → Opener path) → (w : Forest SplitView) × (whole_views topology request ≡ Some w)
  whole_is_there openers =
      let found = together_there [] 0 (parts_of topology request request.envelopes) f (all_show request.envelopes (λ e h. inr (within_all topology request agreed request.envelopes e h)))
      (covered_from [] 0 f openers) in
      (found.0, ap (views_together [] 0 (parts_of topology request request.envelopes)) outline ∙ found.1)
