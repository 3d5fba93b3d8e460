-- A sealed request is read back as its transaction.
use Rattle.std.proofs.Common.{◌≡◌, ℕ, suc, Bool, true, List, [], ◌∷◌, ◌++◌, map, Option, Some, None, Result, refl, sym, ap, ◌∙◌, subst, inr}
use Rattle.std.specs.Prelude.{nat_eq, option_and_then, option_map, if◌then◌else◌}
use Rattle.std.specs.List.{list_any}
use Rattle.std.specs.Str.{bytes_eq}
use Rattle.std.proofs.lemmas.Bool.{or_right}
use Rattle.std.proofs.lemmas.Option.{same_Some, none-some}
use Rattle.std.proofs.lemmas.Slice.Eq.{bytes_eq-Decides}
use Rattle.ledger_terms.specs.declared.act.Act.{Act}
use Rattle.ledger_terms.specs.Forest.{Forest, NoRoots, Root, paths_from, preorder}
use Rattle.ledger_terms.specs.Hosting.{hosts_at}
use Rattle.ledger_terms.specs.declared.topology.Topology.{Topology}
use Rattle.ledger_model.specs.Opening.{Transaction, is_root_path}
use Rattle.ledger_model.specs.Terms.{Path}
use Rattle.ledger_model.proofs.Lists.{In, from_any, in_any, in_map}
use Rattle.canton_model.specs.Genuine.{IsSound}
use Rattle.canton_model.specs.Reading.{Reading}
use Rattle.canton_model.specs.Timeline.{or_else}
use Rattle.canton_model.specs.declared.envelope.Envelope.{Envelope}
use Rattle.canton_model.specs.declared.request.Request.{Request}
use Rattle.lang_eval.specs.Found.{Packages}
use Rattle.interpret.specs.Conforming.{conforms}
use Rattle.interpret.specs.Ids.{is_authentic}
use Rattle.interpret.specs.Language.{the_language}
use Rattle.wire_form.specs.declared.wire_fault.WireFault.{WireFault}
use Rattle.view_split.specs.Numbered.{map_forest}
use Rattle.view_split.specs.declared.opened_tree.OpenedTree.{OpenedTree}
use Rattle.view_split.specs.declared.split_view.SplitView.{SplitView}
use Rattle.view_split.proofs.Assembled.{assembled_split}
use Rattle.view_split.proofs.Confirming.{from_map, in_kept}
use Rattle.view_split.proofs.Shown.{seen_paths_are}
use Rattle.blind_tree.specs.Blind.{has_sight}
use Rattle.blind_tree.specs.Leaves.{Sets}
use Rattle.blind_tree.specs.OpenedFor.{is_listed}
use Rattle.blind_tree.specs.Opening.{head_at, parts_read, read_leaf}
use Rattle.blind_tree.specs.Vertices.{Vertices, NoVertices, BlindVertex, InnerVertex, count}
use Rattle.blind_tree.specs.declared.tree.Tree.{Tree}
use Rattle.blind_tree.proofs.OpensLaws.{head_again}
use Rattle.blind_tree.proofs.Sights.{some_paths}
use Rattle.sealed_form.specs.SealedForm.{IsSealedForm, found, roles_by, tree_in}
use Rattle.sealed_form.proofs.Hosts.{confirmer_hosts}
use Rattle.sealed_form.proofs.Recipients.{in_recipients}
use Rattle.framed_form.specs.ByRules.{IsByRules}
use Rattle.framed_form.specs.Framed.{IsFramed}
use Rattle.framed_form.specs.FramedForm.{complete_in, forest_in, head_of, offered_by, outline_in, part_if, parts_of, paths_seen, requesters_of, sees_root_view, transaction_of, whole_of, whole_views, whole_with}
use Rattle.framed_form.specs.Agreeing.{AreAgreed}
use Rattle.framed_form.specs.FramedReading.{framed_reading}
use Rattle.framed_form.specs.Frames.{paths_in, seen_in, tells}
use Rattle.framed_form.specs.Together.{Part, below_in, first_view, others_in, parts_after, parts_below, view_at, view_in, views_together}
use Rattle.framed_form.proofs.Facts as facts
use Rattle.framed_form.proofs.FramedSound.{known}
use Rattle.framed_form.proofs.Heads.{requesters_are, requesters_there}
use Rattle.framed_form.proofs.Lying.{Lies, if_some, said, sets_of, then_some, view_shown}
use Rattle.framed_form.proofs.SealedOpens.{mediator_spells, mediators, offered_here, opened_of, outline, roles_are, seen, sees, shown_by_rules, told, tree, views}
use Rattle.framed_form.proofs.SealedTrees.{again, agreed, envelope, envelopes_are, lies, recipients}
use Rattle.framed_form.proofs.Signatories.{they_have}
use Rattle.framed_form.proofs.There.{whole_is_there}
use Rattle.framed_form.proofs.Vouching.{sound_with_roles}
use Rattle.framed_form.proofs.WholeThere.{root_path}
use Rattle.framed_form.proofs.Wholes.{within_all}

-- ---- views that are put together of parts which lie in some views are these

abbrev AllLie : Forest SplitView → List Part → Type 0
AllLie v [] = Unit {0}
AllLie v (part ∷ parts) = Lies v part.views × AllLie v parts

no_forest : {A : Type 0} {x : A} {below others : Forest A} → NoRoots ≡ Root x below others → ⊥
no_forest e = cc

view_lies : (path : List ℕ) (parts : List Part) (u : SplitView) (below others : Forest SplitView) → AllLie (Root u below others) parts
    → (x : SplitView) → view_at path parts ≡ Some x → x ≡ u
view_lies path [] u below others all x e = absurd (none-some x e)
view_lies path (part ∷ parts) u below others all x e = by_first (view_in path part) refl e (λ later. view_lies path parts u below others all.1 x later)
  where
    by_vertex : (v : Vertices) → Lies (Root u below others) v → (y : SplitView) → first_view v ≡ Some y → y ≡ u
    by_vertex NoVertices lie y h = absurd (none-some y h)
    by_vertex (BlindVertex hash after) lie y h = absurd (none-some y h)
    by_vertex (InnerVertex i c s o) lie y h =
        let parts = view_shown (parts_read i c (count s)) y h in
        parts.2 ∙ said i c (count s) parts.0 u lie.0 parts.1

    by_first : (r : Option SplitView) → view_in path part ≡ r → or_else r (view_at path parts) ≡ Some x → (view_at path parts ≡ Some x → x ≡ u) → x ≡ u
    by_first None is h more = more h
    by_first (Some y) is h more =
        let shown = if_some (part.opens path) (first_view part.views) y is in
        sym (same_Some y x h) ∙ by_vertex part.views all.0 y shown.1

lie_below : (u : SplitView) (below others : Forest SplitView) (parts : List Part) → AllLie (Root u below others) parts → AllLie below (parts_below parts)
lie_below u below others [] all = tt
lie_below u below others (part ∷ parts) all = one part.views all.0 (lie_below u below others parts all.1)
  where
    one : (v : Vertices) → Lies (Root u below others) v → AllLie below (parts_below parts)
        → AllLie below (below_in part.opens v ++ parts_below parts)
    one NoVertices lie more = absurd lie
    one (BlindVertex hash after) lie more = more
    one (InnerVertex i c s o) lie more = (lie.1, more)

lie_after : (u : SplitView) (below others : Forest SplitView) (parts : List Part) → AllLie (Root u below others) parts → AllLie others (parts_after parts)
lie_after u below others [] all = tt
lie_after u below others (part ∷ parts) all = (one part.views all.0, lie_after u below others parts all.1)
  where
    one : (v : Vertices) → Lies (Root u below others) v → Lies others (others_in v)
    one NoVertices lie = absurd lie
    one (BlindVertex hash after) lie = lie
    one (InnerVertex i c s o) lie = lie.2

together_is : (above : List ℕ) (k : ℕ) (parts : List Part) (f : Forest Sets) (v w : Forest SplitView) → AllLie v parts → map_forest sets_of v ≡ f
    → views_together above k parts f ≡ Some w → w ≡ v
together_is above k parts NoRoots NoRoots w all same e = sym (same_Some NoRoots w e)
together_is above k parts NoRoots (Root u below others) w all same e = absurd (no_forest (sym same))
together_is above k parts (Root x under after) NoRoots w all same e = absurd (no_forest same)
together_is above k parts (Root x under after) (Root u below others) w all same e =
    let path = above ++ k ∷ [] in
    let view = then_some _ (view_at path parts) w e in
    let inside = then_some _ (views_together path 0 (parts_below parts) under) w view.2 in
    let beside = then_some _ (views_together above (suc k) (parts_after parts) after) w inside.2 in
    let here = view_lies path parts u below others all view.0 view.1 in
    let b = together_is path 0 (parts_below parts) under below inside.0 (lie_below u below others parts all) (ap below_of same) inside.1 in
    let o = together_is above (suc k) (parts_after parts) after others beside.0 (lie_after u below others parts all) (ap others_of same) beside.1 in
    sym (same_Some (Root view.0 inside.0 beside.0) w beside.2) ∙ (λ i. Root (here i) (b i) (o i))
  where
    below_of : Forest Sets → Forest Sets
    below_of NoRoots = NoRoots
    below_of (Root sets below others) = below

    others_of : Forest Sets → Forest Sets
    others_of NoRoots = NoRoots
    others_of (Root sets below others) = others

module _ (topology : Topology) (packages : Packages) (request : Request) (sealed : IsSealedForm topology packages request) (framed : IsFramed topology request) where
  abbrev t : Transaction
  t = (sealed.whole).transaction

  abbrev all : Forest SplitView
  all = views topology packages request sealed

  abbrev f : Forest Sets
  f = map_forest sets_of (views topology packages request sealed)

  abbrev reading : Reading
  reading = framed_reading topology packages

  abbrev open_to : ℕ → OpenedTree
  open_to p = opened_of topology packages request sealed p

  outline_is : (facts.told topology request framed).outline ≡ f
  outline_is =
      sym (ap outline_in framed.spells ∙ ap forest_in (facts.told topology request framed).outline_read) ∙ outline topology packages request sealed

  agree : AreAgreed request
  agree = agreed topology packages request sealed

  -- ---- each view is opened by a complete envelope

  complete_here : (p : ℕ) → complete_in (offered_by topology p request (envelope topology packages request sealed p).bytes) ≡ Some (open_to p)
  complete_here p = ap complete_in (offered_here topology packages request sealed p)

  -- who sees a view is a recipient
  recipient_of : (p : ℕ) (path : Path) → In path (paths_seen topology p request) → In p (recipients topology packages request sealed)
  recipient_of p path there =
      let always : Path → Bool = λ q. true in
      let some : list_any always (paths_seen topology p request) ≡ true = in_any always (paths_seen topology p request) path there refl in
      let sight : has_sight (hosts_at topology.hosts p) all ≡ true =
      sym (some_paths (roles_by packages) (hosts_at topology.hosts p) t.roots)
      ∙ (ap (list_any always) (sym (seen topology packages request sealed p ∙ seen_paths_are (roles_by packages) (hosts_at topology.hosts p) t.roots)) ∙ some) in
      in_recipients topology.hosts all request.sender (sealed.whole).sender (sealed.can_be).sender_is p
      (or_right (nat_eq p request.sender) (has_sight (hosts_at topology.hosts p) all) sight)

  record Opens (path : Path) : Type 0 where
    participant : ℕ
    there : In participant (recipients topology packages request sealed)
    listed : is_listed (paths_seen topology participant request) path ≡ true

  opens_at : (path : Path) → In path (paths_in (paths_from [] 0 f)) → Opens path
  opens_at path h =
      let views_told = facts.views topology request framed in
      let same : views_told ≡ preorder (paths_from [] 0 f) = ap (λ (g : Forest Sets). preorder (paths_from [] 0 g)) outline_is in
      let v = from_map (λ (x : List ℕ × Sets). x.0) (preorder (paths_from [] 0 f)) path h in
      let listed : In v.0 views_told = subst (λ (xs : List (List ℕ × Sets)). In v.0 xs) (sym same) v.1 in
      let p = facts.confirmed topology request framed v.0 listed in
      let informs = facts.informed topology request framed p.0 v.0 listed p.1 in
      let kept = in_kept (λ (x : List ℕ × Sets). tells (hosts_at topology.hosts p.0) x.1) (paths_from [] 0 f) v.0 v.1 informs in
      let sees_it : In (v.0).0 (paths_seen topology p.0 request) =
      subst (λ (g : Forest Sets). In (v.0).0 (seen_in (hosts_at topology.hosts p.0) g)) (sym (outline topology packages request sealed))
      (in_map (λ (x : List ℕ × Sets). x.0) _ v.0 kept) in
      record {
        participant = p.0;
        there = recipient_of p.0 (v.0).0 sees_it;
        listed = in_any (bytes_eq path) (paths_seen topology p.0 request) (v.0).0 sees_it ((bytes_eq-Decides path (v.0).0).1 (sym v.2));
      }

  sent : (p : ℕ) → In p (recipients topology packages request sealed) → In (envelope topology packages request sealed p) request.envelopes
  sent p there =
      subst (λ (es : List Envelope). In (envelope topology packages request sealed p) es) (sym (envelopes_are topology packages request sealed))
      (in_map (envelope topology packages request sealed) (recipients topology packages request sealed) p there)

  -- ---- the views

  parts_lie : (ps : List ℕ) → AllLie all (parts_of topology request (map (envelope topology packages request sealed) ps))
  parts_lie [] = tt
  parts_lie (p ∷ ps) =
      one (complete_in (offered_by topology p request (envelope topology packages request sealed p).bytes)) (tree_in (envelope topology packages request sealed p).bytes) refl (parts_lie ps)
    where
      rest : List Part
      rest = parts_of topology request (map (envelope topology packages request sealed) ps)

      one : (c : Option OpenedTree) (u : Option Tree) → tree_in (envelope topology packages request sealed p).bytes ≡ u → AllLie all rest
          → AllLie all (part_if (is_listed (paths_seen topology p request)) c u ++ rest)
      one None u at more = more
      one (Some opened) None at more = more
      one (Some opened) (Some u) at more =
          let same : tree topology packages request sealed p ≡ u = same_Some (tree topology packages request sealed p) u (sym (again topology packages request sealed p) ∙ at) in
          (subst (λ (x : Tree). Lies all x.views) same (lies topology packages request sealed p), more)

  views_there : (w : Forest SplitView) × (whole_views topology request ≡ Some w)
  views_there =
      whole_is_there topology request agree (mediators topology packages request sealed) f (mediator_spells topology packages request sealed)
      (roles_are topology packages request sealed)
      (λ path h.
      let o = opens_at path h in (
        envelope topology packages request sealed o.participant,
        sent o.participant o.there,
        (open_to o.participant, complete_here o.participant),
        o.listed,
      ))

  views_are : whole_views topology request ≡ Some all
  views_are =
      let all_lie : AllLie all (parts_of topology request request.envelopes) =
      subst (λ (es : List Envelope). AllLie all (parts_of topology request es)) (sym (envelopes_are topology packages request sealed)) (parts_lie (recipients topology packages request sealed)) in
      let put : views_together [] 0 (parts_of topology request request.envelopes) f ≡ Some views_there.0 =
      sym (ap (views_together [] 0 (parts_of topology request request.envelopes)) (outline topology packages request sealed)) ∙ views_there.1 in
      views_there.1 ∙ ap (λ (w : Forest SplitView). Some w) (together_is [] 0 (parts_of topology request request.envelopes) f all views_there.0 all_lie refl put)

  -- ---- sender, ledger time and requesters

  head_is : head_of request ≡ Some ((sealed.whole).sender, t.ledger_time)
  head_is =
      ap (option_and_then (λ (u : Tree). found (read_leaf head_at u.common))) (mediator_spells topology packages request sealed)
      ∙ ap (λ (r : Result (List ℕ × ℕ) WireFault). found r)
      (head_again (sealed.whole).sender t.ledger_time ((sealed.can_be).in_range).sender_is ((sealed.can_be).in_range).time_fits)

  requesters_told : requesters_of topology request request.envelopes ≡ Some t.requesters
  requesters_told =
      let v = facts.some_view topology request framed in
      let o = opens_at (0 ∷ []) (root_path f v.0 (subst (λ (g : Forest Sets). In v.0 (preorder (paths_from [] 0 g))) outline_is v.1)) in
      let p = o.participant in
      let e = envelope topology packages request sealed p in
      let paths = paths_seen topology p request in
      let w = from_any (bytes_eq (0 ∷ [])) paths o.listed in
      let root : sees_root_view topology p request ≡ true = in_any is_root_path paths w.0 w.1 (ap is_root_path (sym ((bytes_eq-Decides (0 ∷ []) w.0).0 w.2))) in
      let names = requesters_there topology request agree request.envelopes e (open_to p) (sent p o.there) (complete_here p) root in
      let here = within_all topology request agree request.envelopes e (sent p o.there) in
      let tells_them = requesters_are topology request agree names.0 names.1 p e.bytes (open_to p) (inr here) (complete_here p) in
      let theirs : Some t.requesters ≡ Some names.0 =
      sym (ap (λ (b : Bool). if b then Some t.requesters else None) (sym (sees topology packages request sealed p) ∙ root))
      ∙ (tells_them ∙ ap (λ (b : Bool). if b then Some names.0 else None) root) in
      names.1 ∙ sym theirs

  -- ---- all of it

  whole_read : whole_of topology request
      ≡ Some (record { sender = (sealed.whole).sender; ledger_time = t.ledger_time; requesters = t.requesters; views = all })
  whole_read = λ i. whole_with (head_is i) (requesters_told i) (views_are i)

  pub read_back : reading.whole request ≡ Some t
  read_back =
      ap (option_map transaction_of) whole_read
      ∙ ap (λ (roots : Forest Act). Some (record { requesters = t.requesters; ledger_time = t.ledger_time; roots = roots }))
      (assembled_split (roles_by packages) t.roots)

  pub by_rules : IsByRules reading request (sealed.whole).sender t
  by_rules =
      record {
        is_whole = read_back;
        told = told topology packages request sealed;
        known = known topology (the_language packages) (conforms packages) is_authentic request framed;
        shown = λ p shown h. sym (shown_by_rules topology packages request sealed p) ∙ h;
      }

  -- so it is sound, whether anybody vouches for its views or not
  pub sealed_sound : IsSound reading request
  sealed_sound =
      sound_with_roles reading request (sealed.whole).sender t (λ p name h. confirmer_hosts topology.hosts p name h) (they_have packages) by_rules
      (sealed.can_be).has_roles
