-- Where each view is open to somebody, all are there together.
use Rattle.std.proofs.Common.{◌≡◌, ℕ, suc, Bool, true, false, List, [], ◌∷◌, ◌++◌, Ok, refl, sym, ap, ◌∙◌, subst, inl, inr, arith}
use Rattle.std.specs.Prelude.{Option, Some, None, if◌then◌else◌}
use Rattle.std.proofs.lemmas.Bool.{cases_Bool, both_ways}
use Rattle.ledger_terms.specs.Forest.{Forest, NoRoots, Root, join, paths_from, project}
use Rattle.ledger_model.proofs.Lists.{In, in_append_left, in_append_right}
use Rattle.view_split.specs.ViewTrees.{View}
use Rattle.view_split.specs.declared.placed_view.PlacedView.{PlacedView}
use Rattle.view_split.specs.declared.split_view.SplitView.{SplitView}
use Rattle.blind_tree.specs.Agreement.{Agree}
use Rattle.blind_tree.specs.Leaves.{Sets}
use Rattle.blind_tree.specs.OpenedFor.{are_listed, missing, views_listed}
use Rattle.blind_tree.specs.Opening.{ViewParts, parts_read, placed, view_read, views_read, with_read}
use Rattle.blind_tree.specs.Vertices.{Vertices, NoVertices, BlindVertex, InnerVertex, count}
use Rattle.framed_form.specs.Frames.{paths_in, roles_read}
use Rattle.canton_model.specs.Timeline.{or_else}
use Rattle.framed_form.specs.Together.{Part, below_in, first_view, others_in, parts_after, parts_below, split_view, view_at, view_in, views_together}
use Rattle.framed_form.proofs.Listed.{Lists, kept_in, one_on, paths_append, paths_root}
use Rattle.framed_form.proofs.Lying.{Stand, done, empty, hidden_below, if_there, later_stands, below_stands, no_root, no_views, read_ok, same_ok, told_parts}

-- no view of a forest is open
abbrev pub NoneOpen : (List ℕ → Bool) → List ℕ → ℕ → Forest Sets → Type 0
NoneOpen opens above k NoRoots = Unit {0}
NoneOpen opens above k (Root x below rest) = (opens (above ++ k ∷ []) ≡ false) × NoneOpen opens (above ++ k ∷ []) 0 below × NoneOpen opens above (suc k) rest

-- Vertices show each view that is open: its leaves are read, and none is open below one that shows its hash alone.
abbrev pub Shows : (List ℕ → Bool) → List ℕ → ℕ → Forest Sets → Vertices → Type 0
Shows opens above k NoRoots NoVertices = Unit {0}
Shows opens above k NoRoots (BlindVertex hash others) = ⊥
Shows opens above k NoRoots (InnerVertex informees contents subviews others) = ⊥
Shows opens above k (Root x below rest) NoVertices = ⊥
Shows opens above k (Root x below rest) (BlindVertex hash others) =
    (opens (above ++ k ∷ []) ≡ false) × NoneOpen opens (above ++ k ∷ []) 0 below × Shows opens above (suc k) rest others
Shows opens above k (Root x below rest) (InnerVertex informees contents subviews others) =
    (opens (above ++ k ∷ []) ≡ true → (parts : ViewParts) × (parts_read informees contents (count subviews) ≡ Ok parts))
    × Shows opens (above ++ k ∷ []) 0 below subviews
    × Shows opens above (suc k) rest others

-- ---- what a tree that opens what is listed shows

-- all is read, so each view is shown
all_shown : (opens : List ℕ → Bool) (above : List ℕ) (k : ℕ) (f : Forest Sets) (m v : Vertices) (g : Forest SplitView) → roles_read m ≡ Ok f → Agree v m → views_read v ≡ Ok g → Shows opens above k f v
all_shown opens above k NoRoots NoVertices NoVertices g told agree e = tt
all_shown opens above k NoRoots NoVertices (BlindVertex hash others) g told agree e = absurd agree
all_shown opens above k NoRoots NoVertices (InnerVertex i c s o) g told agree e = absurd agree
all_shown opens above k NoRoots (BlindVertex hash others) v g told agree e = absurd cc
all_shown opens above k NoRoots (InnerVertex i c s o) v g told agree e = absurd (no_views i c s o told)
all_shown opens above k (Root x below rest) NoVertices v g told agree e = absurd (no_root (sym (same_ok NoRoots (Root x below rest) told)))
all_shown opens above k (Root x below rest) (BlindVertex hash others) v g told agree e = absurd cc
all_shown opens above k (Root x below rest) (InnerVertex mi mc ms mo) NoVertices g told agree e = absurd agree
all_shown opens above k (Root x below rest) (InnerVertex mi mc ms mo) (BlindVertex hash others) g told agree e = absurd cc
all_shown opens above k (Root x below rest) (InnerVertex mi mc ms mo) (InnerVertex i c s o) g told agree e =
    let t = told_parts mi mc ms mo x below rest told in
    let parts = read_ok (parts_read i c (count s)) _ g e in
    let under = read_ok (views_read s) _ g parts.2 in
    let after = read_ok (views_read o) _ g under.2 in (
      λ is. (parts.0, parts.1),
      all_shown opens (above ++ k ∷ []) 0 below ms s under.0 t.below_is agree.2 under.1,
      all_shown opens above (suc k) rest mo o after.0 t.rest_is agree.3 after.1,
    )

module _ (keeps : Sets → Bool) where
  abbrev seen : Forest (List ℕ × Sets) → Forest (List ℕ × Sets)
  seen f = project (λ (v : List ℕ × Sets). keeps v.1) f

  join_none : {A : Type 0} (f g : Forest A) → join f g ≡ NoRoots → (f ≡ NoRoots) × (g ≡ NoRoots)
  join_none NoRoots g e = (refl, e)
  join_none (Root x b o) g e = absurd (no_end e)
    where
      no_end : Root x b (join o g) ≡ NoRoots → ⊥
      no_end h = cc

  none_open : (listed : List ℕ → Bool) (above : List ℕ) (k : ℕ) (f : Forest Sets) → Lists keeps listed false above k f → seen (paths_from above k f) ≡ NoRoots → NoneOpen listed above k f
  none_open listed above k NoRoots lists e = tt
  none_open listed above k (Root x below rest) lists e =
      let path = above ++ k ∷ [] in
      elim (cases_Bool (keeps x)) [
        | inl is ↦
            (let root : Root (path, x) (paths_from path 0 below) (seen (paths_from above (suc k) rest)) ≡ NoRoots = rw is at e in
            absurd (no_end root))
        | inr out ↦
            (let both : join (seen (paths_from path 0 below)) (seen (paths_from above (suc k) rest)) ≡ NoRoots = rw out at e in
            let two = join_none (seen (paths_from path 0 below)) (seen (paths_from above (suc k) rest)) both in
            let lists' : Lists keeps listed false path 0 below = subst (λ (b : Bool). Lists keeps listed b path 0 below) out lists.1 in
            (lists.0 ∙ out, none_open listed path 0 below lists' two.0, none_open listed above (suc k) rest lists.2 two.1))
      ]
    where
      no_end : {y : List ℕ × Sets} {a b : Forest (List ℕ × Sets)} → Root y a b ≡ NoRoots → ⊥
      no_end h = cc

  -- what is opened for what is listed is shown
  pub shows_listed : (listed : List ℕ → Bool) (above : List ℕ) (k : ℕ) (f : Forest Sets) (m v : Vertices) (ps : List PlacedView)
      → roles_read m ≡ Ok f → Agree v m → Lists keeps listed false above k f → Stand above k v (paths_in (seen (paths_from above k f)))
      → views_listed listed above k v ≡ Ok ps → Shows listed above k f v
  shows_listed listed above k NoRoots NoVertices NoVertices ps told agree lists stand e = tt
  shows_listed listed above k NoRoots NoVertices (BlindVertex hash others) ps told agree lists stand e = absurd agree
  shows_listed listed above k NoRoots NoVertices (InnerVertex i c s o) ps told agree lists stand e = absurd agree
  shows_listed listed above k NoRoots (BlindVertex hash others) v ps told agree lists stand e = absurd cc
  shows_listed listed above k NoRoots (InnerVertex i c s o) v ps told agree lists stand e = absurd (no_views i c s o told)
  shows_listed listed above k (Root x below rest) NoVertices v ps told agree lists stand e = absurd (no_root (sym (same_ok NoRoots (Root x below rest) told)))
  shows_listed listed above k (Root x below rest) (BlindVertex hash others) v ps told agree lists stand e = absurd cc
  shows_listed listed above k (Root x below rest) (InnerVertex mi mc ms mo) NoVertices ps told agree lists stand e = absurd agree
  shows_listed listed above k (Root x below rest) (InnerVertex mi mc ms mo) (BlindVertex hash others) ps told agree lists stand e =
      let path = above ++ k ∷ [] in
      let under = seen (paths_from path 0 below) in
      let after = seen (paths_from above (suc k) rest) in
      let t = told_parts mi mc ms mo x below rest told in
      elim (cases_Bool (keeps x)) [
        | inl is ↦
            (let here : listed path ≡ true = lists.0 ∙ is in
            let none : missing ≡ done ps = rw here at e in
            absurd (not_there ps none))
        | inr out ↦
            (let here : listed path ≡ false = lists.0 ∙ out in
            let more : views_listed listed above (suc k) others ≡ Ok ps = rw here at e in
            let stand' : Stand above k (BlindVertex hash others) (paths_in (join under after)) = rw out at stand in
            let nothing : under ≡ NoRoots = empty under (λ q h. hidden_below above k hash others under after stand' q h (kept_in keeps path 0 below q h)) in
            let lists' : Lists keeps listed false path 0 below = subst (λ (b : Bool). Lists keeps listed b path 0 below) out lists.1 in (
              here,
              none_open listed path 0 below lists' nothing,
              shows_listed listed above (suc k) rest mo others ps t.rest_is agree lists.2 (λ step more' l h. later_stands above k step more' (BlindVertex hash others) l
                  (stand' step more' (omega (arith, l)) (subst (In (above ++ step ∷ more')) (sym (paths_append under after)) (in_append_right (paths_in under) (paths_in after) (above ++ step ∷ more') h)))) more,
            ))
      ]
    where
      not_there : {A : Type 0} (y : A) → missing ≡ done y → ⊥
      not_there y h = cc
  shows_listed listed above k (Root x below rest) (InnerVertex mi mc ms mo) (InnerVertex i c s o) ps told agree lists stand e =
      let path = above ++ k ∷ [] in
      let after = seen (paths_from above (suc k) rest) in
      let t = told_parts mi mc ms mo x below rest told in
      elim (cases_Bool (keeps x)) [
        | inl is ↦
            (let here : listed path ≡ true = lists.0 ∙ is in
            let e1 : (if are_listed listed path 0 s then with_read (view_read i c s) (λ (view : View). with_read (views_listed listed above (suc k) o) (λ (more : List PlacedView). done (placed path view ∷ more))) else missing) ≡ Ok ps = rw here at e in
            let all = if_there (are_listed listed path 0 s) _ ps e1 in
            let view = read_ok (view_read i c s) _ ps all.1 in
            let more = read_ok (views_listed listed above (suc k) o) _ ps view.2 in
            let parts = read_ok (parts_read i c (count s)) _ view.0 view.1 in
            let under = read_ok (views_read s) _ view.0 parts.2 in
            let stand' : Stand above k (InnerVertex i c s o) (paths_in (Root (path, x) (paths_from path 0 below) after)) = rw is at stand in (
              λ h. (parts.0, parts.1),
              all_shown listed path 0 below ms s under.0 t.below_is agree.2 under.1,
              shows_listed listed above (suc k) rest mo o more.0 t.rest_is agree.3 lists.2 (λ step more' l h. later_stands above k step more' (InnerVertex i c s o) l
                  (stand' step more' (omega (arith, l)) (subst (In (above ++ step ∷ more')) (sym (paths_root (path, x) (paths_from path 0 below) after))
                  (inr (in_append_right (paths_in (paths_from path 0 below)) (paths_in after) (above ++ step ∷ more') h))))) more.1,
            ))
        | inr out ↦
            (let here : listed path ≡ false = lists.0 ∙ out in
            let under = seen (paths_from path 0 below) in
            let e1 : with_read (views_listed listed path 0 s) (λ (first : List PlacedView). with_read (views_listed listed above (suc k) o) (λ (more : List PlacedView). done (first ++ more))) ≡ Ok ps = rw here at e in
            let first = read_ok (views_listed listed path 0 s) _ ps e1 in
            let more = read_ok (views_listed listed above (suc k) o) _ ps first.2 in
            let stand' : Stand above k (InnerVertex i c s o) (paths_in (join under after)) = rw out at stand in
            let lists' : Lists keeps listed false path 0 below = subst (λ (b : Bool). Lists keeps listed b path 0 below) out lists.1 in (
              λ h. absurd (both_ways (listed path) here h),
              shows_listed listed path 0 below ms s first.0 t.below_is agree.2 lists' (λ step more' l h. below_stands k step more' i c s o
                  (stand' k (step ∷ more') (omega arith) (subst (λ (q : List ℕ). In q (paths_in (join under after))) (one_on above k (step ∷ more'))
                  (subst (In (path ++ step ∷ more')) (sym (paths_append under after)) (in_append_left (paths_in under) (paths_in after) (path ++ step ∷ more') h))))) first.1,
              shows_listed listed above (suc k) rest mo o more.0 t.rest_is agree.3 lists.2 (λ step more' l h. later_stands above k step more' (InnerVertex i c s o) l
                  (stand' step more' (omega (arith, l)) (subst (In (above ++ step ∷ more')) (sym (paths_append under after)) (in_append_right (paths_in under) (paths_in after) (above ++ step ∷ more') h)))) more.1,
            ))
      ]

-- ---- all views together

abbrev pub AllShow : List ℕ → ℕ → Forest Sets → List Part → Type 0
AllShow above k f [] = Unit {0}
AllShow above k f (part ∷ parts) = Shows part.opens above k f part.views × AllShow above k f parts

-- some part opens each view
abbrev pub Covered : List Part → List ℕ → ℕ → Forest Sets → Type 0
Covered parts above k NoRoots = Unit {0}
Covered parts above k (Root x below rest) =
    ((part : Part) × In part parts × (part.opens (above ++ k ∷ []) ≡ true)) × Covered parts (above ++ k ∷ []) 0 below × Covered parts above (suc k) rest

first_there : (path : List ℕ) (parts : List Part) (part : Part) (x : SplitView) → In part parts → view_in path part ≡ Some x → (y : SplitView) × (view_at path parts ≡ Some y)
first_there path [] part x h e = absurd h
first_there path (p ∷ parts) part x (inl same) e = (x, rw (ap (view_in path) same ∙ e) refl)
first_there path (p ∷ parts) part x (inr later) e =
    let more = first_there path parts part x later e in
    by_first (view_in path p) refl more
  where
    by_first : (r : Option SplitView) → view_in path p ≡ r → (y : SplitView) × (view_at path parts ≡ Some y) → (y : SplitView) × (or_else (view_in path p) (view_at path parts) ≡ Some y)
    by_first None is more = (more.0, rw is more.1)
    by_first (Some u) is more = (u, rw is refl)

module _ (above : List ℕ) (k : ℕ) (x : Sets) (below rest : Forest Sets) where
  abbrev path : List ℕ
  path = above ++ k ∷ []

  shown_view : (parts : List Part) (part : Part) → AllShow above k (Root x below rest) parts → In part parts → part.opens path ≡ true → (y : SplitView) × (view_in path part ≡ Some y)
  shown_view [] part all h is = absurd h
  shown_view (p ∷ parts) part all (inl same) is = one part (subst (λ (q : Part). Shows q.opens above k (Root x below rest) q.views) same all.0) is
    where
      one : (q : Part) → Shows q.opens above k (Root x below rest) q.views → q.opens path ≡ true → (y : SplitView) × (view_in path q ≡ Some y)
      one q shows is' = by_views q.views shows
        where
          by_views : (v : Vertices) → Shows q.opens above k (Root x below rest) v → (y : SplitView) × ((if q.opens path then first_view v else None) ≡ Some y)
          by_views NoVertices s = absurd s
          by_views (BlindVertex hash others) s = absurd (both_ways (q.opens path) s.0 is')
          by_views (InnerVertex i c sub others) s = let r = s.0 is' in (split_view r.0, rw (is', r.1) refl)
  shown_view (p ∷ parts) part all (inr later) is = shown_view parts part all.1 later is

  -- what stands below and after
  show_below : (parts : List Part) → AllShow above k (Root x below rest) parts → AllShow path 0 below (parts_below parts)
  show_below [] all = tt
  show_below (p ∷ parts) all = one p.views all.0 (show_below parts all.1)
    where
      one : (v : Vertices) → Shows p.opens above k (Root x below rest) v → AllShow path 0 below (parts_below parts) → AllShow path 0 below (below_in p.opens v ++ parts_below parts)
      one NoVertices s more = absurd s
      one (BlindVertex hash others) s more = more
      one (InnerVertex i c sub others) s more = (s.1, more)

  show_after : (parts : List Part) → AllShow above k (Root x below rest) parts → AllShow above (suc k) rest (parts_after parts)
  show_after [] all = tt
  show_after (p ∷ parts) all = (one p.views all.0, show_after parts all.1)
    where
      one : (v : Vertices) → Shows p.opens above k (Root x below rest) v → Shows p.opens above (suc k) rest (others_in v)
      one NoVertices s = absurd s
      one (BlindVertex hash others) s = s.2
      one (InnerVertex i c sub others) s = s.2

  -- a part that opens something below isn't blind here
  kept_below : (parts : List Part) (part : Part) → AllShow above k (Root x below rest) parts → In part parts → (NoneOpen part.opens path 0 below → ⊥)
      → (q : Part) × In q (parts_below parts) × (q.opens ≡ part.opens)
  kept_below [] part all h some = absurd h
  kept_below (p ∷ parts) part all (inl same) some = one p.views all.0
    where
      one : (v : Vertices) → Shows p.opens above k (Root x below rest) v → (q : Part) × In q (below_in p.opens v ++ parts_below parts) × (q.opens ≡ part.opens)
      one NoVertices s = absurd s
      one (BlindVertex hash others) s = absurd (some (subst (λ (o : List ℕ → Bool). NoneOpen o path 0 below) (ap (λ (r : Part). r.opens) same) s.1))
      one (InnerVertex i c sub others) s = (record { opens = p.opens; views = sub }, inl refl, ap (λ (r : Part). r.opens) same)
  kept_below (p ∷ parts) part all (inr later) some =
      let more = kept_below parts part all.1 later some in
      (more.0, in_append_right (below_in p.opens p.views) (parts_below parts) more.0 more.1, more.2)

kept_after : (parts : List Part) (part : Part) → In part parts → (q : Part) × In q (parts_after parts) × (q.opens ≡ part.opens)
kept_after [] part h = absurd h
kept_after (p ∷ parts) part (inl same) = (record { opens = p.opens; views = others_in p.views }, inl refl, ap (λ (r : Part). r.opens) same)
kept_after (p ∷ parts) part (inr later) = let more = kept_after parts part later in (more.0, inr more.1, more.2)

-- covers carry over where each opener of something there has a successor
carried : (parts next : List Part) (above : List ℕ) (k : ℕ) (f : Forest Sets)
    → ((part : Part) → In part parts → (NoneOpen part.opens above k f → ⊥) → (q : Part) × In q next × (q.opens ≡ part.opens))
    → Covered parts above k f → Covered next above k f
carried parts next above k NoRoots go covered = tt
carried parts next above k (Root x below rest) go covered =
    let c = covered.0 in
    let path = above ++ k ∷ [] in
    let q = go c.0 c.1 (λ none. both_ways ((c.0).opens path) none.0 c.2) in (
      (q.0, q.1, ap (λ (o : List ℕ → Bool). o path) q.2 ∙ c.2),
      carried parts next path 0 below (λ part h some. go part h (λ none. some none.1)) covered.1,
      carried parts next above (suc k) rest (λ part h some. go part h (λ none. some none.2)) covered.2,
    )

-- where each view is open to somebody, all are there
pub together_there : (above : List ℕ) (k : ℕ) (parts : List Part) (f : Forest Sets) → AllShow above k f parts → Covered parts above k f → (w : Forest SplitView) × (views_together above k parts f ≡ Some w)
together_there above k parts NoRoots all covered = (NoRoots, refl)
together_there above k parts (Root x below rest) all covered =
    let path = above ++ k ∷ [] in
    let c = covered.0 in
    let shown = shown_view above k x below rest parts c.0 all c.1 c.2 in
    let here = first_there path parts c.0 shown.0 c.1 shown.1 in
    let b = together_there path 0 (parts_below parts) below (show_below above k x below rest parts all)
    (carried parts (parts_below parts) path 0 below (λ part h some. kept_below above k x below rest parts part all h some) covered.1) in
    let r = together_there above (suc k) (parts_after parts) rest (show_after above k x below rest parts all)
    (carried parts (parts_after parts) above (suc k) rest (λ part h some. kept_after parts part h) covered.2) in
    (Root here.0 b.0 r.0, rw (here.1, b.1, r.1) refl)
