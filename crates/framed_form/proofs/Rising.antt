-- The paths of what a tree opens rise.
use Rattle.std.proofs.Common.{◌≡◌, ℕ, suc, ◌≤◌, ◌<◌, Bool, true, List, [], ◌∷◌, ◌++◌, Ok, refl, sym, ap, ◌∙◌, subst, inl, inr, arith}
use Rattle.std.specs.Prelude.{if◌then◌else◌}
use Rattle.std.specs.Cmp.{ranks}
use Rattle.std.specs.Cmp.Lexicographic.{slice_cmp}
use Rattle.std.specs.Ordering.{MatchOrdering, is_lt, nat_cmp, ordering_then}
use Rattle.std.specs.declared.cmp.Ordering.{Ordering}
use Rattle.std.specs.declared.cmp.Ordering.TheVariants.{Less, Equal, Greater}
use Rattle.std.proofs.lemmas.Bool.{cases_Bool}
use Rattle.ledger_terms.specs.Forest.{Forest, NoRoots, Root, join, paths_from}
use Rattle.ledger_terms.specs.Parties.{AllAbove, IsRising, name_below}
use Rattle.ledger_model.proofs.Lists.{In, in_append_cases}
use Rattle.view_split.specs.Placed.{placed_forest}
use Rattle.view_split.specs.ViewTrees.{View}
use Rattle.view_split.specs.declared.opened_tree.OpenedTree.{OpenedTree}
use Rattle.view_split.specs.declared.placed_view.PlacedView.{PlacedView}
use Rattle.view_split.specs.declared.split_view.SplitView.{SplitView}
use Rattle.framed_form.specs.Frames.{paths_in}
use Rattle.blind_tree.specs.OpenedFor.{are_listed, is_listed, missing, views_listed}
use Rattle.blind_tree.specs.Opening.{placed, view_read, with_read}
use Rattle.blind_tree.specs.Vertices.{Vertices, NoVertices, BlindVertex, InnerVertex}
use Rattle.blind_tree.specs.declared.tree.Tree.{Tree}
use Rattle.framed_form.proofs.Listed.{Region, deeper, later, one_on, paths_append, paths_root}
use Rattle.framed_form.proofs.Lying.{done, if_there, read_ok, same_ok}
use Rattle.framed_form.proofs.Wholes.{Opens}

-- ---- the order of paths

tied : (x : ℕ) (o p : Ordering) → MatchOrdering o (x < x) (x ≡ x) (x < x) → ordering_then o p ≡ p
tied x Less p h = absurd (omega (arith, h))
tied x Equal p h = refl
tied x Greater p h = absurd (omega (arith, h))

less_first : (x y : ℕ) (o p : Ordering) → MatchOrdering o (x < y) (x ≡ y) (y < x) → suc x ≤ y → is_lt (ordering_then o p) ≡ true
less_first x y Less p h l = refl
less_first x y Equal p h l = absurd (omega (arith, h, l))
less_first x y Greater p h l = absurd (omega (arith, h, l))

below_later : (above : List ℕ) (j k : ℕ) (r s : List ℕ) → suc j ≤ k → name_below (above ++ j ∷ r) (above ++ k ∷ s) ≡ true
below_later [] j k r s l = less_first j k (nat_cmp j k) (slice_cmp nat_cmp r s) (ranks j k) l
below_later (a ∷ above) j k r s l =
    ap is_lt (tied a (nat_cmp a a) (slice_cmp nat_cmp (above ++ j ∷ r) (above ++ k ∷ s)) (ranks a a)) ∙ below_later above j k r s l

below_deeper : (path : List ℕ) (step : ℕ) (rest : List ℕ) → name_below path (path ++ step ∷ rest) ≡ true
below_deeper [] step rest = refl
below_deeper (a ∷ path) step rest =
    ap is_lt (tied a (nat_cmp a a) (slice_cmp nat_cmp path (path ++ step ∷ rest)) (ranks a a)) ∙ below_deeper path step rest

above_all : (p : List ℕ) (qs : List (List ℕ)) → ((q : List ℕ) → In q qs → name_below p q ≡ true) → AllAbove p qs
above_all p [] h = tt
above_all p (q ∷ qs) h = (h q (inl refl), above_all p qs (λ r i. h r (inr i)))

above_append : (p : List ℕ) (s t : List (List ℕ)) → AllAbove p s → AllAbove p t → AllAbove p (s ++ t)
above_append p [] t h i = i
above_append p (a ∷ s) t h i = (h.0, above_append p s t h.1 i)

rising_append : (s t : List (List ℕ)) → IsRising s → IsRising t → ((a b : List ℕ) → In a s → In b t → name_below a b ≡ true) → IsRising (s ++ t)
rising_append [] t h i cross = i
rising_append (a ∷ s) t h i cross =
    (above_append a s t h.0 (above_all a t (λ b j. cross a b (inl refl) j)), rising_append s t h.1 i (λ c b j k. cross c b (inr j) k))

-- ---- paths of forests

-- paths rise, and stand below this one at a number from k on
abbrev Rises : List ℕ → ℕ → List (List ℕ) → Type 0
Rises above k paths = IsRising paths × ((q : List ℕ) → In q paths → Region above k q)

module _ (above : List ℕ) (k : ℕ) where
  abbrev path : List ℕ
  path = above ++ k ∷ []

  -- what stands below one stands before what stands after it
  across : (a b : List ℕ) → Region path 0 a → Region above (suc k) b → name_below a b ≡ true
  across a b r s =
      let l = s.least in
      let one : name_below (above ++ k ∷ (r.step ∷ r.rest)) (above ++ s.step ∷ s.rest) ≡ true = below_later above k s.step (r.step ∷ r.rest) s.rest (omega (arith, l)) in
      let first : a ≡ above ++ k ∷ (r.step ∷ r.rest) = r.is ∙ one_on above k (r.step ∷ r.rest) in
      (λ i. name_below (first i) (s.is i)) ∙ one

  both_rise : (u a : List (List ℕ)) → Rises path 0 u → Rises above (suc k) a → Rises above k (u ++ a)
  both_rise u a hu ha = (
    rising_append u a hu.0 ha.0 (λ x y i j. across x y (hu.1 x i) (ha.1 y j)),
    λ q i. elim (in_append_cases u a q i) [ inl j ↦ deeper above k q (hu.1 q j) | inr j ↦ later above k q (ha.1 q j) ],
  )

  one_rises : (u a : List (List ℕ)) → Rises path 0 u → Rises above (suc k) a → Rises above k (path ∷ (u ++ a))
  one_rises u a hu ha =
      let both = both_rise u a hu ha in (
        (
          above_append path u a
              (above_all path u (λ q i. let r = hu.1 q i in ap (name_below path) r.is ∙ below_deeper path r.step r.rest))
              (above_all path a (λ q i. let r = ha.1 q i in let l = r.least in ap (name_below path) r.is ∙ below_later above k r.step [] r.rest (omega (arith, l)))),
          both.0,
        ),
        λ q i. elim i [ inl same ↦ record { step = k; rest = []; least = omega arith; is = sym same } | inr j ↦ both.1 q j ],
      )

forest_rises : {A : Type 0} (above : List ℕ) (k : ℕ) (f : Forest A) → Rises above k (paths_in (paths_from above k f))
forest_rises above k NoRoots = (tt, λ q i. absurd i)
forest_rises {A} above k (Root x below others) =
    let path = above ++ k ∷ [] in
    let under = paths_from path 0 below in
    let after = paths_from above (suc k) others in
    subst (Rises above k) (sym (paths_root (path, x) under after))
    (one_rises above k (paths_in under) (paths_in after) (forest_rises path 0 below) (forest_rises above (suc k) others))

-- ---- what is opened

pub placed_append : (ps qs : List PlacedView) → placed_forest (ps ++ qs) ≡ join (placed_forest ps) (placed_forest qs)
placed_append [] qs = refl
placed_append (p ∷ ps) qs = ap (Root (p.path, (p.view).root) (paths_from p.path 0 (p.view).below)) (placed_append ps qs)

abbrev pub paths_of : List PlacedView → List (List ℕ)
paths_of ps = paths_in (placed_forest ps)

listed_rises : (listed : List ℕ → Bool) (above : List ℕ) (k : ℕ) (v : Vertices) (ps : List PlacedView) → views_listed listed above k v ≡ Ok ps → Rises above k (paths_of ps)
listed_rises listed above k NoVertices ps e = subst (λ (qs : List PlacedView). Rises above k (paths_of qs)) (same_ok [] ps e) (tt, λ q i. absurd i)
listed_rises listed above k (BlindVertex hash others) ps e =
    elim (cases_Bool (listed (above ++ k ∷ []))) [
      | inl is ↦ (let none : missing ≡ done ps = rw is at e in absurd (not_there ps none))
      | inr out ↦
          (let more : views_listed listed above (suc k) others ≡ Ok ps = rw out at e in
          let r = listed_rises listed above (suc k) others ps more in
          (r.0, λ q i. later above k q (r.1 q i)))
    ]
  where
    not_there : {A : Type 0} (x : A) → missing ≡ done x → ⊥
    not_there x h = cc
listed_rises listed above k (InnerVertex i c s o) ps e =
    let path = above ++ k ∷ [] in
    elim (cases_Bool (listed path)) [
      | inl is ↦
          (let e1 : (if are_listed listed path 0 s then with_read (view_read i c s) (λ (view : View). with_read (views_listed listed above (suc k) o) (λ (more : List PlacedView). done (placed path view ∷ more))) else missing) ≡ Ok ps = rw is at e in
          let all = if_there (are_listed listed path 0 s) _ ps e1 in
          let view = read_ok (view_read i c s) _ ps all.1 in
          let more = read_ok (views_listed listed above (suc k) o) _ ps view.2 in
          let under = paths_from path 0 (view.0).below in
          subst (λ (qs : List PlacedView). Rises above k (paths_of qs)) (same_ok (placed path view.0 ∷ more.0) ps more.2)
          (subst (Rises above k) (sym (paths_root (path, (view.0).root) under (placed_forest more.0)))
          (one_rises above k (paths_in under) (paths_of more.0) (forest_rises path 0 (view.0).below) (listed_rises listed above (suc k) o more.0 more.1))))
      | inr out ↦
          (let e1 : with_read (views_listed listed path 0 s) (λ (first : List PlacedView). with_read (views_listed listed above (suc k) o) (λ (more : List PlacedView). done (first ++ more))) ≡ Ok ps = rw out at e in
          let first = read_ok (views_listed listed path 0 s) _ ps e1 in
          let more = read_ok (views_listed listed above (suc k) o) _ ps first.2 in
          let apart : paths_of (first.0 ++ more.0) ≡ paths_of first.0 ++ paths_of more.0 =
          ap (λ (f : Forest (List ℕ × SplitView)). paths_in f) (placed_append first.0 more.0) ∙ paths_append (placed_forest first.0) (placed_forest more.0) in
          subst (λ (qs : List PlacedView). Rises above k (paths_of qs)) (same_ok (first.0 ++ more.0) ps more.2)
          (subst (Rises above k) (sym apart)
          (both_rise above k (paths_of first.0) (paths_of more.0) (listed_rises listed path 0 s first.0 first.1) (listed_rises listed above (suc k) o more.0 more.1))))
    ]

-- the paths of what a tree opens rise
pub opened_rises : (seen : List (List ℕ)) (wanted : Bool) (t : Tree) (opened : OpenedTree) → Opens seen wanted t opened → IsRising (paths_in (placed_forest opened.views))
opened_rises seen wanted t opened opens = (listed_rises (is_listed seen) [] 0 t.views opened.views opens.views).0
