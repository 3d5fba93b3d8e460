-- A walk through trees, one root at a time.
use Rattle.std.proofs.Common.{◌≡◌, ℕ, ◌+◌, ◌<◌, ◌%◌, ◌^◌, ◌-◌, Bool, true, false, List, [], ◌∷◌, ◌++◌, Option, Some, None, length, get_or, take, drop, refl, sym, ◌∙◌, ap, arith, append_assoc, append-nil, length-append, add-one, inl, inr}
use Rattle.std.proofs.lemmas.List.{drop_more}
use Rattle.std.proofs.lemmas.Bool.{cases_Bool}
use Rattle.ledger_terms.specs.declared.act.Act.{Act}
use Rattle.ledger_terms.specs.Grown.{forest_of}
use Rattle.ledger_terms.specs.Trees.{ActionNode}
use Rattle.consist.specs.First.{acts_in, first_found}
use Rattle.consist.specs.Walked.{placed_from, IsWalked}

module _ {P : Type 0} (test : List Act → Act → Bool) where
  pub found_front : (before : List Act) (xs ys : List (P × Act)) (at : P) → first_found test before xs ≡ Some at → first_found test before (xs ++ ys) ≡ Some at
  found_front before [] ys at h = cc
  found_front before (x ∷ xs) ys at h =
      elim (cases_Bool (test before x.1)) [
        | inl b ↦ rw b (rw b at h)
        | inr b ↦ rw b (found_front (before ++ x.1 ∷ []) xs ys at (rw b at h))
      ]

  pub found_back : (before : List Act) (xs ys : List (P × Act)) → first_found test before xs ≡ None → first_found test before (xs ++ ys) ≡ first_found test (before ++ acts_in xs) ys
  found_back before [] ys h = rw append-nil refl
  found_back before (x ∷ xs) ys h =
      elim (cases_Bool (test before x.1)) [
        | inl b ↦ let e : Some x.0 ≡ None = rw b at h in cc
        | inr b ↦ rw b (found_back (before ++ x.1 ∷ []) xs ys (rw b at h) ∙ ap (λ (e : List Act). first_found test e ys) (append_assoc before (x.1 ∷ []) (acts_in xs)))
      ]

pub acts_in-append : {P : Type 0} (xs ys : List (P × Act)) → acts_in (xs ++ ys) ≡ acts_in xs ++ acts_in ys
acts_in-append [] ys = refl
acts_in-append {P} (x ∷ xs) ys = ap (λ (acts : List Act). x.1 ∷ acts) (acts_in-append xs ys)

-- the actions of one tree below a path, of which it is root k
abbrev pub tree_places : List ℕ → ActionNode → List (List ℕ × Act)
tree_places path n = (path, n.root) ∷ placed_from path 0 n.below

pub next_tree : (above : List ℕ) (ns : List ActionNode) (i : ℕ) (n : ActionNode) → i < length ns → n ≡ get_or ns i n
    → placed_from above i (forest_of (drop i ns)) ≡ tree_places (above ++ i % 2 ^ 16 ∷ []) n ++ placed_from above (i + 1) (forest_of (drop (i + 1) ns))
next_tree above ns i n h e = rw (drop_more ns i n h, ← e, add-one) refl

pub stop_of : (test : List Act → Act → Bool) (e : List Act) (path : List ℕ) (placed : List (List ℕ × Act)) (stopped : Bool) (met : List Act) (left : List ℕ) → stopped ≡ true → IsWalked test e path placed stopped met left → first_found test e placed ≡ Some left
stop_of test e path placed true met left h w = w
stop_of test e path placed false met left h w = cc

pub go_of : (test : List Act → Act → Bool) (e : List Act) (path : List ℕ) (placed : List (List ℕ × Act)) (stopped : Bool) (met : List Act) (left : List ℕ) → stopped ≡ false → IsWalked test e path placed stopped met left → (first_found test e placed ≡ None) × (met ≡ e ++ acts_in placed) × (left ≡ path)
go_of test e path placed true met left h w = cc
go_of test e path placed false met left h w = w

-- The next tree is walked, whose root stands at the path `mid`.
module _ (test : List Act → Act → Bool) (e met : List Act) (path mid left : List ℕ) (stopped : Bool) (ns : List ActionNode) (i : ℕ) (n : ActionNode) (within : i < length ns) (is : n ≡ get_or ns i n) (mid_is : mid ≡ path ++ i % 2 ^ 16 ∷ []) (walked : IsWalked test e mid (tree_places mid n) stopped met left) where
  next : placed_from path i (forest_of (drop i ns)) ≡ tree_places mid n ++ placed_from path (i + 1) (forest_of (drop (i + 1) ns))
  next = next_tree path ns i n within is ∙ ap (λ (p : List ℕ). tree_places p n ++ placed_from path (i + 1) (forest_of (drop (i + 1) ns))) (sym mid_is)

  -- it stops there
  pub stop_step : (all : Option (List ℕ)) → stopped ≡ true → first_found test e (placed_from path i (forest_of (drop i ns))) ≡ all → all ≡ Some left
  stop_step all stops before =
      sym before ∙ (ap (first_found test e) next ∙ found_front test e (tree_places mid n) (placed_from path (i + 1) (forest_of (drop (i + 1) ns))) left (stop_of test e mid (tree_places mid n) stopped met left stops walked))

  -- it goes on behind it
  pub go_step : (all : Option (List ℕ)) → stopped ≡ false → first_found test e (placed_from path i (forest_of (drop i ns))) ≡ all → first_found test met (placed_from path (i + 1) (forest_of (drop (i + 1) ns))) ≡ all
  go_step all goes before =
      let w = go_of test e mid (tree_places mid n) stopped met left goes walked in
      ap (λ (m : List Act). first_found test m (placed_from path (i + 1) (forest_of (drop (i + 1) ns)))) w.1
      ∙ (sym (found_back test e (tree_places mid n) (placed_from path (i + 1) (forest_of (drop (i + 1) ns))) w.0) ∙ (sym (ap (first_found test e) next) ∙ before))

  pub met_step : (whole : List Act) → stopped ≡ false → e ++ acts_in (placed_from path i (forest_of (drop i ns))) ≡ whole → met ++ acts_in (placed_from path (i + 1) (forest_of (drop (i + 1) ns))) ≡ whole
  met_step whole goes before =
      let w = go_of test e mid (tree_places mid n) stopped met left goes walked in
      let rest : List (List ℕ × Act) = placed_from path (i + 1) (forest_of (drop (i + 1) ns)) in
      ap (λ (m : List Act). m ++ acts_in rest) w.1
      ∙ (append_assoc e (acts_in (tree_places mid n)) (acts_in rest)
      ∙ (ap (λ (acts : List Act). e ++ acts) (sym (acts_in-append (tree_places mid n) rest))
      ∙ (ap (λ (xs : List (List ℕ × Act)). e ++ acts_in xs) (sym next) ∙ before)))

  pub left_step : stopped ≡ false → left ≡ path ++ i % 2 ^ 16 ∷ []
  left_step goes = (go_of test e mid (tree_places mid n) stopped met left goes walked).2 ∙ mid_is

pub last_off : (ys : List ℕ) (s : ℕ) (xs : List ℕ) (k : ℕ) → k ≡ length xs → xs ≡ ys ++ s ∷ [] → take (k - 1) xs ≡ ys
last_off ys s xs k count e = rw (count, e) (let n : length (ys ++ s ∷ []) - 1 ≡ length ys = omega (arith, length-append ys (s ∷ [])) in rw n (take_front ys (s ∷ [])))
  where
    take_front : (us vs : List ℕ) → take (length us) (us ++ vs) ≡ us
    take_front [] vs = refl
    take_front (u ∷ us) vs = ap (λ (zs : List ℕ). u ∷ zs) (take_front us vs)
