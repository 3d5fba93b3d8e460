-- Each action stands in the core of one view, with its number.
use Rattle.std.proofs.Common.{◌≡◌, ◌⊎◌, ◌<◌, ◌≤◌, ℕ, zero, suc, ◌+◌, true, false, List, [], ◌∷◌, ◌++◌, length, filter, Contains, Some, refl, sym, ap, ◌∙◌, subst, inl, inr, arith, length-append}
use Rattle.std.specs.Prelude.{slice_get, nat_eq}
use Rattle.std.proofs.lemmas.Bool.{cases_Bool, eq-eqb, eqb-true}
use Rattle.std.proofs.lemmas.Option.{same_Some, none-some}
use Rattle.ledger_terms.specs.declared.act.Act.{Act}
use Rattle.ledger_terms.specs.Forest.{Forest, NoRoots, Root, preorder, number_from, size}
use Rattle.ledger_terms.specs.declared.action.Action.{Action}
use Rattle.ledger_model.specs.Terms.{PartySet}
use Rattle.ledger_model.specs.Forest.{acts}
use Rattle.ledger_model.specs.declared.roles.Roles.{Roles}
use Rattle.ledger_model.specs.Views.{View, its_informees, starts, core_below, views_below, views_of, views}
use Rattle.ledger_model.proofs.Lists.{In, filter_append, in_from_Contains, contains_from_In}
use Rattle.ledger_model.proofs.Projected.{preorder_join, stands}
use Rattle.ledger_model.proofs.Openings.{views_inside}

-- each with its place, from a first one on
abbrev pub count_from : {A : Type 0} → ℕ → List A → List (ℕ × A)
count_from n [] = []
count_from n (x ∷ xs) = (n, x) ∷ count_from (suc n) xs

module _ {A : Type 0} where
  pub size_is_length : (f : Forest A) → size f ≡ length (preorder f)
  size_is_length NoRoots = refl
  size_is_length (Root root below others) =
      let b = size_is_length below in let o = size_is_length others in let l = length-append (preorder below) (preorder others) in omega (arith, b, o, l)

  count_append : (n : ℕ) (xs ys : List A) → count_from n (xs ++ ys) ≡ count_from n xs ++ count_from (n + length xs) ys
  count_append n [] ys = ap (λ (m : ℕ). count_from m ys) (omega arith)
  count_append n (x ∷ xs) ys =
      ap (λ (zs : List (ℕ × A)). (n, x) ∷ zs) (count_append (suc n) xs ys ∙ ap (λ (m : ℕ). count_from (suc n) xs ++ count_from m ys) (omega arith))

  pub number_counts : (n : ℕ) (f : Forest A) → preorder (number_from n f) ≡ count_from n (preorder f)
  number_counts n NoRoots = refl
  number_counts n (Root root below others) =
      let o = number_counts (suc n + size below) others in
      ap (λ (zs : List (ℕ × A)). (n, root) ∷ zs)
      (ap (λ (zs : List (ℕ × A)). zs ++ preorder (number_from (suc n + size below) others)) (number_counts (suc n) below)
      ∙ (ap (λ (zs : List (ℕ × A)). count_from (suc n) (preorder below) ++ zs) (o ∙ ap (λ (m : ℕ). count_from (suc n + m) (preorder others)) (size_is_length below))
      ∙ sym (count_append (suc n) (preorder below) (preorder others))))

  counted_at : (n : ℕ) (xs : List A) (i : ℕ) (x : A) → In (i, x) (count_from n xs) → (k : ℕ) × (i ≡ n + k) × (slice_get xs k ≡ Some x)
  counted_at n [] i x h = absurd h
  counted_at n (y ∷ ys) i x (inl same) = (0, sym (ap (λ (p : ℕ × A). p.0) same) ∙ omega arith, ap (λ (p : ℕ × A). Some p.1) same)
  counted_at n (y ∷ ys) i x (inr t) = let r = counted_at (suc n) ys i x t in (suc r.0, omega (arith, r.1), r.2)

  at_counted : (n : ℕ) (xs : List A) (k : ℕ) (x : A) → slice_get xs k ≡ Some x → In (n + k, x) (count_from n xs)
  at_counted n [] k x e = absurd (none-some x e)
  at_counted n (y ∷ ys) zero x e =
      let s : y ≡ x = same_Some y x e in let z : n ≡ n + 0 = omega arith in inl (λ i. (z i, s i))
  at_counted n (y ∷ ys) (suc k) x e =
      inr (subst (λ (m : ℕ). In (m, x) (count_from (suc n) ys)) (omega arith) (at_counted (suc n) ys k x e))

  -- a number is a place in pre-order
  pub numbered_at : (f : Forest A) (i : ℕ) (x : A) → In (i, x) (preorder (number_from 0 f)) → slice_get (preorder f) i ≡ Some x
  numbered_at f i x h =
      let r = counted_at 0 (preorder f) i x (subst (λ zs. In (i, x) zs) (number_counts 0 f) h) in
      ap (slice_get (preorder f)) (r.1 ∙ omega arith) ∙ r.2

  pub at_numbered : (f : Forest A) (i : ℕ) (x : A) → slice_get (preorder f) i ≡ Some x → In (i, x) (preorder (number_from 0 f))
  at_numbered f i x e =
      subst (λ zs. In (i, x) zs) (sym (number_counts 0 f)) (subst (λ (m : ℕ). In (m, x) (count_from 0 (preorder f))) (omega arith) (at_counted 0 (preorder f) i x e))

-- how many have a number
abbrev tally : ℕ → List (ℕ × Act) → ℕ
tally i xs = length (filter (λ (x : ℕ × Act). nat_eq x.0 i) xs)

tally-append : (i : ℕ) (xs ys : List (ℕ × Act)) → tally i (xs ++ ys) ≡ tally i xs + tally i ys
tally-append i xs ys =
    ap length (filter_append (λ (x : ℕ × Act). nat_eq x.0 i) xs ys) ∙ length-append (filter (λ (x : ℕ × Act). nat_eq x.0 i) xs) (filter (λ (x : ℕ × Act). nat_eq x.0 i) ys)

tally-cons : (i : ℕ) (x : ℕ × Act) (xs : List (ℕ × Act)) → tally i (x ∷ xs) ≡ tally i (x ∷ []) + tally i xs
tally-cons i x xs = tally-append i (x ∷ []) xs

same_number : (i : ℕ) → nat_eq i i ≡ true
same_number i = eq-eqb i i refl

greater_number : (n i : ℕ) → i < n → nat_eq n i ≡ false
greater_number n i h =
    elim (cases_Bool (nat_eq n i)) [
      | inl same ↦ let e = eqb-true n i same in absurd (omega (arith, h, e))
      | inr other ↦ other
    ]

tally_some : (i : ℕ) (a : Act) (xs : List (ℕ × Act)) → In (i, a) xs → 1 ≤ tally i xs
tally_some i a [] h = absurd h
tally_some i a (x ∷ xs) (inl same) =
    let here : nat_eq x.0 i ≡ true = ap (λ (y : ℕ × Act). nat_eq y.0 i) same ∙ same_number i in
    rw here (omega arith)
tally_some i a (x ∷ xs) (inr t) = let c = tally-cons i x xs in let r = tally_some i a xs t in omega (arith, c, r)

-- no number stands twice among places
tally_past : (i n : ℕ) (xs : List Act) → i < n → tally i (count_from n xs) ≡ 0
tally_past i n [] h = refl
tally_past i n (x ∷ xs) h = let out = greater_number n i h in rw out (tally_past i (suc n) xs (omega arith))

tally_once : (i n : ℕ) (xs : List Act) → tally i (count_from n xs) ≤ 1
tally_once i n [] = omega arith
tally_once i n (x ∷ xs) =
    elim (cases_Bool (nat_eq n i)) [
      | inl here ↦ rw here
          (let e = eqb-true n i here in
          let rest = tally_past i (suc n) xs (omega (arith, e)) in
          omega (arith, rest))
      | inr other ↦ rw other (tally_once i (suc n) xs)
    ]

abbrev tallies : ℕ → List View → ℕ
tallies i [] = 0
tallies i (v ∷ vs) = tally i v.core + tallies i vs

tallies-append : (i : ℕ) (vs ws : List View) → tallies i (vs ++ ws) ≡ tallies i vs + tallies i ws
tallies-append i [] ws = omega arith
tallies-append i (v ∷ vs) ws = omega (arith, tallies-append i vs ws)

tallies_at : (i k : ℕ) (vs : List View) (v : View) → slice_get vs k ≡ Some v → tally i v.core ≤ tallies i vs
tallies_at i k [] v e = absurd (none-some v e)
tallies_at i zero (w ∷ vs) v e = let same = ap (λ (x : View). tally i x.core) (same_Some w v e) in omega (arith, same)
tallies_at i (suc k) (w ∷ vs) v e = omega (arith, tallies_at i k vs v e)

tallies_two : (i j k : ℕ) (vs : List View) (v w : View) → j < k → slice_get vs j ≡ Some v → slice_get vs k ≡ Some w → tally i v.core + tally i w.core ≤ tallies i vs
tallies_two i j k [] v w h e f = absurd (none-some v e)
tallies_two i j zero (u ∷ vs) v w h e f = absurd (omega arith)
tallies_two i zero (suc k) (u ∷ vs) v w h e f =
    let same = ap (λ (x : View). tally i x.core) (same_Some u v e) in let r = tallies_at i k vs w f in omega (arith, same, r)
tallies_two i (suc j) (suc k) (u ∷ vs) v w h e f = let r = tallies_two i j k vs v w (omega arith) e f in omega (arith, r)

module _ (roles : Action → Roles) where
  -- a number stands as often in the cores as in the transaction
  tally_below : (i : ℕ) (e : PartySet) (f : Forest (ℕ × Act)) → tally i (preorder f) ≡ tally i (core_below roles e f) + tallies i (preorder (views_below roles e f))
  tally_below i e NoRoots = refl
  tally_below i e (Root a below others) =
      let whole = tally-cons i a (preorder below ++ preorder others) in
      let parts = tally-append i (preorder below) (preorder others) in
      let o = tally_below i e others in
      elim (cases_Bool (starts roles e a.1)) [
        | inl new ↦ rw new
            (let ie = its_informees roles a.1 in
            let b = tally_below i ie below in
            let first = tally-cons i a (core_below roles ie below) in
            let vs = tallies-append i (preorder (views_below roles ie below)) (preorder (views_below roles e others)) in
            omega (arith, whole, parts, o, b, first, vs))
        | inr old ↦ rw old
            (let b = tally_below i e below in
            let first = tally-cons i a (core_below roles e below ++ core_below roles e others) in
            let cores = tally-append i (core_below roles e below) (core_below roles e others) in
            let vs = ap (tallies i) (preorder_join (views_below roles e below) (views_below roles e others)) ∙ tallies-append i (preorder (views_below roles e below)) (preorder (views_below roles e others)) in
            omega (arith, whole, parts, o, b, first, cores, vs))
      ]

  tally_all : (i : ℕ) (f : Forest (ℕ × Act)) → tally i (preorder f) ≡ tallies i (preorder (views_of roles f))
  tally_all i NoRoots = refl
  tally_all i (Root a below others) =
      let ie = its_informees roles a.1 in
      let whole = tally-cons i a (preorder below ++ preorder others) in
      let parts = tally-append i (preorder below) (preorder others) in
      let o = tally_all i others in
      let b = tally_below i ie below in
      let first = tally-cons i a (core_below roles ie below) in
      let vs = tallies-append i (preorder (views_below roles ie below)) (preorder (views_of roles others)) in
      omega (arith, whole, parts, o, b, first, vs)

  not_two : (roots : Forest Act) (i j k : ℕ) (a b : Act) (v w : View) → j < k → slice_get (preorder (views roles roots)) j ≡ Some v → slice_get (preorder (views roles roots)) k ≡ Some w → In (i, a) v.core → In (i, b) w.core → ⊥
  not_two roots i j k a b v w h e f c d =
      let one = tally_some i a v.core c in
      let two = tally_some i b w.core d in
      let both = tallies_two i j k (preorder (views roles roots)) v w h e f in
      let all = tally_all i (number_from 0 roots) in
      let most = tally_once i 0 (acts roots) in
      let counts = ap (tally i) (number_counts 0 roots) in
      absurd (omega (arith, one, two, both, all, most, counts))

  pub one_core : (roots : Forest Act) (i j k : ℕ) (a b : Act) (v w : View) → slice_get (preorder (views roles roots)) j ≡ Some v → slice_get (preorder (views roles roots)) k ≡ Some w → Contains v.core (i, a) → Contains w.core (i, b) → j ≡ k
  one_core roots i j k a b v w e f c d =
      let c' = in_from_Contains v.core (i, a) c in
      let d' = in_from_Contains w.core (i, b) d in
      elim (order j k) [
        | inl below ↦ absurd (not_two roots i j k a b v w below e f c' d')
        | inr (inl same) ↦ same
        | inr (inr above) ↦ absurd (not_two roots i k j b a w v above f e d' c')
      ]
    where
      order : (j k : ℕ) → (j < k) ⊎ ((j ≡ k) ⊎ (k < j))
      order zero zero = inr (inl refl)
      order zero (suc k) = inl (omega arith)
      order (suc j) zero = inr (inr (omega arith))
      order (suc j) (suc k) =
          elim (order j k) [ inl below ↦ inl (omega arith) | inr (inl same) ↦ inr (inl (ap suc same)) | inr (inr above) ↦ inr (inr (omega arith)) ]

  pub stands_with_number : (roots : Forest Act) (i : ℕ) (a : Act) → slice_get (acts roots) i ≡ Some a → (view : View) × Contains (preorder (views roles roots)) view × Contains view.core (i, a)
  stands_with_number roots i a e =
      let s = stands roles (number_from 0 roots) (i, a) (at_numbered roots i a e) in
      (s.view, contains_from_In (preorder (views roles roots)) s.view s.there, contains_from_In (s.view).core (i, a) s.in_core)

  pub number_is_place : (roots : Forest Act) (view : View) (i : ℕ) (a : Act) → Contains (preorder (views roles roots)) view → Contains view.core (i, a) → slice_get (acts roots) i ≡ Some a
  number_is_place roots view i a h c =
      numbered_at roots i a (views_inside roles (number_from 0 roots) view (i, a) (in_from_Contains (preorder (views roles roots)) view h) (in_from_Contains view.core (i, a) c))
