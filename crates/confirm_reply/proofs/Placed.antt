-- What stands at the numbers of cores.
use Rattle.std.proofs.Common.{◌≡◌, ◌<◌, ◌≤◌, ℕ, zero, suc, ◌+◌, ◌-◌, List, [], ◌∷◌, ◌++◌, length, map, Some, refl, ap, ◌∙◌, subst, inl, inr, arith}
use Rattle.std.specs.Prelude.{slice_get, nat_lt}
use Rattle.std.proofs.lemmas.Bool.{cases_Bool, ltb-true, ltb-false}
use Rattle.std.proofs.lemmas.List.{length-append, map-append}
use Rattle.std.proofs.lemmas.Option.{none-some, same_Some}
use Rattle.ledger_terms.specs.declared.act.Act.{Act}
use Rattle.ledger_terms.specs.Trees.{Actions}
use Rattle.ledger_terms.specs.Forest.{Forest, NoRoots, Root, below_at, join, number_from, preorder, size}
use Rattle.ledger_model.specs.Forest.{trees_of}
use Rattle.ledger_model.specs.Terms.{Path}
use Rattle.view_split.specs.Holed.{Holed, NoMore, Inner, Hole}
use Rattle.view_split.specs.declared.split_view.SplitView.{SplitView}
use Rattle.view_split.specs.Numbered.{core_in, held_in, with_cores}

-- ---- each of a forest

abbrev pub Each : {A : Type 0} → (A → Type 0) → Forest A → Type 0
Each P NoRoots = Unit {0}
Each P (Root x below others) = P x × Each P below × Each P others

abbrev pub EachIn : {A : Type 0} → (A → Type 0) → List A → Type 0
EachIn P [] = Unit {0}
EachIn P (x ∷ xs) = P x × EachIn P xs

module _ {B : Type 0} (P : B → Type 0) where
  both : (xs ys : List B) → EachIn P xs → EachIn P ys → EachIn P (xs ++ ys)
  both [] ys a b = b
  both (x ∷ xs) ys a b = (a.0, both xs ys a.1 b)

  joined : (f g : Forest B) → Each P f → Each P g → Each P (join f g)
  joined NoRoots g a b = b
  joined (Root x below others) g a b = (a.0, a.1, joined others g a.2 b)

  core_each : {A : Type 0} (h : Holed A) (f : Forest B) → Each P f → EachIn P (core_in h f)
  core_each NoMore f e = tt
  core_each (Inner a below others) NoRoots e = tt
  core_each (Inner a below others) (Root x children more) e =
      (e.0, both (core_in below children) (core_in others more) (core_each below children e.1) (core_each others more e.2))
  core_each (Hole others) NoRoots e = tt
  core_each (Hole others) (Root x children more) e = core_each others more e.2

  held_each : {A : Type 0} (h : Holed A) (f : Forest B) → Each P f → Each P (held_in h f)
  held_each NoMore f e = tt
  held_each (Inner a below others) NoRoots e = tt
  held_each (Inner a below others) (Root x children more) e =
      joined (held_in below children) (held_in others more) (held_each below children e.1) (held_each others more e.2)
  held_each (Hole others) NoRoots e = tt
  held_each (Hole others) (Root x children more) e = (e.0, e.1, held_each others more e.2)

abbrev Placed : Type 0
Placed = Path × SplitView

abbrev Numbered : Type 0
Numbered = ℕ × Act

abbrev NumberedView : Type 0
NumberedView = Placed × List Numbered

abbrev pub CoreHas : (Numbered → Type 0) → NumberedView → Type 0
CoreHas P view = EachIn P view.1

pub cores_each : (P : Numbered → Type 0) (views : Forest Placed) (trees : Forest Numbered) → Each P trees
    → EachIn (CoreHas P) (preorder (with_cores (λ (v : Placed). (v.1).below) views trees))
cores_each P NoRoots trees e = tt
cores_each P (Root view subviews others) NoRoots e = tt
cores_each P (Root view subviews others) (Root x children more) e =
    let h = (view.1).below in (
      (e.0, core_each P h children e.1),
      both (CoreHas P) (preorder (with_cores (λ (v : Placed). (v.1).below) subviews (held_in h children)))
          (preorder (with_cores (λ (v : Placed). (v.1).below) others more))
          (cores_each P subviews (held_in h children) (held_each P h children e.1)) (cores_each P others more e.2),
    )

-- ---- numbers

abbrev pub Tree : Type 0
Tree = Act × Actions

-- what has a number stands there with what is below it
abbrev pub StandsIn : List Tree → Numbered → Type 0
StandsIn all x = (below : Actions) × (slice_get all x.0 ≡ Some (x.1, below))

pub at_left : (xs ys : List Tree) (i : ℕ) (t : Tree) → slice_get xs i ≡ Some t → slice_get (xs ++ ys) i ≡ Some t
at_left [] ys i t e = absurd (none-some t e)
at_left (x ∷ xs) ys zero t e = e
at_left (x ∷ xs) ys (suc i) t e = at_left xs ys i t e

pub at_right : (xs ys : List Tree) (i : ℕ) (t : Tree) → slice_get ys i ≡ Some t → slice_get (xs ++ ys) (length xs + i) ≡ Some t
at_right [] ys i t e = let same : 0 + i ≡ i = omega arith in rw same e
at_right (x ∷ xs) ys i t e = let same : suc (length xs) + i ≡ suc (length xs + i) = omega arith in rw same (at_right xs ys i t e)

pub trees_counted : (f : Actions) → length (trees_of f) ≡ size f
trees_counted NoRoots = refl
trees_counted (Root act below others) =
    let b = trees_counted below in
    let o = trees_counted others in
    let j = length-append (trees_of below) (trees_of others) in
    omega (arith, b, o, j)

numbers_stand : (all : List Tree) (n : ℕ) (f : Actions) → ((i : ℕ) (t : Tree) → slice_get (trees_of f) i ≡ Some t → slice_get all (n + i) ≡ Some t)
    → Each (StandsIn all) (number_from n f)
numbers_stand all n NoRoots there = tt
numbers_stand all n (Root act below others) there =
    let at : (i k : ℕ) (t : Tree) → n + i ≡ k → slice_get (trees_of (Root act below others)) i ≡ Some t → slice_get all k ≡ Some t =
    λ i k t same e. subst (λ (m : ℕ). slice_get all m ≡ Some t) same (there i t e) in (
      (below, at 0 n (act, below) (omega arith) refl),
      numbers_stand all (suc n) below (λ i t e. at (suc i) (suc n + i) t (omega arith) (at_left (trees_of below) (trees_of others) i t e)),
      numbers_stand all (suc n + size below) others (λ i t e.
          at (suc (length (trees_of below) + i)) (suc n + size below + i) t (let c = trees_counted below in omega (arith, c)) (at_right (trees_of below) (trees_of others) i t e)),
    )

pub all_stand : (f : Actions) → Each (StandsIn (trees_of f)) (number_from 0 f)
all_stand f = numbers_stand (trees_of f) 0 f (λ i t e. subst (λ (m : ℕ). slice_get (trees_of f) m ≡ Some t) (omega arith) e)

-- ---- what stands at a number

split_at : (xs ys : List Tree) (i : ℕ) (t : Tree) → slice_get (xs ++ ys) (length xs + i) ≡ Some t → slice_get ys i ≡ Some t
split_at [] ys i t e = let same : 0 + i ≡ i = omega arith in rw same at e
split_at (x ∷ xs) ys i t e = let same : suc (length xs) + i ≡ suc (length xs + i) = omega arith in split_at xs ys i t (rw same at e)

in_front : (xs ys : List Tree) (i : ℕ) (t : Tree) → i < length xs → slice_get (xs ++ ys) i ≡ Some t → slice_get xs i ≡ Some t
in_front [] ys i t h e = absurd (omega (arith, h))
in_front (x ∷ xs) ys zero t h e = e
in_front (x ∷ xs) ys (suc i) t h e = in_front xs ys i t (omega (arith, h)) e

pub below_stands : (f : Actions) (n : ℕ) (t : Tree) → slice_get (trees_of f) n ≡ Some t → below_at n f ≡ t.1
below_stands NoRoots n t e = absurd (none-some t e)
below_stands (Root act below others) zero t e = ap (λ (x : Tree). x.1) (same_Some (act, below) t e)
below_stands (Root act below others) (suc n) t e =
    let c = trees_counted below in
    elim (cases_Bool (nat_lt n (size below))) [
      | inl inside ↦ rw inside (below_stands below n t (in_front (trees_of below) (trees_of others) n t (let h = ltb-true n (size below) inside in omega (arith, c, h)) e))
      | inr past ↦
          let h : size below ≤ n = ltb-false n (size below) past in
          rw past (below_stands others (n - size below) t (split_at (trees_of below) (trees_of others) (n - size below) t
          (subst (λ (m : ℕ). slice_get (trees_of below ++ trees_of others) m ≡ Some t) (omega (arith, c, h)) e)))
    ]

pub acts_stand : (f : Actions) → map (λ (t : Tree). t.0) (trees_of f) ≡ preorder f
acts_stand NoRoots = refl
acts_stand (Root act below others) =
    ap (λ (acts : List Act). act ∷ acts)
    (map-append (λ (t : Tree). t.0) (trees_of below) (trees_of others) ∙ (λ i. acts_stand below i ++ acts_stand others i))
