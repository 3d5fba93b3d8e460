-- Views of what is opened can be checked.
use Rattle.std.proofs.Common.{◌≡◌, ◌≤◌, ℕ, zero, suc, true, List, [], ◌∷◌, length, Some, refl, sym, subst, inl, inr}
use Rattle.std.specs.Prelude.{All, Contains, slice_get}
use Rattle.std.proofs.lemmas.List.Elements.{All-cons, All-contains, All-nil}
use Rattle.std.proofs.lemmas.Option.{none-some, same_Some}
use Rattle.ledger_terms.specs.declared.act.Act.{Act}
use Rattle.ledger_terms.specs.Trees.{Actions}
use Rattle.ledger_terms.specs.Forest.{NoRoots, Root, below_at, preorder, roots_of}
use Rattle.ledger_model.specs.Forest.{acts, trees_of}
use Rattle.ledger_model.specs.Opening.{OpenedView}
use Rattle.ledger_model.specs.Terms.{instance_of}
use Rattle.ledger_model.proofs.Lists.{In, contains_from_In, in_append_cases, in_append_left, in_append_right, in_from_Contains}
use Rattle.lang_eval.specs.Found.{Packages}
use Rattle.lang_eval.specs.Language.{has_roles}
use Rattle.wire_form.specs.Spellable.{IsSpellableInstance}
use Rattle.view_split.specs.Placed.{shown_by}
use Rattle.view_split.specs.declared.opened_tree.OpenedTree.{OpenedTree}
use Rattle.confirm_reply.specs.Opened.{AllHaveRoles, CanBeChecked}
use Rattle.confirm_reply.proofs.Checked.{core_in_place}
use Rattle.confirm_reply.proofs.Placed.{EachIn, StandsIn, Tree, below_stands}

root_in : (f : Actions) (c : Act) → In c (roots_of f) → In c (preorder f)
root_in NoRoots c i = i
root_in (Root act below others) c (inl same) = inl same
root_in (Root act below others) c (inr i) = inr (in_append_right (preorder below) (preorder others) c (root_in others c i))

-- a tree's root and what stands directly below it are in the forest
pub record IsOf (f : Actions) (t : Tree) : Type 0 where
  pub act : In t.0 (preorder f)
  pub children : (c : Act) → In c (roots_of t.1) → In c (preorder f)

pub tree_of_in : (f : Actions) (t : Tree) → In t (trees_of f) → IsOf f t
tree_of_in NoRoots t i = absurd i
tree_of_in (Root act below others) t (inl same) =
    subst (λ (x : Tree). IsOf (Root act below others) x) same (record {
      act = inl refl;
      children = λ c i. inr (in_append_left (preorder below) (preorder others) c (root_in below c i));
    })
tree_of_in (Root act below others) t (inr i) =
    elim (in_append_cases (trees_of below) (trees_of others) t i) [
      | inl b ↦ let r = tree_of_in below t b in
          record { act = inr (in_append_left (preorder below) (preorder others) t.0 r.act); children = λ c j. inr (in_append_left (preorder below) (preorder others) c (r.children c j)) }
      | inr o ↦ let r = tree_of_in others t o in
          record { act = inr (in_append_right (preorder below) (preorder others) t.0 r.act); children = λ c j. inr (in_append_right (preorder below) (preorder others) c (r.children c j)) }
    ]

pub in_from_get : (ts : List Tree) (n : ℕ) (t : Tree) → slice_get ts n ≡ Some t → In t ts
in_from_get [] n t e = absurd (none-some t e)
in_from_get (x ∷ ts) zero t e = inl (same_Some x t e)
in_from_get (x ∷ ts) (suc n) t e = inr (in_from_get ts n t e)

pub all_from_each : {X : Type 0} (P : X → Type 0) (xs : List X) → ((x : X) → In x xs → P x) → All P xs
all_from_each P [] each = All-nil P
all_from_each P (x ∷ xs) each = All-cons P x xs (each x (inl refl)) (all_from_each P xs (λ y i. each y (inr i)))

each_in : {X : Type 0} (P : X → Type 0) (xs : List X) → All P xs → (x : X) → In x xs → P x
each_in P xs all x i = All-contains P xs x all (contains_from_In xs x i)

module _ (packages : Packages) (roots : Actions) where
  abbrev Below : ℕ × Act → Type 0
  Below a = AllHaveRoles packages (roots_of (below_at a.0 roots))

  abbrev Spelled : ℕ × Act → Type 0
  Spelled a = IsSpellableInstance (instance_of (a.1).action)

  module _ (roles : All (λ (act : Act). has_roles packages act.action ≡ true) (acts roots)) where
    has : (c : Act) → In c (acts roots) → has_roles packages c.action ≡ true
    has = each_in (λ (act : Act). has_roles packages act.action ≡ true) (acts roots) roles

    one_below : (a : ℕ × Act) → StandsIn (trees_of roots) a → Below a
    one_below a s =
        let r = tree_of_in roots (a.1, s.0) (in_from_get (trees_of roots) a.0 (a.1, s.0) s.1) in
        subst (λ (below : Actions). AllHaveRoles packages (roots_of below)) (sym (below_stands roots a.0 (a.1, s.0) s.1))
        (all_from_each (λ (act : Act). has_roles packages act.action ≡ true) (roots_of s.0) (λ c i. has c (r.children c i)))

    pub all_below : (core : List (ℕ × Act)) → EachIn (StandsIn (trees_of roots)) core → All Below core
    all_below [] e = All-nil Below
    all_below (a ∷ core) e = All-cons Below a core (one_below a e.0) (all_below core e.1)

  module _ (spelled : All (λ (act : Act). IsSpellableInstance (instance_of act.action)) (acts roots)) where
    one_spelled : (a : ℕ × Act) → StandsIn (trees_of roots) a → Spelled a
    one_spelled a s =
        let r = tree_of_in roots (a.1, s.0) (in_from_get (trees_of roots) a.0 (a.1, s.0) s.1) in
        each_in (λ (act : Act). IsSpellableInstance (instance_of act.action)) (acts roots) spelled a.1 r.act

    pub all_spelled : (core : List (ℕ × Act)) → EachIn (StandsIn (trees_of roots)) core → All Spelled core
    all_spelled [] e = All-nil Spelled
    all_spelled (a ∷ core) e = All-cons Spelled a core (one_spelled a e.0) (all_spelled core e.1)

module _ (packages : Packages) (tree : OpenedTree) (view : OpenedView) (there : Contains (shown_by tree).views view) where
  stands : EachIn (StandsIn (trees_of (shown_by tree).roots)) view.core
  stands = core_in_place tree view (in_from_Contains (shown_by tree).views view there)

  pub each_can_be : All (λ (act : Act). has_roles packages act.action ≡ true) (acts (shown_by tree).roots)
      → All (λ (act : Act). IsSpellableInstance (instance_of act.action)) (acts (shown_by tree).roots)
      → length view.core ≤ 65536 → CanBeChecked packages (shown_by tree) view
  each_can_be roles spelled few =
      record {
        spellable = all_spelled packages (shown_by tree).roots spelled view.core stands;
        few = few;
        below = λ own. all_below packages (shown_by tree).roots roles view.core stands;
      }
