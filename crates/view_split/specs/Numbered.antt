-- The actions of cores with their numbers.
use Rattle.std.specs.Prelude.{ℕ, List, [], ◌∷◌, ◌++◌}
use Rattle.ledger_terms.specs.declared.act.Act.{Act}
use Rattle.ledger_terms.specs.Forest.{Forest, NoRoots, Root, join, number_from}
use Rattle.ledger_model.specs.Terms.{PartySet}
use Rattle.ledger_model.specs.Views.{View}
use Rattle.view_split.specs.Holed.{Holed, NoMore, Inner, Hole}
use Rattle.view_split.specs.declared.split_view.SplitView.{SplitView}
use Rattle.view_split.specs.Split.{assembled}

-- the same trees with f of each root's value, at any depth
abbrev pub map_forest : {A B : Type 0} → (A → B) → Forest A → Forest B
map_forest f NoRoots = NoRoots
map_forest f (Root root below others) = Root (f root) (map_forest f below) (map_forest f others)

-- The values of the trees that stand where the core has its actions, in pre-order. The trees are those that the core becomes when its holes are filled.
abbrev pub core_in : {A B : Type 0} → Holed A → Forest B → List B
core_in NoMore trees = []
core_in (Inner root below others) NoRoots = []
core_in (Inner root below others) (Root x children more) = x ∷ (core_in below children ++ core_in others more)
core_in (Hole others) NoRoots = []
core_in (Hole others) (Root x children more) = core_in others more

-- The trees that fill the core's holes, of the trees that the core becomes when they are filled.
abbrev pub held_in : {A B : Type 0} → Holed A → Forest B → Forest B
held_in NoMore trees = NoRoots
held_in (Inner root below others) NoRoots = NoRoots
held_in (Inner root below others) (Root x children more) = join (held_in below children) (held_in others more)
held_in (Hole others) NoRoots = NoRoots
held_in (Hole others) (Root x children more) = Root x children (held_in others more)

-- Each view with the values that stand where its core has its actions, in the trees that the views are put back to. `below_of` gives what a view's core
-- has below its first action.
abbrev pub with_cores : {V B : Type 0} → (V → Holed Act) → Forest V → Forest B → Forest (V × List B)
with_cores below_of NoRoots trees = NoRoots
with_cores below_of (Root view subviews others) NoRoots = NoRoots
with_cores below_of (Root view subviews others) (Root x children more) =
    Root (view, x ∷ core_in (below_of view) children) (with_cores below_of subviews (held_in (below_of view) children)) (with_cores below_of others more)

-- Each view with the actions of its core. Each action has its number among all actions that the views are put back to, in pre-order from 0.
abbrev pub numbered : Forest SplitView → Forest (SplitView × List (ℕ × Act))
numbered views = with_cores (λ (view : SplitView). view.below) views (number_from 0 (assembled views))

-- A numbered view as the ledger's definition of views has it (informees and core), and its confirmers.
abbrev pub seen_as : SplitView × List (ℕ × Act) → View × PartySet
seen_as view = (record { informees = (view.0).informees; core = view.1 }, (view.0).confirmers)
