-- The first view with a path, found by walking down, and the first actions of those directly below it. An action's number is where it stands in
-- pre-order among all that is opened, counted from 0.
use Rattle.std.specs.Option.{option_or}
use Rattle.std.specs.Prelude.{ℕ, suc, Bool, true, false, List, [], ◌∷◌, ◌++◌, Option, Some, None, if◌then◌else◌, nat_eq}
use Rattle.ledger_terms.specs.declared.act.Act.{Act}
use Rattle.ledger_terms.specs.Forest.{Forest, NoRoots, Root}
use Rattle.ledger_model.specs.Terms.{PartySet}
use Rattle.canton_model.specs.Checks.{is_directly_below}
use Rattle.view_split.specs.declared.split_view.SplitView.{SplitView}
use Rattle.view_split.specs.Numbered.{core_in, held_in}
use Rattle.view_split.specs.declared.placed_view.PlacedView.{PlacedView}
use Rattle.confirm_reply.specs.Numbers.{numbers_of}
use Rattle.confirm_reply.specs.declared.found_view.FoundView.{FoundView}

-- What is left of a wanted path after one step down: the rest where it begins with the step, else None, as of None. None says that the wanted path
-- doesn't lead this way.
abbrev pub after_step : Option (List ℕ) → ℕ → Option (List ℕ)
after_step None k = None
after_step (Some []) k = None
after_step (Some (step ∷ rest)) k = if nat_eq step k then Some rest else None

-- what is left of a wanted path, or of what of it is still to walk (first argument), after all steps of another path; None where the first argument is
-- None or doesn't begin with these steps
abbrev pub after_path : Option (List ℕ) → List ℕ → Option (List ℕ)
after_path left [] = left
after_path left (step ∷ path) = after_path (after_step left step) path

-- whether nothing is left to walk of a wanted path that led here; false of None
abbrev pub is_reached : Option (List ℕ) → Bool
is_reached None = false
is_reached (Some []) = true
is_reached (Some (step ∷ rest)) = false

-- what a view that is found states of its informees and confirmers, and the numbers of its core's actions
pub record Found : Type 0 where
  pub informees : PartySet
  pub confirmers : PartySet
  pub core : List ℕ

-- a view that the code has found, as the definitions have it
abbrev pub found_as : FoundView → Found
found_as found = record { informees = found.informees.now; confirmers = found.confirmers.now; core = found.core.items }

-- The view where nothing is left of the wanted path, else what was found below it (last argument). `x` is its first action with its number, and
-- `children` are what stands below that in all that is opened.
abbrev pub view_or : Option (List ℕ) → SplitView → ℕ × Act → Forest (ℕ × Act) → Option Found → Option Found
view_or left view x children below =
    if is_reached left
    then Some (record { informees = view.informees; confirmers = view.confirmers; core = x.0 ∷ numbers_of (core_in view.below children) })
    else below

-- The view to which what is left of the wanted path leads, among views side by side, the first of which is number k. The trees are those of the
-- views' actions with their numbers, one to a view. None where there is no such view.
abbrev pub view_found : Option (List ℕ) → ℕ → Forest SplitView → Forest (ℕ × Act) → Option Found
view_found left k NoRoots trees = None
view_found left k (Root view subviews others) NoRoots = None
view_found left k (Root view subviews others) (Root x children more) =
    option_or (view_or (after_step left k) view x children (view_found (after_step left k) 0 subviews (held_in view.below children)))
    (view_found left (suc k) others more)

-- the view with the wanted path, among views with paths of their own, over the trees of their numbered actions; None where there is none
abbrev pub view_found_in : List ℕ → List PlacedView → Forest (ℕ × Act) → Option Found
view_found_in path [] trees = None
view_found_in path (placed ∷ others) NoRoots = None
view_found_in path (placed ∷ others) (Root x children more) =
    option_or
    (view_or (after_path (Some path) placed.path) placed.view.root x children
    (view_found (after_path (Some path) placed.path) 0 placed.view.below (held_in placed.view.root.below children)))
    (view_found_in path others more)

-- the number of an action, in a list, where the test holds; else the empty list
abbrev pub number_if : Bool → ℕ × Act → List ℕ
number_if false x = []
number_if true x = x.0 ∷ []

-- The numbers of the first actions of the views directly below the wanted path, of which `left` is left, among views side by side, the first of which
-- is number k, and all below them. The trees are those of their numbered actions.
abbrev pub starts_among : Option (List ℕ) → ℕ → Forest SplitView → Forest (ℕ × Act) → List ℕ
starts_among left k NoRoots trees = []
starts_among left k (Root view subviews others) NoRoots = []
starts_among left k (Root view subviews others) (Root x children more) =
    number_if (is_reached left) x
    ++ (starts_among (after_step left k) 0 subviews (held_in view.below children) ++ starts_among left (suc k) others more)

-- The numbers of the first actions of the views directly below the one with the wanted path (first argument), among views with paths of their own and
-- all below these. The trees are those of their numbered actions, one to a view.
abbrev pub starts_in : List ℕ → List PlacedView → Forest (ℕ × Act) → List ℕ
starts_in path [] trees = []
starts_in path (placed ∷ others) NoRoots = []
starts_in path (placed ∷ others) (Root x children more) =
    number_if (is_directly_below path placed.path) x
    ++ (starts_among (after_path (Some path) placed.path) 0 placed.view.below (held_in placed.view.root.below children)
    ++ starts_in path others more)
