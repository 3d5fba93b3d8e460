-- What is opened to who checks it, and which of its views can be checked.
use Rattle.std.specs.Prelude.{◌≡◌, ◌≤◌, ℕ, true, All, List, ◌++◌, Option, find, length, map}
use Rattle.std.specs.Str.{bytes_eq}
use Rattle.ledger_terms.specs.declared.act.Act.{Act}
use Rattle.ledger_terms.specs.Forest.{below_at, roots_of}
use Rattle.ledger_terms.specs.Trees.{Actions}
use Rattle.ledger_model.specs.Opening.{OpenedView, Shown}
use Rattle.ledger_model.specs.Terms.{Path, instance_of}
use Rattle.canton_model.specs.Checks.{subview_starts}
use Rattle.lang_eval.specs.Found.{Packages}
use Rattle.lang_eval.specs.Language.{has_roles}
use Rattle.wire_form.specs.Spellable.{IsSpellableInstance}
use Rattle.view_split.specs.Placed.{shown_by}
use Rattle.view_split.specs.declared.opened_tree.OpenedTree.{OpenedTree}

-- the first of the opened views that has this path, and None where there is none
abbrev pub view_at : Path → OpenedTree → Option OpenedView
view_at path tree = find (λ (view : OpenedView). bytes_eq path view.path) (shown_by tree).views

-- The checks of an action can be tried: it has roles, as those directly below it have, and its instance has a spelling, over which its id is hashed.
pub record IsCheckable (packages : Packages) (act : Act) (below : Actions) : Type 0 where
  pub roles : has_roles packages act.action ≡ true
  pub below_roles : All (λ (child : Act). has_roles packages child.action ≡ true) (roots_of below)
  pub spellable : IsSpellableInstance (instance_of act.action)

-- the actions of a core, without their numbers
abbrev pub acts_of_core : List (ℕ × Act) → List Act
acts_of_core core = map (λ (a : ℕ × Act). a.1) core

-- all these actions have roles by the packages
abbrev pub AllHaveRoles : Packages → List Act → Type 0
AllHaveRoles packages acts = All (λ (act : Act). has_roles packages act.action ≡ true) acts

-- What is asked of a view before its check: the instances of its core have spellings, the core has no more actions than a verdict can number, and
-- where its actions and the first ones of the views directly below have roles, so has all that stands directly below one of the core. The last holds
-- of every opened tree whose holes are filled.
pub record CanBeChecked (packages : Packages) (shown : Shown) (view : OpenedView) : Type 0 where
  pub spellable : All (λ (a : ℕ × Act). IsSpellableInstance (instance_of (a.1).action)) view.core
  pub few : length view.core ≤ 65536
  pub below : AllHaveRoles packages (acts_of_core view.core ++ subview_starts shown view)
      → All (λ (a : ℕ × Act). AllHaveRoles packages (roots_of (below_at a.0 shown.roots))) view.core
