-- What is asked of every action that is opened before a view is checked.
use Rattle.std.specs.Prelude.{◌≡◌, ◌≤◌, true, All, Some, length}
use Rattle.ledger_terms.specs.declared.act.Act.{Act}
use Rattle.ledger_model.specs.Forest.{acts}
use Rattle.ledger_model.specs.Opening.{OpenedView}
use Rattle.ledger_model.specs.Terms.{Action, Path, instance_of}
use Rattle.lang_eval.specs.Found.{Packages}
use Rattle.lang_eval.specs.Language.{has_roles}
use Rattle.wire_form.specs.Spellable.{IsSpellableInstance}
use Rattle.view_split.specs.Placed.{shown_by}
use Rattle.view_split.specs.declared.opened_tree.OpenedTree.{OpenedTree}
use Rattle.confirm_reply.specs.Opened.{view_at}

-- an action has roles by the packages, and its instance has a spelling, over which its id is hashed
pub record IsSure (packages : Packages) (action : Action) : Type 0 where
  pub roles : has_roles packages action ≡ true
  pub spellable : IsSpellableInstance (instance_of action)

-- The view with this path can be checked: it is opened, its core has no more actions than a verdict can number, and each action of the opened tree
-- has roles and an instance with a spelling.
pub record IsReady (packages : Packages) (tree : OpenedTree) (path : Path) : Type 0 where
  pub each : All (λ (act : Act). IsSure packages act.action) (acts (shown_by tree).roots)
  pub view : OpenedView
  pub opened : view_at path tree ≡ Some view
  pub few : length view.core ≤ 65536
