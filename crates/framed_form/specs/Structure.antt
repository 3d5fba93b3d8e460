-- Views that have the structure that their actions ask for.
use Rattle.std.specs.Prelude.{◌≡◌, true, false, Contains}
use Rattle.ledger_terms.specs.Parties.{set_of}
use Rattle.ledger_terms.specs.declared.act.Act.{Act}
use Rattle.ledger_terms.specs.declared.action.Action.{Action}
use Rattle.ledger_terms.specs.Forest.{Forest, NoRoots, Root, roots_of}
use Rattle.ledger_model.specs.declared.roles.Roles.{Roles}
use Rattle.ledger_model.specs.Views.{its_informees, starts}
use Rattle.view_split.specs.Holed.{inner}
use Rattle.view_split.specs.declared.split_view.SplitView.{SplitView}
use Rattle.view_split.specs.Split.{confirmers_in, core_acts}

-- A view's informees are those of its first action, and its confirmers are the confirmers of all actions of its core, as a set. No other action of its
-- core starts a view of its own there, and the first action of each view directly below does.
pub record IsStructured (roles : Action → Roles) (view : SplitView) (subviews : Forest SplitView) : Type 0 where
  pub informees : view.informees ≡ its_informees roles view.first
  pub confirmers : view.confirmers ≡ set_of (confirmers_in roles (core_acts view))
  pub inside : (act : Act) → Contains (inner view.below) act → starts roles view.informees act ≡ false
  pub below : (subview : SplitView) → Contains (roots_of subviews) subview → starts roles view.informees subview.first ≡ true

-- each of these views, and of those below them, has the structure that `IsStructured` asks for; `roles` gives an action's roles
abbrev pub AreStructured : (Action → Roles) → Forest SplitView → Type 0
AreStructured roles NoRoots = Unit {0}
AreStructured roles (Root view subviews others) = IsStructured roles view subviews × AreStructured roles subviews × AreStructured roles others
