-- What can be checked of what is shown.
use Rattle.std.proofs.Common.{◌≡◌, Some, sym, ◌∙◌, subst}
use Rattle.ledger_model.specs.Opening.{OpenedView}
use Rattle.ledger_model.specs.Terms.{Path}
use Rattle.lang_eval.specs.Found.{Packages}
use Rattle.view_split.specs.Placed.{shown_by}
use Rattle.view_split.specs.declared.opened_tree.OpenedTree.{OpenedTree}
use Rattle.confirm_reply.specs.Opened.{CanBeChecked, view_at}
use Rattle.confirm_reply.specs.Verdict.{CanCheck}
use Rattle.confirm_reply.specs.declared.check_input.CheckInput.{CheckInput}
use Rattle.confirm_reply.specs.declared.shown.Shown.{Shown}
use Rattle.confirm_reply.specs.declared.shown.Shown.TheVariants.{Fixed, Open}

-- the view can be checked, where it is opened
abbrev CanBe : Packages → Path → Shown → Type 0
CanBe packages path (Fixed reason) = Unit {0}
CanBe packages path (Open tree) = (view : OpenedView) → view_at path tree ≡ Some view → CanBeChecked packages (shown_by tree) view

pub can_check : (input : CheckInput) (path : Path) (shown : Shown) → input.shown ≡ shown → CanBe input.setup.now.checked path shown → CanCheck input path
can_check input path shown is can tree view here found = subst (CanBe input.setup.now.checked path) (sym is ∙ here) can view found

-- a tree that is looked at is what is shown
pub open_can : (input : CheckInput) (path : Path) (tree opened : OpenedTree) → input.shown ≡ Open tree → opened ≡ tree
    → ((view : OpenedView) → view_at path opened ≡ Some view → CanBeChecked input.setup.now.checked (shown_by opened) view) → CanCheck input path
open_can input path tree opened is same can =
    can_check input path (Open tree) is
    (subst (λ (t : OpenedTree). (view : OpenedView) → view_at path t ≡ Some view → CanBeChecked input.setup.now.checked (shown_by t) view) same can)
