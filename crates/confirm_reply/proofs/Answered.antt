-- What is answered by what is shown.
use Rattle.std.proofs.Common.{◌≡◌, ℕ, List, Option, Some, refl, sym, ap, ◌∙◌, subst}
use Rattle.ledger_model.specs.Opening.{OpenedView}
use Rattle.ledger_model.specs.Terms.{Path}
use Rattle.canton_model.specs.declared.local_verdict.LocalVerdict.TheVariants.{Reject}
use Rattle.canton_model.specs.declared.reason.Reason.{Reason}
use Rattle.ledger_terms.specs.Trees.{Actions}
use Rattle.view_split.specs.Placed.{shown_by}
use Rattle.view_split.specs.declared.opened_tree.OpenedTree.{OpenedTree}
use Rattle.confirm_reply.specs.Offered.{roots_shown}
use Rattle.confirm_reply.specs.Opened.{CanBeChecked, view_at}
use Rattle.confirm_reply.specs.Verdict.{CanCheck, reading_of, verdict_of, verdict_on_found, verdict_on_shown}
use Rattle.confirm_reply.specs.declared.check_input.CheckInput.{CheckInput}
use Rattle.confirm_reply.specs.declared.shown.Shown.{Shown}
use Rattle.confirm_reply.specs.declared.shown.Shown.TheVariants.{Fixed, Open}

module _ (input : CheckInput) (path : Path) where
  pub fixed_is : (reason : Reason) → input.shown ≡ Fixed reason → Reject reason 0 ≡ verdict_of input path
  fixed_is reason is = sym (ap (verdict_on_shown input path) is)

  -- a tree that is looked at is what is shown
  module _ (tree opened : OpenedTree) (is : input.shown ≡ Open tree) (same : opened ≡ tree) where
    pub open_is : verdict_on_found (reading_of input) input.setup.now.topology.params input.me input.sender input.time input.facts (shown_by opened) (view_at path opened)
        ≡ verdict_of input path
    open_is =
        ap (λ (t : OpenedTree). verdict_on_found (reading_of input) input.setup.now.topology.params input.me input.sender input.time input.facts (shown_by t) (view_at path t)) same
        ∙ sym (ap (verdict_on_shown input path) is)

    pub together_is : (roots : Actions) → roots ≡ roots_shown input.shown → roots ≡ (shown_by opened).roots
    together_is roots put = put ∙ (ap roots_shown is ∙ ap (λ (t : OpenedTree). (shown_by t).roots) (sym same))

    pub can_be : CanCheck input path → (view : OpenedView) → view_at path opened ≡ Some view → CanBeChecked input.setup.now.checked (shown_by opened) view
    can_be can view found =
        subst (λ (t : OpenedTree). CanBeChecked input.setup.now.checked (shown_by t) view) (sym same)
        (can tree view is (subst (λ (t : OpenedTree). view_at path t ≡ Some view) same found))
