use Rattle.std.proofs.Common.{◌∙◌}
use Rattle.std.proofs.lemmas.Result.{IfOk-weaker}
use Rattle.confirm_reply.proofs.Answered.{can_be, fixed_is, open_is, together_is}
use Rattle.confirm_reply.proofs.ByKnown.{by_known}
use Rattle.confirm_reply.proofs.view_check.check_view_among.Goals as goal

pub returns-in-Fixed-clause-by_facts : goal.returns-in-Fixed-clause-by_facts
returns-in-Fixed-clause-by_facts g c = fixed_is c.args.input.now c.args.view.now _ c.in-Fixed.is

pub returns-in-Fixed-clause-by_known : goal.returns-in-Fixed-clause-by_known
returns-in-Fixed-clause-by_known g c = λ known held offer place.
    fixed_is c.args.input.now c.args.view.now _ c.in-Fixed.is ∙ by_known c.args.input.now c.args.view.now known held offer place

pub check_opened-requires-clause-together : goal.check_opened-requires-clause-together
check_opened-requires-clause-together g c =
    together_is c.args.input.now c.args.view.now _ _ c.in-Open.is c.opened-tree.ensures c.args.roots.now c.requires.together

pub check_opened-requires-clause-checkable : goal.check_opened-requires-clause-checkable
check_opened-requires-clause-checkable g c =
    can_be c.args.input.now c.args.view.now _ _ c.in-Open.is c.opened-tree.ensures c.requires.checkable

pub returns-in-Open-clause-by_facts : goal.returns-in-Open-clause-by_facts
returns-in-Open-clause-by_facts g c =
    IfOk-weaker c.check_opened.result _ _ (λ verdict is. is ∙ open_is c.args.input.now c.args.view.now _ _ c.in-Open.is c.opened-tree.ensures) c.check_opened.ensures

pub returns-in-Open-clause-by_known : goal.returns-in-Open-clause-by_known
returns-in-Open-clause-by_known g c =
    IfOk-weaker c.check_opened.result _ _ (λ verdict is known held offer place.
    is ∙ (open_is c.args.input.now c.args.view.now _ _ c.in-Open.is c.opened-tree.ensures ∙ by_known c.args.input.now c.args.view.now known held offer place))
    c.check_opened.ensures
