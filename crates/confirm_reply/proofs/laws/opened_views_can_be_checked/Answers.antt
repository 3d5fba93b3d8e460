use Rattle.confirm_reply.proofs.Checkable.{each_can_be}
use Rattle.confirm_reply.proofs.Covered.{filled_can_be}
use Rattle.confirm_reply.proofs.laws.opened_views_can_be_checked.Goals as goal

pub returns-clause-filled : goal.returns-clause-filled
returns-clause-filled c = λ packages tree view there filled spelled few. filled_can_be packages tree view there filled spelled few

pub returns-clause-sure : goal.returns-clause-sure
returns-clause-sure c = λ packages tree view there roles spelled few. each_can_be packages tree view there roles spelled few
