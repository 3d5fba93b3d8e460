use Rattle.std.proofs.Common.{◌≡◌, true, List, arith, subst}
use Rattle.std.specs.Prelude.{Decides}
use Rattle.ledger_terms.specs.declared.params.Params.{Params}
use Rattle.world_model.specs.Messages.{Entry}
use Rattle.audit_model.specs.Cases.{AnswersNothing, IsMistimed, IsTooLate, is_repeated}
use Rattle.audit_model.specs.declared.why.Why.TheVariants.{Unframed, Repeated}
use Rattle.audit_model.proofs.Deciding.{false_from}
use Rattle.log_judge.proofs.Knowing.{decides_test, if_ok_map}
use Rattle.log_judge.proofs.auditor.Auditor.shows.Goals as goal

pub returns-in-Time : goal.returns-in-Time
returns-in-Time g c = rw c.in-Time.is
    (λ log k proper none.
    subst (λ (l : List Entry). Decides c.is_mistimed.result (IsMistimed l c.args.entry.now)) k.list c.is_mistimed.ensures)

pub returns-in-Unframed : goal.returns-in-Unframed
returns-in-Unframed g c = rw c.in-Unframed.is
    (λ log k proper none. c.is_unframed.ensures (g.P.Participants.reading c.args.self.now.participants) c.requires)

pub returns-in-Repeated : goal.returns-in-Repeated
returns-in-Repeated g c = rw c.in-Repeated.is
    (λ log k proper none.
    subst (λ (l : List Entry). Decides c.is_repeated.result (is_repeated l c.args.entry.now.message ≡ true)) k.list
    (decides_test c.is_repeated.result _ c.is_repeated.ensures))

pub returns-in-NoRequest : goal.returns-in-NoRequest
returns-in-NoRequest g c = rw c.in-NoRequest.is
    (λ log k proper none.
    subst (λ (l : List Entry). Decides c.answers_nothing.result (AnswersNothing l c.args.entry.now.message)) k.list c.answers_nothing.ensures)

pub returns-in-TooLate : goal.returns-in-TooLate
returns-in-TooLate g c = rw c.in-TooLate.is
    (λ log k proper none.
    subst (λ (l : List Entry). Decides c.is_too_late.result (IsTooLate (g.P.Participants.params c.args.self.now.participants) l c.args.entry.now.message c.args.entry.now.time)) k.list
    (subst (λ (q : Params). Decides c.is_too_late.result (IsTooLate q c.args.self.now.log.list c.args.entry.now.message c.args.entry.now.time)) k.same
    c.is_too_late.ensures))

pub returns-in-WrongDecision : goal.returns-in-WrongDecision
returns-in-WrongDecision g c = rw c.in-WrongDecision.is
    (λ log k proper none.
    c.is_other_decision.ensures log k proper.genuine (false_from (is_repeated log c.args.entry.now.message) (none Repeated (omega arith))))

pub returns-in-WrongTrigger : goal.returns-in-WrongTrigger
returns-in-WrongTrigger g c = rw c.in-WrongTrigger.is
    (if_ok_map c.is_wrong_trigger.result _ _ c.is_wrong_trigger.ensures
    (λ is told log k proper none.
    decides_test is _ (told (g.P.Participants.params c.args.self.now.participants) log k.used (none Unframed (omega arith)))))
