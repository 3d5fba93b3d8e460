use Rattle.audit_model.proofs.Deciding.{true_from}
use Rattle.log_judge.proofs.Knowing.{if_ok_map}
use Rattle.log_judge.proofs.triggers.is_wrong_trigger.Goals as goal

pub returns-in-Request : goal.returns-in-Request
returns-in-Request g c = rw c.in-Request.is
    (if_ok_map c.is_wrong_request.result _ _ c.is_wrong_request.ensures
    (λ is told params log used framed. told params log used
    (true_from ((g.P.Participants.reading c.args.participants.now).is_framed c.in-Request.request) framed)))
