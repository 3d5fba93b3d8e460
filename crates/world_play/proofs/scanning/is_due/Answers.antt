use Rattle.std.proofs.Common.{sym, ap, ◌∙◌}
use Rattle.canton_model.specs.Mediation.{has_responded}
use Rattle.seq_log.specs.Sequenced.{Sequenced}
use Rattle.world_play.proofs.Scanned.{due_of_none, due_of_one}
use Rattle.world_play.proofs.scanning.is_due.Goals as goal

pub returns-in-Some-clause-due : goal.returns-in-Some-clause-due
returns-in-Some-clause-due c = λ m is f g.
    let from = c.in-Some.from in
    due_of_one m c.args.sequencer.now is f g c.args.at c.args.place c.requires from (sym c.asked_at.ensures.asked ∙ c.in-Some.is) c.has_response.result
    (c.has_response.ensures ∙ ap (λ (q : Sequenced). has_responded c.args.place q.list from) c.asked_at.ensures.same)

pub returns-in-None-clause-due : goal.returns-in-None-clause-due
returns-in-None-clause-due c = λ m is f g.
    due_of_none m c.args.sequencer.now is f g c.args.at c.args.place (sym c.asked_at.ensures.asked ∙ c.in-None.is)
