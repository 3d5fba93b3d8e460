use Rattle.std.proofs.Common.{sym, subst}
use Rattle.node_core.specs.declared.submit_result.SubmitResult.{SubmitResult}
use Rattle.world_play.specs.Results.{IsPlainResult}
use Rattle.world_play.specs.Submitted.{IsAnsweredBy}
use Rattle.world_play.proofs.Submits.{if_ok}
use Rattle.canton_run.proofs.SentOne.{refused_one, sent_one}
use Rattle.canton_run.proofs.second_part.submit_one.Goals as goal

pub returns-in-Ok-clause-answers : goal.returns-in-Ok-clause-answers
returns-in-Ok-clause-answers g c =
    let l = c.requires.lawful in
    let w = c.requires.within in
    let p = c.requires.paused in
    sent_one c.args.world.now c.submit.new.self c.args.what.now (l.0, l.1, l.2, l.3) w.0 w.1 w.2 p.0 p.1 c.in-Ok.slip c.place-place.result
    c.place-place.ensures.place c.in-Ok.ensures.answers

pub returns-in-Err-clause-answers : goal.returns-in-Err-clause-answers
returns-in-Err-clause-answers g c =
    let before = c.args.world.now in
    let after = c.submit.new.self in
    let what = c.args.what.now in
    if_ok c.refused.result _ _ c.refused.ensures
    (λ answer h.
    subst (λ (a : SubmitResult). IsPlainResult a × IsAnsweredBy a before what after) (sym h.1)
    (refused_one before after what c.in-Err.field-0 h.0 c.in-Err.ensures.answers))
