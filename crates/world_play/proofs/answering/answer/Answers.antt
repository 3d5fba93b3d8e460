use Rattle.std.proofs.Common.{refl, sym, ◌∙◌, inl, inr, arith}
use Rattle.node_core.proofs.OverLog.{within_log}
use Rattle.world_play.proofs.Submits.{if_ok}
use Rattle.world_play.proofs.answering.answer.Goals as goal

pub returns-then-paused-clause-answers : goal.returns-then-paused-clause-answers
returns-then-paused-clause-answers g c = λ m round given flag.
    let within = within_log (c.args.sequencer.now).list c.args.node.now given.inbox in
    let cursor = c.cursor.ensures in
    inl (sym flag ∙ (sym c.paused.ensures ∙ c.if-paused.true), c.cursor.result, omega (arith, within, cursor), refl, refl)

pub returns-clause-answers : goal.returns-clause-answers
returns-clause-answers g c =
    if_ok c.answer_awake.result _ _ c.answer_awake.ensures.answers
    (λ answer h m round given flag. inr (sym flag ∙ (sym c.paused.ensures ∙ c.if-paused.false), h m given))
