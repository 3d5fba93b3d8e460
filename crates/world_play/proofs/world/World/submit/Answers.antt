use Rattle.std.proofs.Common.{sym, subst, inr}
use Rattle.seq_log.specs.Sequenced.{Sequenced}
use Rattle.world_play.specs.Answering.{IsAnswer}
use Rattle.world_play.specs.Submitted.{IsSlipOf}
use Rattle.world_play.proofs.world.World.submit.Goals as goal

pub returns-in-Ok-clause-answers : goal.returns-in-Ok-clause-answers
returns-in-Ok-clause-answers g c =
    let answer = c.in-Ok.answer in
    let before = c.args.self.now in
    inr (
      answer,
      c.in-Ok.ensures.plain,
      subst (λ (q : Sequenced). IsSlipOf answer q c.slip_of.result) (sym c.slip_of.ensures.same) c.slip_of.ensures.slip,
      λ m state topology packages round is lawful set_up paused.
          subst (λ (q : Sequenced). IsAnswer m topology packages before.now round (before.sequencer).list c.args.what.now answer q.list)
          (sym c.slip_of.ensures.same) (c.in-Ok.ensures.answers m state topology packages round is lawful set_up paused),
    )
