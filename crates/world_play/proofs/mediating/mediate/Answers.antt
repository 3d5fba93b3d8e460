use Rattle.std.proofs.Common.{length, ap, ◌∙◌, subst}
use Rattle.seq_log.specs.Sequenced.{Sequenced}
use Rattle.world_model.specs.Settled.{append_each}
use Rattle.world_model.specs.Turns.{verdict_messages}
use Rattle.world_play.specs.Parts.{IsMediator, GoesOn}
use Rattle.world_play.proofs.Answered.{on_ok}
use Rattle.world_play.proofs.Mediates.{all_read_before, verdicts_are}
use Rattle.world_play.proofs.mediating.mediate.Goals as goal

pub returns-clause-keeps : goal.returns-clause-keeps
returns-clause-keeps c = λ m state n i.
    let r = c.in_ok-read_log.ensures.ok m state n i in
    let g = c.give_all.ensures.keeps m r.0 (length (c.args.sequencer.now).list) r.1 in (g.0, length (c.args.sequencer.now).list, g.1)

pub returns-clause-given : goal.returns-clause-given
returns-clause-given c =
    on_ok c.give_all.result _ _ c.give_all.ensures.ok
    (λ ok held m state n now i.
    let before = c.args.sequencer.now in
    let r = c.in_ok-read_log.ensures.ok m state n i in
    let g = c.give_all.ensures.keeps m r.0 (length before.list) r.1 in (
      g.0,
      all_read_before m g.0 c.give_all.new.mediator before c.give_all.new.sequencer
          (subst (λ (q : Sequenced). GoesOn q c.give_all.new.sequencer) c.read_log.ensures.same c.give_all.ensures.on) g.1,
      ok m r.0 (length before.list) now r.1
          ∙ (ap (λ (q : Sequenced). append_each m now q.list (verdict_messages (r.0).given (r.0).cases)) c.read_log.ensures.same
          ∙ ap (append_each m now before.list)
          (verdicts_are m r.0 state.given c.read_log.new.mediator before
          (subst (λ (q : Sequenced). IsMediator m r.0 (length before.list) c.read_log.new.mediator q) c.read_log.ensures.same r.1) r.2)),
    ))
