use Rattle.std.proofs.Common.{Option, sym, ◌∙◌, subst}
use Rattle.world_model.specs.Messages.{Verdict}
use Rattle.seq_log.specs.Sequenced.{Sequenced}
use Rattle.mediator.specs.KeptCases.{KeptMediator, Keeps, with_verdict_taken}
use Rattle.world_play.specs.Parts.{IsMediator}
use Rattle.world_play.proofs.Mediates.{after_taking, giver_less, giver_on, giver_ends, same_mediator}
use Rattle.world_play.proofs.mediating.give_all.Goals as goal

pub returns-in_err-verdict-clause-keeps : goal.returns-in_err-verdict-clause-keeps
returns-in_err-verdict-clause-keeps c = λ m state n i.
    let w = (c.verdicts.invariant).gives m state n 0 i in
    (w.0, subst (λ (k : KeptMediator). IsMediator m w.0 n k c.verdicts.sequencer) (sym c.in_err-verdict.ensures.err) w.1)

pub verdicts-smaller : goal.verdicts-smaller
verdicts-smaller c =
    giver_less c.args.mediator.now c.args.sequencer.now c.verdicts.mediator c.verdicts.sequencer c.verdicts.invariant c.take_verdict.new.self c.in-Some.verdict
    (λ st k. sym c.in-Some.is ∙ c.in_ok-verdict.ensures.verdict st k)
    (λ st k. subst (λ (o : Option Verdict). Keeps c.take_verdict.new.self (with_verdict_taken st o)) c.in-Some.is (c.in_ok-verdict.ensures.ok st k))
    c.take_verdict.ensures.params c.requires.0 c.requires.1 c.requires.2 c.requires.3

pub verdicts-preserved : goal.verdicts-preserved
verdicts-preserved c =
    giver_on c.args.mediator.now c.args.sequencer.now c.verdicts.mediator c.verdicts.sequencer c.verdicts.invariant c.take_verdict.new.self c.in-Some.verdict
    (λ st k. sym c.in-Some.is ∙ c.in_ok-verdict.ensures.verdict st k)
    (λ st k. subst (λ (o : Option Verdict). Keeps c.take_verdict.new.self (with_verdict_taken st o)) c.in-Some.is (c.in_ok-verdict.ensures.ok st k))
    c.take_verdict.ensures.params c.hand_in_verdict.new.sequencer c.hand_in_verdict.ensures.on c.in_ok-hand_in_verdict.ensures.ok
    c.hand_in_verdict.ensures.behind

pub returns-in_err-hand_in_verdict-clause-keeps : goal.returns-in_err-hand_in_verdict-clause-keeps
returns-in_err-hand_in_verdict-clause-keeps c = λ m state n i.
    let w =
    after_taking c.args.mediator.now c.args.sequencer.now c.verdicts.mediator c.verdicts.sequencer c.verdicts.invariant c.take_verdict.new.self c.in-Some.verdict
    (λ st k. sym c.in-Some.is ∙ c.in_ok-verdict.ensures.verdict st k)
    (λ st k. subst (λ (o : Option Verdict). Keeps c.take_verdict.new.self (with_verdict_taken st o)) c.in-Some.is (c.in_ok-verdict.ensures.ok st k))
    c.take_verdict.ensures.params m state n i in
    (w.0, subst (λ (q : Sequenced). IsMediator m w.0 n c.take_verdict.new.self q) (sym c.in_err-hand_in_verdict.ensures.err) w.1)

pub returns-clause-keeps : goal.returns-clause-keeps
returns-clause-keeps c = λ m state n i.
    let w = (c.verdicts.invariant).gives m state n 0 i in (
      w.0,
      same_mediator m w.0 n c.verdicts.mediator c.take_verdict.new.self c.verdicts.sequencer w.1 c.take_verdict.ensures.params
          (subst (λ (o : Option Verdict). Keeps c.take_verdict.new.self (with_verdict_taken w.0 o)) c.in_default.is (c.in_ok-verdict.ensures.ok w.0 (w.1).keeps)),
    )

pub returns-clause-ok : goal.returns-clause-ok
returns-clause-ok c =
    giver_ends c.args.mediator.now c.args.sequencer.now c.verdicts.mediator c.verdicts.sequencer c.verdicts.invariant
    (λ st k. sym c.in_default.is ∙ c.in_ok-verdict.ensures.verdict st k)
