use Rattle.std.proofs.Common.{sym, ◌∙◌}
use Rattle.world_play.proofs.Settles.{passing_on, passing_less, all_passed, all_settled, same_list}
use Rattle.world_play.proofs.settling.pass_until_settled.Goals as goal

pub returns-then-len-before-clause-passes : goal.returns-then-len-before-clause-passes
returns-then-len-before-clause-passes g c = λ m state is r.
    all_passed c.args.paused.now c.args.hold_verdicts c.args.world.now c.passes.world c.passes.invariant c.pass.new.world c.pass.ensures.on c.pass.ensures.now
    c.pass.ensures.lawful c.pass.ensures.set_up c.pass.ensures.bases c.in_ok-pass.ensures.ok m state is r
    (same_list c.passes.world.sequencer c.pass.new.world.sequencer c.pass.ensures.on
    (sym c.len.ensures ∙ (c.if-len-before.true ∙ c.len-before.ensures)))

pub returns-then-len-before-clause-settled : goal.returns-then-len-before-clause-settled
returns-then-len-before-clause-settled g c = λ m state is r.
    all_settled c.args.paused.now c.args.hold_verdicts c.args.world.now c.passes.world c.passes.invariant c.pass.new.world c.pass.ensures.on c.pass.ensures.now
    c.pass.ensures.lawful c.pass.ensures.set_up c.pass.ensures.bases c.in_ok-pass.ensures.ok m state is r
    (same_list c.passes.world.sequencer c.pass.new.world.sequencer c.pass.ensures.on
    (sym c.len.ensures ∙ (c.if-len-before.true ∙ c.len-before.ensures)))

pub passes-smaller : goal.passes-smaller
passes-smaller g c =
    passing_less c.args.paused.now c.args.hold_verdicts c.args.world.now c.passes.world c.passes.invariant c.pass.new.world c.pass.ensures.on c.pass.ensures.now
    c.pass.ensures.lawful c.pass.ensures.set_up c.pass.ensures.bases c.in_ok-pass.ensures.ok c.requires.0 c.requires.1 c.requires.2 c.requires.3
    (λ same. c.if-len-before.false (c.len.ensures ∙ (same ∙ sym c.len-before.ensures)))

pub passes-preserved : goal.passes-preserved
passes-preserved g c =
    passing_on c.args.paused.now c.args.hold_verdicts c.args.world.now c.passes.world c.passes.invariant c.pass.new.world c.pass.ensures.on c.pass.ensures.now
    c.pass.ensures.lawful c.pass.ensures.set_up c.pass.ensures.bases c.in_ok-pass.ensures.ok

pub returns-in_err-pass-clause-set_up : goal.returns-in_err-pass-clause-set_up
returns-in_err-pass-clause-set_up g c = λ topology packages u.
    c.pass.ensures.set_up topology packages ((c.passes.invariant).set_up topology packages u)

pub returns-in_err-pass-clause-bases : goal.returns-in_err-pass-clause-bases
returns-in_err-pass-clause-bases g c = λ bases u.
    c.pass.ensures.bases bases ((c.passes.invariant).bases bases u)

pub returns-then-len-before-clause-set_up : goal.returns-then-len-before-clause-set_up
returns-then-len-before-clause-set_up g c = λ topology packages u.
    c.pass.ensures.set_up topology packages ((c.passes.invariant).set_up topology packages u)

pub returns-then-len-before-clause-bases : goal.returns-then-len-before-clause-bases
returns-then-len-before-clause-bases g c = λ bases u.
    c.pass.ensures.bases bases ((c.passes.invariant).bases bases u)
