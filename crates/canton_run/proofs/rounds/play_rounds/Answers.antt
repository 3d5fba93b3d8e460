use Rattle.std.proofs.Common.{◌≡◌, ◌≤◌, ℕ, List, ap, arith, length, subst}
use Rattle.std.proofs.lemmas.List.{take_all}
use Rattle.script_read.specs.declared.round.Round.{Round}
use Rattle.trigger_rules.specs.Kept.{fired_by}
use Rattle.canton_run.specs.Restarts.{ArePrunedBy}
use Rattle.canton_run.specs.RoundsPlayed.{RoundsArePlayed}
use Rattle.canton_run.specs.Run.{script_with}
use Rattle.canton_run.proofs.rounds.play_rounds.Goals as goal

pub returns-clause-played : goal.returns-clause-played
returns-clause-played g c =
    let plan = c.args.plan.now in
    let rules = c.args.rules.now in
    let played = c.rounds.played in
    let script = script_with plan.setup.now rules.rules plan.rounds.now in
    let few : length plan.rounds.now ≤ 2048 = (c.requires.accepted.rounds).few in
    let e = ap length c.as_slice.ensures in
    let all : c.rounds.number ≡ length plan.rounds.now = omega (arith, c.rounds-test.false, c.rounds.auto.number-end, e, few) in
    subst
    (λ (k : ℕ).
    RoundsArePlayed (g.A.Answering.may_answer rules.answer) script plan.capacity c.args.workers.now.count k played.world (fired_by c.rounds.rules)
    (played.answers).results (played.answers).ends (played.answers).caused)
    all (c.rounds.invariant.2)

pub returns-clause-pruned : goal.returns-clause-pruned
returns-clause-pruned g c =
    let plan = c.args.plan.now in
    let played = c.rounds.played in
    let script = script_with plan.setup.now c.args.rules.now.rules plan.rounds.now in
    let few : length plan.rounds.now ≤ 2048 = (c.requires.accepted.rounds).few in
    let e = ap length c.as_slice.ensures in
    let long : length plan.rounds.now ≤ c.rounds.number = omega (arith, c.rounds-test.false, c.rounds.auto.number-end, e, few) in
    subst (λ (rounds : List Round). ArePrunedBy script rounds (played.answers).ends played.world) (take_all c.rounds.number plan.rounds.now long)
    (c.rounds.invariant.3)
