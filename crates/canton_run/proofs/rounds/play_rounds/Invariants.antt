use Rattle.std.proofs.Common.{◌≡◌, take}
use Rattle.trigger_rules.specs.Kept.{fired_by}
use Rattle.canton_run.specs.Restarts.{ArePrunedBy}
use Rattle.canton_run.specs.RoundsPlayed.{RoundsArePlayed}
use Rattle.canton_run.specs.Run.{script_with}
use Rattle.canton_run.proofs.rounds.play_rounds.Given as goal

abbrev pub invariant-rounds : goal.invariant-rounds
invariant-rounds g l =
    (l.rules.rules ≡ l.fn.rules.rules) × (l.rules.answer ≡ l.fn.rules.answer)
    × RoundsArePlayed (g.A.Answering.may_answer l.fn.rules.answer) (script_with l.plan.setup.now l.fn.rules.rules l.plan.rounds.now)
    l.plan.capacity l.workers.count l.number l.played.world (fired_by l.rules) (l.played.answers).results (l.played.answers).ends
    (l.played.answers).caused
    × ArePrunedBy (script_with l.plan.setup.now l.fn.rules.rules l.plan.rounds.now) (take l.number l.plan.rounds.now) (l.played.answers).ends
    l.played.world
