use Rattle.std.proofs.Common.{◌≤◌, drop}
use Rattle.std.specs.Prelude.{◌^◌}
use Rattle.world_play.specs.Events.{advance_in}
use Rattle.layer_cases.proofs.world.plan.is_within_time.Given as goal

-- where the others move the time no further than is left, all fit
abbrev pub invariant-events : goal.invariant-events
invariant-events l = advance_in (drop l.event-index l.events) ≤ l.left → advance_in l.events ≤ 10 ^ 16
