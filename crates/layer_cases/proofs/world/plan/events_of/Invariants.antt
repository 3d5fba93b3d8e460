use Rattle.std.specs.Prelude.{All}
use Rattle.world_play.specs.Events.{CanHappen}
use Rattle.world_play.specs.Submitting.{CanSubmit}
use Rattle.layer_cases.proofs.world.plan.events_of.Given as goal

-- what is left can be submitted, and what was said can happen
abbrev pub invariant-words : goal.invariant-words
invariant-words l =
    All (CanSubmit (l.setup).topology (l.setup).checked) ((l.left).submits).items × All (CanHappen (l.setup).topology (l.setup).checked) l.events
