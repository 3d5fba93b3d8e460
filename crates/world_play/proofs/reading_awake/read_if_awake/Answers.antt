use Rattle.std.proofs.Common.{ap}
use Rattle.node_core.specs.Participant.{Participant as NodeValue}
use Rattle.world_play.proofs.Answered.{on_ok}
use Rattle.world_play.proofs.Readers.{begins}
use Rattle.world_play.proofs.reading_awake.read_if_awake.Goals as goal

pub returns-then-paused-clause-some : goal.returns-then-paused-clause-some
returns-then-paused-clause-some c = begins c.args.node.now c.args.sequencer.now.list c.requires

pub returns-clause-flag : goal.returns-clause-flag
returns-clause-flag c = ap (λ (u : NodeValue). (u.state).is_paused) c.read_to_end.ensures.some.is

pub returns-clause-ok : goal.returns-clause-ok
returns-clause-ok c = on_ok c.read_to_end.result _ _ c.read_to_end.ensures.ok (λ is awake. is)
