use Rattle.script_read.proofs.RoundLaws.{rounds_kept}
use Rattle.script_read.proofs.Topologies.{script_parts}
use Rattle.script_read.proofs.laws.rounds_are_within_limits.Goals as goal

pub returns : goal.returns
returns c bytes s h = rounds_kept s (script_parts bytes s h)
