use Rattle.script_read.proofs.Topologies.{script_parts, valid_read}
use Rattle.script_read.proofs.laws.topologies_are_valid.Goals as goal

pub returns : goal.returns
returns c bytes s h = valid_read s (script_parts bytes s h)
