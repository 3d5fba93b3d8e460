use Rattle.script_read.proofs.PackageLaws.{packages_kept}
use Rattle.script_read.proofs.Topologies.{script_parts}
use Rattle.script_read.proofs.laws.packages_are_within_limits.Goals as goal

pub returns : goal.returns
returns c bytes s h = packages_kept s (script_parts bytes s h)
