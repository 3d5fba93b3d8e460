use Rattle.std.proofs.Common.{rules}
use Rattle.script_read.specs.Script.{counted_package}
use Rattle.script_read.proofs.read.read_packages.Goals as goal

pub returns : goal.returns
returns c = c.read_counted.ensures (counted_package c.args.topology.now.hosts) (record { each = λ v at n r h p. search rules })
