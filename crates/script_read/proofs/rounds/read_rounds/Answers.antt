use Rattle.std.proofs.Common.{rules}
use Rattle.script_read.specs.Rounds.{round_of}
use Rattle.script_read.proofs.rounds.read_rounds.Goals as goal

pub returns : goal.returns
returns c = c.read_counted.ensures (round_of c.args.topology.now.hosts c.args.rules.now) (record { each = λ v at n r h p. search rules })
