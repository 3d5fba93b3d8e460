use Rattle.std.proofs.Common.{rules}
use Rattle.script_read.specs.Script.{script_in}
use Rattle.script_read.proofs.Accepting.{script_accepted}
use Rattle.script_read.proofs.read.read_script.Goals as goal

pub returns-clause-accepted : goal.returns-clause-accepted
unfolding script_in
returns-clause-accepted c = script_accepted c.args.bytes.now _ (search rules)
