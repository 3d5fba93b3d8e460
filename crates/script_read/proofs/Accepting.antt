-- A script that is read is accepted.
use Rattle.std.proofs.Common.{ℕ, List, Result, Ok, Err}
use Rattle.std.specs.Prelude.{IfOk}
use Rattle.ledger_terms.specs.Answers.{Follows}
use Rattle.script_read.specs.Kept.{IsAccepted}
use Rattle.script_read.specs.Script.{script_in}
use Rattle.script_read.specs.declared.script.Script.{Script}
use Rattle.script_read.specs.declared.script_fault.ScriptFault.{ScriptFault}
use Rattle.script_read.specs.declared.script_fault.ScriptFault.TheVariants.{Memory}
use Rattle.script_read.proofs.PackageLaws.{packages_kept}
use Rattle.script_read.proofs.RoundLaws.{rounds_kept, triggers_kept}
use Rattle.script_read.proofs.Topologies.{script_parts, valid_read}

pub script_accepted : (bytes : List ℕ) (r : Result Script ScriptFault) → Follows Memory r (script_in bytes) → IfOk r IsAccepted
script_accepted bytes (Ok s) h =
    let read = script_parts bytes s h in
    record { topology = valid_read s read; packages = packages_kept s read; triggers = triggers_kept s read; rounds = rounds_kept s read }
script_accepted bytes (Err e) h = tt
