-- Scripts in dumps, and what a script's logs are judged by.
use Rattle.std.specs.Prelude.{ℕ, ◌-◌, List, Option, Some, None, Result, Ok, Err, length, map}
use Rattle.framed_form.specs.FramedReading.{framed_reading}
use Rattle.audit_model.specs.Standard.{Standard}
use Rattle.log_judge.specs.Known.{standard_for}
use Rattle.log_judge.specs.RuleUses.{rule_of}
use Rattle.script_read.specs.Script.{script_in}
use Rattle.script_read.specs.declared.script.Script.{Script}
use Rattle.script_read.specs.declared.script_fault.ScriptFault.{ScriptFault}

-- The script that was read, and None where a fault was found.
abbrev pub unless_fault : Result Script ScriptFault → Option Script
unless_fault (Ok script) = Some script
unless_fault (Err fault) = None

-- The script that the bytes of a JSON text spell, and None where they have a fault.
unfoldable pub script_of : List ℕ → Option Script
script_of bytes = unless_fault (script_in bytes)

-- The greatest index of a participant of the script, counted from 0, up to which a dump's log may name participants; 0 where there is none.
abbrev pub most_of : Script → ℕ
most_of script = length (script.topology).hosts - 1

-- What the logs of a script are judged by: its participants, packages, times and rules.
abbrev pub standard_of : Script → Standard
standard_of script = standard_for (framed_reading script.topology script.checked) (script.topology).params (map rule_of script.triggers)
