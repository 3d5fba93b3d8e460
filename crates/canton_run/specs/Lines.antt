-- The line that says why a run ended.
use Rattle.std.specs.Prelude.{ℕ, ◌==◌, if◌then◌else◌, List, [], ◌++◌, Option, Some, None, codes}
use Rattle.lang_check.specs.KindNames.{kind_name}
use Rattle.script_read.specs.declared.script_fault.ScriptFault.{ScriptFault}
use Rattle.script_read.specs.declared.script_fault.ScriptFault.TheVariants.{NotJson, Shape, NotInteger, Unknown, Package, Limit, Repeated, Memory}
use Rattle.script_read.specs.Faults.{fault_name}

-- Why a run ended with this status, in words, and `unknown status` of one that isn't named here. Neither 0 nor 3 is named: at 0 no line is written, and
-- at 3 the script's fault is told.
abbrev pub why_text : ℕ → List ℕ
why_text status =
    if status == 2 then codes "usage"
    else if status == 4 then codes "read fault"
    else if status == 5 then codes "write fault"
    else if status == 6 then codes "too long"
    else if status == 70 then codes "out of memory"
    else codes "unknown status"

-- How the line of a script's fault ends: a space and the fault's place, a JSON pointer, where it has one, and else nothing. A fault of packages has its
-- kind before its place.
abbrev pub place_text : ScriptFault → List ℕ
place_text NotJson = []
place_text (Shape path) = codes " " ++ path
place_text (NotInteger path) = codes " " ++ path
place_text (Unknown path name) = codes " " ++ path
place_text (Package fault) = codes " " ++ kind_name fault.kind ++ codes " " ++ fault.at
place_text (Limit path which found) = codes " " ++ path
place_text (Repeated path) = codes " " ++ path
place_text Memory = []

-- the line of a script's fault: its name, and its place where it has one
abbrev pub fault_line : ScriptFault → List ℕ
fault_line fault = codes "canton_cli: script " ++ fault_name fault ++ place_text fault

-- the line on standard error that says why a run ended: by the script's fault where there is one, and else by the status
abbrev pub line_of : ℕ → Option ScriptFault → List ℕ
line_of status (Some fault) = fault_line fault
line_of status None = codes "canton_cli: " ++ why_text status
