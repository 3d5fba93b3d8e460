-- A script's fault in words, its place, and the faults of a walk as faults of a script.
use Rattle.std.specs.Prelude.{ℕ, List, Option, Some, None, Result, Ok, Err, codes}
use Rattle.json_walk.specs.declared.walk_fault.WalkFault.{WalkFault}
use Rattle.json_walk.specs.declared.walk_fault.WalkFault.TheVariants as walk
use Rattle.script_read.specs.declared.script_fault.ScriptFault.{ScriptFault}
use Rattle.script_read.specs.declared.script_fault.ScriptFault.TheVariants.{NotJson, Shape, NotInteger, Unknown, Package, Limit, Repeated, Memory}

-- the word for a fault, as the line of a refused script has it
abbrev pub fault_name : ScriptFault → List ℕ
fault_name NotJson = codes "NotJson"
fault_name (Shape path) = codes "Shape"
fault_name (NotInteger path) = codes "NotInteger"
fault_name (Unknown path name) = codes "Unknown"
fault_name (Package fault) = codes "Package"
fault_name (Limit path which found) = codes "Limit"
fault_name (Repeated path) = codes "Repeated"
fault_name Memory = codes "Memory"

-- the place of a fault in the script, as a JSON pointer; None of bytes that are no JSON, of want of memory, and of a fault of the packages, which says
-- its place among these itself
abbrev pub fault_path : ScriptFault → Option (List ℕ)
fault_path NotJson = None
fault_path (Shape path) = Some path
fault_path (NotInteger path) = Some path
fault_path (Unknown path name) = Some path
fault_path (Package fault) = None
fault_path (Limit path which found) = Some path
fault_path (Repeated path) = Some path
fault_path Memory = None

-- a fault of a walk through JSON as the fault of a script that it is
abbrev pub script_fault : WalkFault → ScriptFault
script_fault walk.NotJson = NotJson
script_fault (walk.Shape path) = Shape path
script_fault (walk.NotInteger path) = NotInteger path
script_fault (walk.Unknown path name) = Unknown path name
script_fault (walk.Limit path which found) = Limit path which found
script_fault (walk.Repeated path) = Repeated path
script_fault walk.Memory = Memory

-- the result of a walk through JSON, with an Err as the fault of a script that it is, so that it can stand beside faults of the packages
abbrev pub from_walk : {A : Type 0} → Result A WalkFault → Result A ScriptFault
from_walk (Ok a) = Ok a
from_walk (Err e) = Err (script_fault e)
