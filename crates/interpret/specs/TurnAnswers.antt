-- What the code answers for what comes next.
use Rattle.std.specs.Prelude.{Result, Ok, Err}
use Rattle.interpret.specs.declared.command_fault.CommandFault.{CommandFault}
use Rattle.interpret.specs.declared.turn.Turn.{Turn as Next}
use Rattle.interpret.specs.declared.turn.Turn.TheVariants.{End as NextEnd, Child as NextChild}
use Rattle.interpret.specs.Act.{Turn, Stop, End, Child}

-- what the code answers for what comes next, as the definitions have it: an end, a child, or a stop at a fault
abbrev pub turn_shown : Result Next CommandFault → Turn
turn_shown (Ok (NextEnd v)) = End v
turn_shown (Ok (NextChild s)) = Child s
turn_shown (Err e) = Stop e
