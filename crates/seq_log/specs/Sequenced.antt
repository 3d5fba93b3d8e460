-- What contracts see of a sequencer.
use Rattle.std.specs.Prelude.{◌≡◌, ℕ, List, Option, Some, None}
use Rattle.ledger_terms.specs.declared.topology.Topology.{Topology}
use Rattle.framed_form.specs.Framed.{is_framed}
use Rattle.world_model.specs.Messages.{Entry, Request}
use Rattle.world_model.specs.Machine.{Machine}
use Rattle.world_model.specs.Sequencing as s
use Rattle.log_row.specs.LogPrefix.{LogPrefix, RowName}
use Rattle.seq_log.specs.declared.fault.AppendFault.{AppendFault}
use Rattle.seq_log.specs.declared.fault.AppendFault.TheVariants.{Already, Unframed, LogFull, TooLate, Memory}

-- What contracts see of a sequencer: the name of its history, its log, how many places requests may need in all, and its topology.
pub record Sequenced : Type 0 where
  pub row : RowName
  pub list : List Entry
  pub capacity : ℕ
  pub topology : Topology

-- the history that the sequencer writes, with all its entries, as a pen or a slip is seen
abbrev pub prefix_of : Sequenced → LogPrefix
prefix_of s = record { row = s.row; list = s.list }

-- The machine, that is what the definitions rest on, has this sequencer's times and capacity, and counts those requests as framed that are framed
-- over its topology.
pub record IsFor (m : Machine) (s : Sequenced) : Type 0 where
  pub params : m.params ≡ (s.topology).params
  pub framed : (request : Request) → (m.reading).is_framed request ≡ is_framed s.topology request
  pub capacity : m.capacity ≡ s.capacity

-- a fault of the code in the words of the world model; None of want of memory, which is no fault there
abbrev pub cause_of : AppendFault → Option s.AppendFault
cause_of (Already place) = Some (s.Already place)
cause_of Unframed = Some s.Unframed
cause_of (LogFull reserved need) = Some (s.LogFull reserved need)
cause_of (TooLate decision time) = Some (s.TooLate decision time)
cause_of Memory = None

-- a fault of the code, where there is one, in the words of the world model; None where there is none or it is want of memory
abbrev pub fault_if : Option AppendFault → Option s.AppendFault
fault_if None = None
fault_if (Some fault) = cause_of fault

-- What is left possible where an append answers want of memory, of the fault that the definition gives (None where the message fits): none, Unframed
-- or LogFull. So no such message stands in the log yet, and it isn't too late.
abbrev pub LeftOpen : Option s.AppendFault → Type 0
LeftOpen None = Unit {0}
LeftOpen (Some (s.Already place)) = ⊥
LeftOpen (Some s.Unframed) = Unit {0}
LeftOpen (Some (s.LogFull reserved need)) = Unit {0}
LeftOpen (Some (s.TooLate decision time)) = ⊥
