-- Answers to submissions in the words of the world model.
use Rattle.std.specs.Prelude.{ℕ, Bool, true, false, List, Option, Some, None, Result, Ok, Err}
use Rattle.world_model.specs.Messages.{Entry}
use Rattle.world_model.specs.Rounds as r
use Rattle.seq_log.specs.declared.fault.AppendFault.{AppendFault}
use Rattle.seq_log.specs.declared.fault.AppendFault.TheVariants as append
use Rattle.prepare_request.specs.declared.submit_fault.SubmitFault.{SubmitFault}
use Rattle.prepare_request.specs.declared.submit_fault.SubmitFault.TheVariants.{Paused, NotHosted, Command, Split, Duplicate, LogFull, Memory}
use Rattle.node_core.specs.declared.submit_refusal.SubmitRefusal.{SubmitRefusal}
use Rattle.sync_shared.specs.Clients.{TicketValue}

-- A fault of the code as one of the world model. NotHosted, Command and Split say that the submission wants no request: there they are Unwanted. Want of
-- memory is no fault there, so it is None.
abbrev pub fault_of : SubmitFault → Option (r.SubmitFault SubmitFault)
fault_of Paused = Some r.Paused
fault_of (NotHosted party) = Some (r.Unwanted (NotHosted party))
fault_of (Command fault) = Some (r.Unwanted (Command fault))
fault_of (Split fault) = Some (r.Unwanted (Split fault))
fault_of (Duplicate place) = Some (r.Duplicate place)
fault_of (LogFull reserved need) = Some (r.LogFull reserved need)
fault_of Memory = None

-- The refusal with this fault, in the world model, of a participant that had read `read_to` entries; None where there is no fault to tell, that is for
-- want of memory.
abbrev pub refused_at : (read_to : ℕ) → Option (r.SubmitFault SubmitFault) → Option (r.SubmitResult SubmitFault)
refused_at read_to None = None
refused_at read_to (Some fault) = Some (r.Refused fault read_to)

-- What a call of `submit` answered, as a result of the world model: a ticket is Sent, and None is want of memory.
abbrev pub answer_of : Result TicketValue SubmitRefusal → Option (r.SubmitResult SubmitFault)
answer_of (Ok ticket) = Some (r.Sent ticket.place ticket.read_to)
answer_of (Err refusal) = refused_at refusal.read_to (fault_of refusal.fault)

-- whether a call of `submit` gave a ticket
abbrev pub has_ticket : Result TicketValue SubmitRefusal → Bool
has_ticket (Ok ticket) = true
has_ticket (Err refusal) = false

-- What a client is told where the log refuses its request. Unframed and TooLate never come, since what a participant prepares is framed and no request
-- comes too late.
abbrev pub told_of : AppendFault → SubmitFault
told_of (append.Already place) = Duplicate place
told_of append.Unframed = Memory
told_of (append.LogFull reserved need) = LogFull reserved need
told_of (append.TooLate decision time) = Memory
told_of append.Memory = Memory

-- The entries that a client has seen once the log has refused its request: the whole log where this has the request already or no room for it, and else
-- `seen`, those that it had seen before.
abbrev pub seen_after : AppendFault → (seen log : List Entry) → List Entry
seen_after (append.Already place) seen log = log
seen_after append.Unframed seen log = seen
seen_after (append.LogFull reserved need) seen log = log
seen_after (append.TooLate decision time) seen log = seen
seen_after append.Memory seen log = seen
