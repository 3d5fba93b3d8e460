-- Which messages a log takes, and when, by its capacity, its times and a test of framed requests. It is what the world model says of a
-- machine, said without one.
use Rattle.std.specs.Prelude.{◌≡◌, ℕ, ◌+◌, Bool, List, Option, Some, None, length, nat_lt, max, if◌then◌else◌}
use Rattle.canton_model.specs.Log.{Params}
use Rattle.canton_model.specs.Timeline.{or_else}
use Rattle.world_model.specs.Messages.{Entry, Message, Request, RequestMessage, ResponseMessage, VerdictMessage, Tick}
use Rattle.world_model.specs.Sequencing as s
use Rattle.seq_log.specs.Keys.{is_key}
use Rattle.seq_log.specs.declared.key.Key.{Key}

-- The map (second argument) leads from each key to the first place of the list at which the message of that key stands, and to None where none does.
abbrev pub Leads : List Entry → (Key → Option ℕ) → Type 0
Leads list places = (key : Key) → places key ≡ s.first_from (is_key key) 0 list

-- The time of the next entry, where the last one's time is `last`: a microsecond later, and for a Tick `now` where that is later still.
abbrev pub next_time : (now : ℕ) → Message → (last : ℕ) → ℕ
next_time now Tick last = max now (last + 1)
next_time now (RequestMessage request) last = last + 1
next_time now (ResponseMessage response) last = last + 1
next_time now (VerdictMessage verdict) last = last + 1

-- the fault LogFull, where a request that needs `need` places goes beyond the capacity, of which `reserved` are taken; None where it doesn't
abbrev pub if_full : (capacity reserved need : ℕ) → Option s.AppendFault
if_full capacity reserved need = if nat_lt capacity (reserved + need) then Some (s.LogFull reserved need) else None

-- Why a request isn't appended that doesn't stand in the log yet: it isn't framed, or there isn't room for the places that it needs. None where it is
-- appended.
abbrev pub request_fault : (framed : Bool) (capacity reserved need : ℕ) → Option s.AppendFault
request_fault framed capacity reserved need = if framed then if_full capacity reserved need else Some s.Unframed

-- Why a message isn't appended that doesn't stand in the log yet, by a test of framed requests, the capacity, the times and the log. None where it is
-- appended, as a Tick always is.
abbrev pub other_fault : (framed : Request → Bool) (capacity : ℕ) → Params → List Entry → Message → Option s.AppendFault
other_fault framed capacity params list (RequestMessage request) =
    request_fault (framed request) capacity (s.reserved list) (2 + length request.confirming)
other_fault framed capacity params list (ResponseMessage response) = s.if_late params list response.request
other_fault framed capacity params list (VerdictMessage verdict) = s.if_late params list verdict.request
other_fault framed capacity params list Tick = None

-- The first cause why the message isn't appended to the log, None where it is. The message may stand there already, and else `other_fault` says it.
abbrev pub fault_in : (framed : Request → Bool) (capacity : ℕ) → Params → List Entry → Message → Option s.AppendFault
fault_in framed capacity params list message =
    or_else (s.if_already (s.first_from (s.is_same message) 0 list)) (other_fault framed capacity params list message)
