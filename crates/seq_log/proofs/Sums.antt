-- What one more entry adds.
use Rattle.std.proofs.Common.{◌≡◌, ℕ, refl, ◌+◌, List, [], ◌∷◌, ◌++◌, arith}
use Rattle.world_model.specs.Messages.{Entry, Message, RequestMessage, ResponseMessage, VerdictMessage, Tick}
use Rattle.world_model.specs.Sequencing.{last_time, last_time_from, reserved, need_of, time_after}
use Rattle.seq_log.specs.Faults.{next_time}

last_from : (before : ℕ) (log : List Entry) (e : Entry) → last_time_from before (log ++ e ∷ []) ≡ e.time
last_from before [] e = refl
last_from before (x ∷ log) e = last_from x.time log e

pub last_more : (log : List Entry) (e : Entry) → last_time (log ++ e ∷ []) ≡ e.time
last_more log e = last_from 0 log e

pub spent_more : (log : List Entry) (e : Entry) → reserved (log ++ e ∷ []) ≡ reserved log + need_of e.message
spent_more [] e = omega arith
spent_more (x ∷ log) e = let r = spent_more log e in omega arith

pub time_is : (now : ℕ) (message : Message) (log : List Entry) → time_after now message log ≡ next_time now message (last_time log)
time_is now (RequestMessage q) log = refl
time_is now (ResponseMessage r) log = refl
time_is now (VerdictMessage v) log = refl
time_is now Tick log = refl
