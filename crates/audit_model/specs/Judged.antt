-- How a log is judged.
use Rattle.std.specs.Prelude.{◌≡◌, ℕ, zero, suc, ◌+◌, ◌<◌, Bool, false, ◌&&◌, if◌then◌else◌, List, Option, Some, None, length, take, slice_get, is_some}
use Rattle.canton_model.specs.Log.{request_at, verdict_of}
use Rattle.world_model.specs.Messages.{Entry, Verdict}
use Rattle.canton_model.specs.Timeline.{is_approval, is_approved_in, timeline_of}
use Rattle.canton_model.specs.Genuine.{Genuine}
use Rattle.audit_model.specs.Standard.{Standard}
use Rattle.audit_model.specs.Rules.{is_wrong_trigger}
use Rattle.audit_model.specs.Cases.{ShowsFirst, ShowsNone}
use Rattle.audit_model.specs.declared.why.Why.{Why}

-- The log is proper: it is genuine, and each request in it with the command of a rule of its sender is what that rule may cause.
pub record IsProper (s : Standard) (log : List Entry) : Type 0 where
  pub genuine : Genuine s.reading s.params log
  pub caused : (k : ℕ) (entry : Entry) → slice_get log k ≡ Some entry → is_wrong_trigger s (take k log) entry.message ≡ false

-- no entry of the log shows a case; by a law that is so just where the log is proper
abbrev pub IsClear : Standard → List Entry → Type 0
IsClear s log = (k : ℕ) (entry : Entry) → slice_get log k ≡ Some entry → ShowsNone s (take k log) entry

-- The log isn't proper: the entry at this place is the first that shows a case, and this case is the first that it shows.
pub record FailsAt (s : Standard) (log : List Entry) (place : ℕ) (why : Why) : Type 0 where
  pub entry : Entry
  pub there : slice_get log place ≡ Some entry
  pub shows : ShowsFirst s (take place log) entry why
  pub before : (k : ℕ) (earlier : Entry) → k < place → slice_get log k ≡ Some earlier → ShowsNone s (take k log) earlier

-- whether a request stands at place k of the log, and the first verdict on it is Approved
abbrev pub is_approved : List Entry → ℕ → Bool
is_approved log k = is_some (request_at log k) && is_approved_in k (timeline_of log)

-- how many of the requests below a place are approved
abbrev pub approved_below : List Entry → ℕ → ℕ
approved_below log zero = 0
approved_below log (suc k) = (if is_approved log k then 1 else 0) + approved_below log k

-- how many requests of the log are approved
abbrev pub approved_in : List Entry → ℕ
approved_in log = approved_below log (length log)

-- whether the verdict approves; false where there is none
abbrev pub is_approving_verdict : Option Verdict → Bool
is_approving_verdict None = false
is_approving_verdict (Some verdict) = is_approval (Some verdict.decision)

-- whether the entry brings a verdict that approves; a judgement counts approved requests by it
abbrev pub is_approving : Entry → Bool
is_approving entry = is_approving_verdict (verdict_of entry.message)
