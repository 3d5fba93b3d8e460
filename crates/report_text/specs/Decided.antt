-- What decides the requests of a log.
use Rattle.std.specs.Prelude.{◌≡◌, ℕ, List, Option, nat_lt, option_copied}
use Rattle.std.specs.Borrow.{Bor}
use Rattle.canton_model.specs.declared.decision.Decision.{Decision}
use Rattle.canton_model.specs.declared.entry.Entry.{Entry}
use Rattle.canton_model.specs.Timeline.{verdict_on, is_past, timeline_of}

-- `verdicts` gives for a place the first verdict of the log on the request there, and `latest` is the greatest time of its entries, or 0 of an empty log.
-- That is what `Outcomes` keeps of a log.
pub record Decides (verdicts : ℕ → Option (Bor Decision)) (latest : ℕ) (log : List Entry) : Type 0 where
  -- `verdicts` tells of each place what the log has as the first verdict on the request there
  pub verdict : (request : ℕ) → option_copied (verdicts request) ≡ verdict_on request (timeline_of log)
  -- a time is less than `latest` exactly where some entry of the log is later than it
  pub past : (time : ℕ) → nat_lt time latest ≡ is_past time (timeline_of log)
