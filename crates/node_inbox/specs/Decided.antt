-- Outcomes of requests that are decided.
use Rattle.std.specs.Prelude.{Bool, true, false, Option, Some, None}
use Rattle.canton_model.specs.declared.outcome.Outcome.{Outcome as Kind}
use Rattle.canton_model.specs.declared.outcome.Outcome.TheVariants as kind

-- Whether an outcome is that of a decided request, as `Inbox::is_decided` asks. It is false of None, where no request was received, and of an undecided
-- request.
abbrev pub is_closed : Option Kind → Bool
is_closed None = false
is_closed (Some kind.Undecided) = false
is_closed (Some kind.Approved) = true
is_closed (Some kind.Rejected) = true
is_closed (Some kind.TimedOut) = true
is_closed (Some kind.Expired) = true

-- Whether an outcome is that of a received request on which no verdict came: it is undecided, or it expired. Then `Inbox::decision` needn't look for
-- one. Of None, where no request was received, it is false.
abbrev pub is_without_verdict : Option Kind → Bool
is_without_verdict None = false
is_without_verdict (Some kind.Undecided) = true
is_without_verdict (Some kind.Approved) = false
is_without_verdict (Some kind.Rejected) = false
is_without_verdict (Some kind.TimedOut) = false
is_without_verdict (Some kind.Expired) = true
