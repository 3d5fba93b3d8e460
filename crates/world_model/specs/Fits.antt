-- What has to hold of a message for `append` to keep a log genuine.
use Rattle.std.specs.Prelude.{◌≡◌, suc, take, List, Some, Contains}
use Rattle.canton_model.specs.Log.{Params, request_at}
use Rattle.world_model.specs.Messages.{Entry, Message, RequestMessage, ResponseMessage, VerdictMessage, Tick, Request, Response, Verdict}
use Rattle.canton_model.specs.Reading.{Reading}
use Rattle.canton_model.specs.Inbox.{inbox}
use Rattle.canton_model.specs.Checks.{verdicts_owed}
use Rattle.canton_model.specs.Mediation.{scan}
use Rattle.world_model.specs.Machine.{Machine}

-- The response is owed over this log: it has the verdicts that its participant owes to a request of the log that asks it. It is what a sender has to
-- know of its response, whatever else stands in the log, and holds of every longer log too.
pub record IsOwed (reading : Reading) (params : Params) (log : List Entry) (response : Response) : Type 0 where
  pub request : Request
  -- the request stands at the place that the response names
  pub there : request_at log response.request ≡ Some request
  pub confirming : Contains request.confirming response.from
  pub owed : response.verdicts ≡ verdicts_owed reading params response.from (inbox reading response.from (take (suc response.request) log)) response.request

-- The verdict is the mediator's decision over this log, and so over every longer one; what the mediator has to know of its verdict.
abbrev pub IsDecision : Params → List Entry → Verdict → Type 0
IsDecision params log verdict = scan params log verdict.request ≡ Some verdict.decision

-- The message may be handed in behind this log, which then stays genuine: a response is owed, a verdict is the decision. Nothing is asked of a Tick,
-- nor of a request: one that isn't framed is refused.
abbrev pub MayStand : Machine → List Entry → Message → Type 0
MayStand m log (RequestMessage request) = Unit {0}
MayStand m log (ResponseMessage response) = IsOwed m.reading m.params log response
MayStand m log (VerdictMessage verdict) = IsDecision m.params log verdict
MayStand m log Tick = Unit {0}
