-- What stands in the log once.
use Rattle.std.specs.Prelude.{Bool, false, ◌&&◌, Option, Some, None, nat_eq}
use Rattle.std.specs.Str.{bytes_eq}
use Rattle.world_model.specs.Messages.{Message, RequestMessage, ResponseMessage, VerdictMessage, Tick}
use Rattle.canton_model.specs.Genuine.{is_request_of}
use Rattle.canton_model.specs.Mediation.{is_response_of}
use Rattle.world_model.specs.Sequencing.{is_verdict_on}
use Rattle.seq_log.specs.declared.key.Key.{Key}
use Rattle.seq_log.specs.declared.key.Key.TheVariants.{Request, Response, Verdict}

-- The key of a message, which no other message of a log has: sender and command of a request, sender and request of a response, the request of a
-- verdict. A Tick has none.
abbrev pub key_of : Message → Option Key
key_of (RequestMessage request) = Some (Request request.sender request.command)
key_of (ResponseMessage response) = Some (Response response.from response.request)
key_of (VerdictMessage verdict) = Some (Verdict verdict.request)
key_of Tick = None

-- whether the message has this key
abbrev pub is_key : Key → Message → Bool
is_key (Request sender command) = is_request_of sender command
is_key (Response sender request) = is_response_of sender request
is_key (Verdict request) = is_verdict_on request

-- whether two keys are the same
abbrev pub key_eq : Key → Key → Bool
key_eq (Request p c) (Request q d) = nat_eq p q && bytes_eq c d
key_eq (Request p c) (Response q j) = false
key_eq (Request p c) (Verdict j) = false
key_eq (Response p k) (Request q d) = false
key_eq (Response p k) (Response q j) = nat_eq p q && nat_eq k j
key_eq (Response p k) (Verdict j) = false
key_eq (Verdict k) (Request q d) = false
key_eq (Verdict k) (Response q j) = false
key_eq (Verdict k) (Verdict j) = nat_eq k j
