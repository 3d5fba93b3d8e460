-- What an entry is to a participant, from its own inbox alone.
use Rattle.std.specs.Prelude.{List, is_some, if◌then◌else◌}
use Rattle.canton_model.specs.declared.request.Request.{Request}
use Rattle.canton_model.specs.declared.verdict.Verdict.{Verdict}
use Rattle.canton_model.specs.declared.message.Message.{Message}
use Rattle.canton_model.specs.declared.message.Message.TheVariants.{Request as RequestMessage, Response as ResponseMessage, Verdict as VerdictMessage, Tick}
use Rattle.canton_model.specs.declared.entry.Entry.{Entry}
use Rattle.ledger_model.specs.Terms.{ParticipantId}
use Rattle.canton_model.specs.Reading.{Reading}
use Rattle.canton_model.specs.Inbox.{Content, Told, Nothing, Item, notice_at, received}

-- What a verdict is to a participant with this inbox: it is told where its request was received, and else the entry brings nothing.
abbrev pub told_if_received : List Item → Verdict → Content
told_if_received items verdict = if is_some (notice_at items verdict.request) then Told verdict else Nothing

-- What a message is to a participant with this inbox, where `received` says what a request is to it. A response and a Tick bring it nothing.
abbrev pub content_from : (received : Request → Content) → List Item → Message → Content
content_from received items (RequestMessage request) = received request
content_from received items (VerdictMessage verdict) = told_if_received items verdict
content_from received items (ResponseMessage response) = Nothing
content_from received items Tick = Nothing

-- The item that the next entry of the log is to participant p, by the items that p has already.
abbrev pub item_from : Reading → ParticipantId → List Item → Entry → Item
item_from reading p items entry = record { time = entry.time; content = content_from (received reading p) items entry.message }
