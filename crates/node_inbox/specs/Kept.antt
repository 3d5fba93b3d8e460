-- What the items of an inbox keep beside what came.
use Rattle.std.specs.Prelude.{◌≡◌, ◌≤◌, ℕ, suc, true, length, All, List, Option, Some, None, is_some, map, slice_get, take}
use Rattle.ledger_terms.specs.declared.topology.Topology.{Topology}
use Rattle.ledger_model.specs.Terms.{ParticipantId}
use Rattle.canton_model.specs.Inbox.{Item, is_locked_in_inbox, notice_at}
use Rattle.canton_model.specs.Reading.{is_recipient, paths_confirmed, paths_seen}
use Rattle.canton_model.specs.declared.request.Request.{Request}
use Rattle.lang_eval.specs.Found.{Packages}
use Rattle.sealed_form.specs.SealedForm.{envelope_to}
use Rattle.framed_form.specs.FramedForm.{offered, root_of}
use Rattle.framed_form.specs.FramedReading.{framed_reading}
use Rattle.inbox_registry.specs.Changes.{StandsBelow}
use Rattle.inbox_registry.specs.Order.{IsInOrder}
use Rattle.inbox_registry.specs.Registry.{Follows, Registered}
use Rattle.pruned_inbox.specs.Start.{Start, status_kept}
use Rattle.confirm_reply.specs.Facts.{IsFactOf}
use Rattle.confirm_reply.specs.declared.id_facts.IdFacts.{IdFacts}
use Rattle.node_inbox.specs.declared.kept_item.KeptItem.{KeptItem}
use Rattle.node_inbox.specs.declared.kept_item.KeptRequest.{KeptRequest}
use Rattle.node_inbox.specs.declared.kept_item.KeptContent.{KeptContent}
use Rattle.node_inbox.specs.declared.kept_item.KeptContent.TheVariants.{Received, Told, Nothing}
use Rattle.node_inbox.specs.Items.{model_items}
use Rattle.node_inbox.specs.Offers.{as_offered, opened_changes, opened_ids}

-- There was a framed request of which participant `me` is a recipient, and this is what is kept of it: the request's sender and command, the hash of
-- the mediator's tree, the paths of the views that the participant sees and of those that it confirms, its envelope, and what that offers it.
pub record Came (topology : Topology) (packages : Packages) (me : ParticipantId) (kept : KeptRequest) : Type 0 where
  pub request : Request
  pub is_framed : (framed_reading topology packages).is_framed request ≡ true
  pub is_to : is_recipient (framed_reading topology packages) me request ≡ true
  pub sender_is : kept.sender ≡ request.sender
  pub command_is : kept.command ≡ request.command
  pub root_is : kept.root ≡ root_of request
  pub seen_is : kept.seen ≡ paths_seen (framed_reading topology packages) me request
  pub confirmed_is : kept.confirmed ≡ paths_confirmed (framed_reading topology packages) me request
  pub envelope_is : kept.envelope ≡ envelope_to me request.envelopes
  pub offer_is : as_offered kept.offer ≡ offered topology me request

-- What an item keeps of the request at place k, the last of these items: what came (`Came`), as changes those among the authentic opened actions, and
-- on the contract of each opened action a fact, which says what the start and the items say of the contract at that place.
pub record IsKept (topology : Topology) (packages : Packages) (me : ParticipantId) (start : Start) (items : List Item) (k : ℕ)
    (kept : KeptRequest) : Type 0 where
  pub came : Came topology packages me kept
  pub changes : (kept.changes).items ≡ opened_changes kept.offer
  pub facts : All (IsFactOf (status_kept (framed_reading topology packages) start items k)
      (is_locked_in_inbox (framed_reading topology packages) topology.params items k)) kept.facts
  pub all_ids : map (λ (fact : IdFacts). fact.id) kept.facts ≡ opened_ids kept.offer

-- What an item keeps at place k, the last of these items: of a request `IsKept` holds, and a verdict is on a request that was received before. Where
-- the entry brought nothing this always holds.
abbrev pub IsKeptContent : Topology → Packages → ParticipantId → Start → List Item → ℕ → KeptContent → Type 0
IsKeptContent topology packages me start items k (Received kept) = IsKept topology packages me start items k kept
IsKeptContent topology packages me start items k (Told verdict) = is_some (notice_at (take k items) verdict.request) ≡ true
IsKeptContent topology packages me start items k Nothing = Unit {0}

-- Of what each item keeps `IsKeptContent` holds, over the items up to it and with it. `start` is what the inbox left at its base.
abbrev pub AreKept : Topology → Packages → ParticipantId → Start → List KeptItem → Type 0
AreKept topology packages me start items =
    (k : ℕ) (item : KeptItem) → slice_get items k ≡ Some item → IsKeptContent topology packages me start (take (suc k) (model_items items)) k item.content

-- The kept items are an inbox in order, the registry follows them, and of what each of them keeps `IsKeptContent` holds. Every inbox is so.
pub record IsInbox (topology : Topology) (packages : Packages) (me : ParticipantId) (kept : List KeptItem) (stands : Registered) : Type 0 where
  pub follows : Follows (framed_reading topology packages) topology.params stands.start (model_items kept) stands
  pub order : IsInOrder (model_items kept)
  pub each : AreKept topology packages me stands.start kept

-- The request that an item keeps, and None where the item is a verdict or brings nothing.
abbrev pub request_in : KeptContent → Option KeptRequest
request_in (Received kept) = Some kept
request_in (Told verdict) = None
request_in Nothing = None

-- The request that an item keeps, and None where there is no item, or it is a verdict or brings nothing.
abbrev pub request_in_item : Option KeptItem → Option KeptRequest
request_in_item None = None
request_in_item (Some item) = request_in item.content

-- The request that is kept at a place, and None where none was received there.
abbrev pub kept_at : List KeptItem → ℕ → Option KeptRequest
kept_at items k = request_in_item (slice_get items k)

-- The inbox of these items begins at the base with this start: the base isn't behind its end, the start's contracts were created below the base in
-- order, and the inbox has no request below it.
pub record BeginsAt (base : ℕ) (start : Start) (items : List Item) : Type 0 where
  pub within : base ≤ length items
  pub stands : StandsBelow base start items

-- There is a base at which the inbox of these items begins from this start.
abbrev pub BeginsIn : Start → List Item → Type 0
BeginsIn start items = (base : ℕ) × BeginsAt base start items
