-- What the approved requests of an inbox open.
use Rattle.std.specs.Prelude.{◌≡◌, ℕ, Bool, true, List, [], Option, Some, None, if◌then◌else◌}
use Rattle.ledger_model.specs.Forest.{Forest, NoRoots}
use Rattle.ledger_terms.specs.declared.act.Act.{Act}
use Rattle.ledger_model.specs.declared.commit.Commit.{Commit}
use Rattle.canton_model.specs.Inbox.{Item, moments, opened_at, part_if}
use Rattle.canton_model.specs.Log.{Params}
use Rattle.canton_model.specs.Timeline.{is_approved_in}
use Rattle.request_track.specs.Pairs.{outcome_at}
pub use Rattle.inbox_registry.specs.Requests.{is_approved}
use Rattle.inbox_registry.specs.Requests.{outcome_received}
use Rattle.inbox_registry.specs.Registry.{Registered}
use Rattle.node_inbox.specs.Kept.{kept_at}
use Rattle.node_inbox.specs.Offers.{opened_changes, roots_offered}
use Rattle.node_inbox.specs.declared.kept_item.KeptContent.{KeptContent}
use Rattle.node_inbox.specs.declared.kept_item.KeptContent.TheVariants.{Received, Told, Nothing}
use Rattle.node_inbox.specs.declared.kept_item.KeptItem.{KeptItem}
use Rattle.node_inbox.specs.declared.kept_item.KeptRequest.{KeptRequest}

-- At each place the tracker of a registry has the outcome that the inbox gives the request there, and None where no request was received there.
abbrev pub TellsOutcomes : Params → List Item → Registered → Type 0
TellsOutcomes params items stands = (k : ℕ) → outcome_at (stands.tracking).pairs k ≡ outcome_received params items k

-- What is kept as the changes of each request among these items are the Creates and consuming Exercises among the authentic actions that its envelope
-- opens, in pre-order.
abbrev pub KeepChanges : List KeptItem → Type 0
KeepChanges items = (k : ℕ) (request : KeptRequest) → kept_at items k ≡ Some request → (request.changes).items ≡ opened_changes request.offer

-- The trees of actions that the envelope of a kept request opens. No tree where there is no request (None), or its envelope isn't complete.
abbrev pub roots_kept : Option KeptRequest → Forest Act
roots_kept None = NoRoots
roots_kept (Some kept) = roots_offered kept.offer

-- The trees of actions that are opened of the request at place k of an inbox, where it is approved by these items. Else there is no tree.
abbrev pub approved_at : List Item → ℕ → Forest Act
approved_at items k = if is_approved_in k (moments items) then opened_at items k else NoRoots

-- What `into_applied` makes of the item at a place: the commit of what is opened of the request there, as a list of one, where the request is approved
-- (`approved`) and something is opened of it. Else no commit.
abbrev pub part_of : Bool → ℕ → KeptContent → List Commit
part_of approved place (Received kept) = part_if true place (if approved then roots_offered kept.offer else NoRoots)
part_of approved place (Told verdict) = []
part_of approved place Nothing = []
