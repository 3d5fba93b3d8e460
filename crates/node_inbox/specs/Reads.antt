-- One item more.
use Rattle.std.specs.Prelude.{◌≡◌, ℕ, ◌++◌, ◌∷◌, [], List, map}
use Rattle.ledger_terms.specs.declared.topology.Topology.{Topology}
use Rattle.ledger_model.specs.Terms.{ParticipantId}
use Rattle.canton_model.specs.Inbox.{Content, Item}
use Rattle.lang_eval.specs.Found.{Packages}
use Rattle.canton_model.specs.declared.outcome.Outcome.{Outcome as Kind}
use Rattle.contract_store.specs.Holds.{released}
use Rattle.request_track.specs.Pairs.{settled}
use Rattle.pruned_inbox.specs.Start.{Start}
use Rattle.inbox_registry.specs.ChangeLists.{write_changes}
use Rattle.inbox_registry.specs.Registry.{Registered}
use Rattle.inbox_registry.specs.declared.change.Change.{Change}
use Rattle.node_inbox.specs.Acts.{fact_in}
use Rattle.node_inbox.specs.declared.kept_item.KeptRequest.{KeptRequest}
use Rattle.node_inbox.specs.declared.kept_item.KeptItem.{KeptItem}
use Rattle.node_inbox.specs.Items.{model_items}
use Rattle.node_inbox.specs.Kept.{IsInbox}

-- An item with this time, in microseconds, and this content.
abbrev pub item_with : (time : ℕ) → Content → Item
item_with time content = record { time = time; content = content }

-- The new kept items with the registry are an inbox. It has the given item behind the old ones, and the start that it had.
pub record HasRead (topology : Topology) (packages : Packages) (me : ParticipantId) (old new : List KeptItem) (start : Start) (stands : Registered)
    (item : Item) : Type 0 where
  pub inbox : IsInbox topology packages me new stands
  pub start_is : stands.start ≡ start
  pub items : model_items new ≡ model_items old ++ item ∷ []

-- The new kept items with the registry are an inbox. It has the items and the start that it had, since reading failed for want of memory.
pub record IsUnread (topology : Topology) (packages : Packages) (me : ParticipantId) (old new : List KeptItem) (start : Start) (stands : Registered)
    : Type 0 where
  pub inbox : IsInbox topology packages me new stands
  pub start_is : stands.start ≡ start
  pub items : new ≡ old

-- A kept request with its facts filled in by what the registry knows of its contracts.
abbrev pub kept_with : KeptRequest → Registered → KeptRequest
kept_with kept stands = record kept { facts = map (fact_in stands) kept.facts }

-- The registry after the request at a place got this outcome: these changes, which are those of the request where it is approved and else none, are
-- written into the store, the request holds nothing any more, the tracker has the outcome, and all else is as it was. That the changes are these is for
-- the caller to see to.
pub record IsSettled (old new : Registered) (place : ℕ) (outcome : Kind) (changes : List Change) : Type 0 where
  pub rows : (new.store).rows ≡ write_changes place changes (old.store).rows
  pub holds : (new.store).holds ≡ released place (old.store).holds
  pub pairs : (new.tracking).pairs ≡ settled place outcome (old.tracking).pairs
  pub cursor : (new.tracking).cursor ≡ (old.tracking).cursor
  pub start : new.start ≡ old.start
