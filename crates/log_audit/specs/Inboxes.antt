-- When inboxes are those of the participants over a log.
use Rattle.std.specs.Prelude.{◌≡◌, ◌<◌, ◌^◌, ◌++◌, ◌∷◌, ℕ, List, [], Some, length, slice_get}
use Rattle.ledger_terms.specs.declared.topology.Topology.{Topology}
use Rattle.lang_eval.specs.Found.{Packages}
use Rattle.canton_model.specs.Genuine.{Genuine}
use Rattle.canton_model.specs.Inbox.{inbox}
use Rattle.world_model.specs.Messages.{Entry}
use Rattle.pruned_inbox.specs.Start.{no_start}
use Rattle.node_inbox.specs.InboxState.{InboxState}
use Rattle.framed_form.specs.FramedReading.{framed_reading}

-- The inbox of participant p over a log, of which it has forgotten nothing.
abbrev pub inbox_of : Topology → Packages → List Entry → ℕ → InboxState
inbox_of topology packages log p =
    record {
      topology = topology;
      packages = packages;
      me = p;
      base = 0;
      base_time = 0;
      start = no_start;
      items = inbox (framed_reading topology packages) p log;
    }

-- There is an inbox for each host, in order of the topology, and each has read this whole log.
pub record HaveRead (topology : Topology) (packages : Packages) (inboxes : List InboxState) (log : List Entry) : Type 0 where
  pub hosts : length inboxes ≡ length topology.hosts
  pub each : (p : ℕ) → p < length inboxes → slice_get inboxes p ≡ Some (inbox_of topology packages log p)

-- The inboxes may read the entry: they have read a log of fewer than 2^63 entries that stays genuine with this entry behind it.
pub record MayRead (inboxes : List InboxState) (entry : Entry) : Type 0 where
  pub topology : Topology
  pub packages : Packages
  pub log : List Entry
  pub knows : HaveRead topology packages inboxes log
  pub genuine : Genuine (framed_reading topology packages) topology.params (log ++ entry ∷ [])
  pub few : length log < 2 ^ 63
