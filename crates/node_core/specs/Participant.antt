-- What contracts see of a participant.
use Rattle.std.specs.Prelude.{◌≡◌, ◌+◌, ◌<◌, ◌≤◌, ℕ, suc, zero, drop, take, Bool, true, false, ◌&&◌, List, [], ◌∷◌, ◌++◌, Option, is_some, length}
use Rattle.std.specs.Prelude.{if◌then◌else◌}
use Rattle.ledger_terms.specs.declared.topology.Topology.{Topology}
use Rattle.ledger_model.specs.Terms.{ParticipantId}
use Rattle.canton_model.specs.Log.{Params}
use Rattle.canton_model.specs.Reading.{Reading}
use Rattle.canton_model.specs.Genuine.{Genuine}
use Rattle.canton_model.specs.Inbox.{Item, inbox, is_decided_in, last_time, notice_at}
use Rattle.world_model.specs.Machine.{Machine}
use Rattle.world_model.specs.Lawful.{NodeHas}
use Rattle.world_model.specs.Node.{NodeState, new_node, next_claim, outbox_head, owes_at, is_decided_now, with_items}
use Rattle.world_model.specs.Messages.{Entry, Response, ViewVerdict}
use Rattle.lang_eval.specs.Found.{Packages}
use Rattle.framed_form.specs.FramedReading.{framed_reading}
use Rattle.pruned_inbox.specs.Base.{IsBase}
use Rattle.pruned_inbox.specs.Forgotten.{silent_front}
use Rattle.pruned_inbox.specs.Orderly.{IsOrderly}
use Rattle.pruned_inbox.specs.Start.{IsStart, Start, no_start}
use Rattle.node_inbox.specs.InboxState.{owed_kept}

-- What contracts see of a participant: the topology with its times, the packages, which participant it is, its base with the time of the entry before
-- that, in microseconds, what its inbox left there, and its state, whose items are silent below the base.
pub record Participant : Type 0 where
  pub topology : Topology
  pub packages : Packages
  pub me : ParticipantId
  pub base : ℕ
  pub base_time : ℕ
  pub start : Start
  pub state : NodeState

-- How requests are read with the participant's topology and packages.
abbrev pub reading_of : Participant → Reading
reading_of p = framed_reading p.topology p.packages

-- The participant's timeouts and skew, which are those of the topology.
abbrev pub params_of : Participant → Params
params_of p = p.topology.params

-- The participant's items: its inbox, with silent ones below its base. There are as many as its cursor says.
abbrev pub items_of : Participant → List Item
items_of p = p.state.items

-- Participant `me` before it has read anything.
abbrev pub begun : Topology → Packages → ParticipantId → Participant
begun topology packages me =
    record { topology = topology; packages = packages; me = me; base = 0; base_time = 0; start = no_start; state = new_node }

-- The same participant with another state.
abbrev pub with_state : Participant → NodeState → Participant
with_state p state = record p { state = state }

-- The participant has forgotten nothing: its base is 0, and nothing was left there.
abbrev pub HasForgottenNothing : Participant → Type 0
HasForgottenNothing p = (p.base ≡ 0) × (p.base_time ≡ 0) × (p.start ≡ no_start)

-- The participant keeps this whole inbox, pruned to its base: its items are those of the inbox from the base on, behind a silent one for each
-- that stands below it, and its start is what the inbox leaves there.
pub record IsPrunedTo (whole : List Item) (p : Participant) : Type 0 where
  pub orderly : IsOrderly (params_of p) whole
  pub is_base : IsBase (params_of p) whole p.base
  pub starts : IsStart (reading_of p) whole p.base p.start
  pub time : p.base_time ≡ last_time (take p.base whole)
  pub kept : items_of p ≡ silent_front p.base p.base_time ++ drop p.base whole

-- The same participant, pruned to the base b, where its inbox leaves the start `next`: of the items below b only silent ones stay.
abbrev pub pruned_at : ℕ → Start → Participant → Participant
pruned_at b next p =
    let last = last_time (take b (items_of p)) in
    record {
      topology = p.topology;
      packages = p.packages;
      me = p.me;
      base = b;
      base_time = last;
      start = next;
      state = with_items p.state (silent_front b last ++ drop b (items_of p));
    }

-- The participant's state, had it kept all items of this whole inbox.
abbrev pub whole_state : Participant → List Item → NodeState
whole_state p whole = with_items p.state whole

-- The participant has read exactly these entries: with its whole inbox its state is one that the machine's participant may have, and it is
-- pruned to its base.
pub record HasRead (m : Machine) (read : List Entry) (p : Participant) : Type 0 where
  pub node : NodeHas m p.me read (whole_state p (inbox (reading_of p) p.me read))
  pub pruned : IsPrunedTo (inbox (reading_of p) p.me read) p

-- The participant may read the last entry of this list: the list is a genuine log, of which it has read all but that entry, and it is pruned to its base.
pub record CanRead (p : Participant) (list : List Entry) : Type 0 where
  pub cursor : length list ≡ length (items_of p) + 1
  pub genuine : Genuine (reading_of p) (params_of p) list
  pub before : IsPrunedTo (inbox (reading_of p) p.me (take (length (items_of p)) list)) p

-- Whether the participant owes verdicts to the request at place k, decided or not.
abbrev pub owes_there : Participant → ℕ → Bool
owes_there p k = owes_at (reading_of p) p.me (items_of p) k

-- The verdicts that it owes to the request at place k, decided or not, by what it knew when it had read that entry. From the base on they are those of
-- its whole inbox. An empty list where no request was received there or it confirms no view of it, and at every place below its base, where its items
-- are silent.
abbrev pub owed_there : Participant → ℕ → List ViewVerdict
owed_there p k = owed_kept (reading_of p) (params_of p) p.me p.start (items_of p) k

-- The response that it owes to the request at place k. It has no verdicts where none are owed there.
abbrev pub response_there : Participant → ℕ → Response
response_there p k = record { from = p.me; request = k; verdicts = owed_there p k }

-- Whether the request at place k is decided at its cursor.
abbrev pub is_decided_there : Participant → ℕ → Bool
is_decided_there p k = is_decided_now (params_of p) (items_of p) k

-- The place `at` is the least one up to the cursor at which the request at place k is decided.
pub record IsDecidedSince (p : Participant) (k at : ℕ) : Type 0 where
  pub up_to : at ≤ length (items_of p)
  pub decided : is_decided_in (params_of p) (items_of p) k at ≡ true
  pub undecided : (i : ℕ) → i < at → is_decided_in (params_of p) (items_of p) k i ≡ false

-- The place that the participant claims next: the first with a request that it owes verdicts to, which is undecided and not claimed. None
-- where there is none.
abbrev pub next_place : Participant → Option ℕ
next_place p = next_claim (reading_of p) (params_of p) p.me p.state

-- The response that the participant sends next: that to the least place among those in its outbox whose request is undecided. None where there is none.
abbrev pub next_response : Participant → Option Response
next_response p = outbox_head (params_of p) p.state

-- Whether a request was received at place k and is decided at the end of these items.
abbrev pub is_received_decided : Params → List Item → ℕ → Bool
is_received_decided params items k = is_some (notice_at items k) && is_decided_in params items k (length items)

-- Those of the `count` places from `start` on that pass the test, ascending.
abbrev pub places_where : (ℕ → Bool) → (start count : ℕ) → List ℕ
places_where test start zero = []
places_where test start (suc count) = if test start then start ∷ places_where test (suc start) count else places_where test (suc start) count
