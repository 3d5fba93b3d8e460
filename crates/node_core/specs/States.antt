-- What a participant keeps, as a state apart from it.
use Rattle.std.specs.Prelude.{◌≡◌, ◌+◌, ◌<◌, ◌≤◌, ◌^◌, ℕ, Bool, true, false, ◌&&◌, ◌++◌, List, [], Some, drop, filter, length, map, nat_le, not}
use Rattle.std.specs.Prelude.{slice_get, take}
use Rattle.std.specs.List.Sorted.{IsStrictlyIncreasing}
use Rattle.ledger_terms.specs.declared.topology.Topology.{Topology}
use Rattle.lang_eval.specs.Found.{Packages}
use Rattle.ledger_model.specs.Terms.{ParticipantId}
use Rattle.canton_model.specs.Genuine.{Genuine}
use Rattle.canton_model.specs.Inbox.{Item, inbox, last_time}
use Rattle.canton_model.specs.declared.response.Response.{Response}
use Rattle.framed_form.specs.FramedReading.{framed_reading}
use Rattle.world_model.specs.Messages.{Entry}
use Rattle.world_model.specs.Node.{NodeState, owes_at, waits_at}
use Rattle.world_model.specs.Places.{has_place}
use Rattle.pruned_inbox.specs.Forgotten.{silent_front}
use Rattle.pruned_inbox.specs.Start.{Start}
use Rattle.node_state.specs.declared.item.Item.{Item as StateItem}
use Rattle.node_state.specs.declared.node_state.NodeState.{NodeState as State}
use Rattle.node_inbox.specs.Beginnings.{IsBeginning}
use Rattle.node_inbox.specs.Raw.{AreCame, IsCame, item_by}
use Rattle.node_core.specs.Duties.{AreToDistinct}
use Rattle.node_core.specs.Participant.{IsPrunedTo, Participant, items_of, owes_there}

-- What the inbox left at its base, as a state has it.
abbrev pub start_in : State → Start
start_in state = record { active = state.active; gone = state.gone }

-- The items of the participant of a state, behind as many silent ones as stand below its base.
abbrev pub items_in : Topology → State → List Item
items_in topology state = silent_front state.base state.base_time ++ map (item_by topology) state.items

-- Those of the responses whose request stands at the base or behind it.
abbrev pub responses_from : ℕ → List Response → List Response
responses_from base outbox = filter (λ (response : Response). nat_le base response.request) outbox

-- A participant's state with other claimed places: how `from_state` takes up the places whose job is done.
abbrev pub with_claimed : NodeState → List ℕ → NodeState
with_claimed node claimed =
    record { items = node.items; is_paused = node.is_paused; claimed = claimed; unfinished = node.unfinished; outbox = node.outbox }

-- A participant's state with another outbox: how `from_state` takes up the responses that wait.
abbrev pub with_outbox : NodeState → List Response → NodeState
with_outbox node outbox =
    record { items = node.items; is_paused = node.is_paused; claimed = node.claimed; unfinished = node.unfinished; outbox = outbox }

-- A participant that begins at the base of a state, with the start that it has, and with `node` for all that it keeps from there on.
abbrev pub begun_with : Topology → Packages → State → NodeState → Participant
begun_with topology packages state node =
    record {
      topology = topology;
      packages = packages;
      me = state.me;
      base = state.base;
      base_time = state.base_time;
      start = start_in state;
      state = node;
    }

-- The participant that has nothing unfinished and of which `state` is the state, so that contracts can say of a state what they say of a participant.
abbrev pub owner_of : Topology → Packages → State → Participant
owner_of topology packages state =
    begun_with topology packages state
    (record {
      items = items_in topology state;
      is_paused = state.paused;
      claimed = state.done;
      unfinished = [];
      outbox = state.outbox;
    })

-- A participant that begins at the base of a state before it takes up any item, claim or response of it.
abbrev pub read_nothing : Topology → Packages → State → Participant
read_nothing topology packages state =
    begun_with topology packages state
    (record { items = silent_front state.base state.base_time; is_paused = state.paused; claimed = []; unfinished = []; outbox = [] })

-- The participant that begins again from a state. It has forgotten the responses to requests below its base, which are decided, and no
-- job is unfinished: what isn't done is claimed again.
abbrev pub begun_again : Topology → Packages → State → Participant
begun_again topology packages state =
    begun_with topology packages state
    (record {
      items = items_in topology state;
      is_paused = state.paused;
      claimed = state.done;
      unfinished = [];
      outbox = responses_from state.base state.outbox;
    })

-- Whether place k is at the base or behind it, and its job was finished and not put back since. It is false of each place below the base.
abbrev pub is_done_from : (base : ℕ) → NodeState → ℕ → Bool
is_done_from base node k = (nat_le base k && has_place node.claimed k) && not (has_place node.unfinished k)

-- The state of a participant: which one it is, whether it is paused, its base with the time of the entry before that, what its inbox left there, the
-- inbox from there on, each raw item of which may come behind those before it (`came`), its outbox, and by rising places the requests from there on
-- whose job is done. To these it owes verdicts, and from the base on responses wait to these alone, one to each.
pub record IsStateOf (p : Participant) (state : State) : Type 0 where
  pub me : state.me ≡ p.me
  pub base : state.base ≡ p.base
  pub base_time : state.base_time ≡ p.base_time
  pub paused : state.paused ≡ (p.state).is_paused
  pub start : start_in state ≡ p.start
  pub items : map (item_by p.topology) state.items ≡ drop p.base (items_of p)
  pub came : AreCame p.topology p.packages p.me p.base (items_of p) state.items
  pub outbox : state.outbox ≡ (p.state).outbox
  pub done : (k : ℕ) → has_place state.done k ≡ is_done_from p.base p.state k
  pub ascend : IsStrictlyIncreasing state.done
  pub owes_done : (k : ℕ) → has_place state.done k ≡ true → owes_there p k ≡ true
  pub waiting : (k : ℕ) → p.base ≤ k → waits_at state.outbox k ≡ true → has_place state.done k ≡ true
  pub once : AreToDistinct state.outbox

-- These items of a state may be put behind the items `before` one after another: with those there are fewer than 2^63, each is later than the one
-- before it, and each may come where it is put (`IsCame`).
pub record AreToCome (topology : Topology) (packages : Packages) (me : ParticipantId) (before : List Item) (items : List StateItem) : Type 0 where
  pub few : length before + length items < 2 ^ 63
  pub rises : (k : ℕ) (item : StateItem) → slice_get items k ≡ Some item → last_time (before ++ map (item_by topology) (take k items)) < item.time
  pub came : (k : ℕ) (item : StateItem) → slice_get items k ≡ Some item
      → IsCame topology packages me (before ++ map (item_by topology) (take k items)) item.what

-- A response to the request at place k may be put into the outbox: k is claimed and not unfinished, and no response waits to it yet.
pub record MayWait (node : NodeState) (k : ℕ) : Type 0 where
  pub claimed : has_place node.claimed k ≡ true
  pub finished : has_place node.unfinished k ≡ false
  pub first : waits_at node.outbox k ≡ false

-- A participant may begin again from a state: its inbox may begin at the base, the items may come behind one another there, and verdicts
-- are owed to the requests whose job is done. From the base on responses wait to these alone, and no two to one request.
pub record MayBegin (topology : Topology) (packages : Packages) (state : State) : Type 0 where
  pub begins : IsBeginning state.base state.base_time (start_in state)
  pub items : AreToCome topology packages state.me (silent_front state.base state.base_time) state.items
  pub done : (k : ℕ) → has_place state.done k ≡ true → owes_at (framed_reading topology packages) state.me (items_in topology state) k ≡ true
  pub ascend : IsStrictlyIncreasing state.done
  pub waiting : (k : ℕ) → state.base ≤ k → waits_at state.outbox k ≡ true → has_place state.done k ≡ true
  pub once : AreToDistinct state.outbox

-- A participant may begin again with this state, and prune it: its inbox is that of a genuine log from the base on, below which every request is
-- decided, verdicts are owed to the requests whose job is done, and from the base on responses wait to these alone, no two to one request. What the
-- responses say is left open.
pub record IsLawful (topology : Topology) (packages : Packages) (state : State) : Type 0 where
  pub log : List Entry
  pub few : length log < 2 ^ 63
  pub genuine : Genuine (framed_reading topology packages) topology.params log
  pub pruned : IsPrunedTo (inbox (framed_reading topology packages) state.me log) (owner_of topology packages state)
  pub came : AreCame topology packages state.me state.base (items_in topology state) state.items
  pub done : (k : ℕ) → has_place state.done k ≡ true → owes_at (framed_reading topology packages) state.me (items_in topology state) k ≡ true
  pub ascend : IsStrictlyIncreasing state.done
  pub waiting : (k : ℕ) → state.base ≤ k → waits_at state.outbox k ≡ true → has_place state.done k ≡ true
  pub once : AreToDistinct state.outbox
