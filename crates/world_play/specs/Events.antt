-- Events in the words of the world model.
use Rattle.std.specs.Prelude.{◌+◌, ℕ, List, [], ◌∷◌, map}
use Rattle.ledger_terms.specs.declared.topology.Topology.{Topology}
use Rattle.lang_eval.specs.Found.{Packages}
use Rattle.world_model.specs.World as w
use Rattle.world_play.specs.declared.event.Event.{Event}
use Rattle.world_play.specs.declared.event.Event.TheVariants.{Advance, Submit, SubmitRaw, NodeRead, Validate, Reply, LoseReply, MediatorRead, GiveVerdict}
use Rattle.world_play.specs.declared.event.Event.TheVariants.{LoseVerdict, Pause}
use Rattle.world_play.specs.Submitting.{CanSubmit}

-- an event of the code as the event of the world model that it stands for
abbrev pub event_of : Event → w.Event
event_of (Advance by) = w.Advance by
event_of (Submit what) = w.Submit what
event_of (SubmitRaw request) = w.SubmitRaw request
event_of (NodeRead node) = w.NodeRead node
event_of (Validate node) = w.Validate node
event_of (Reply node) = w.Reply node
event_of (LoseReply node) = w.LoseReply node
event_of MediatorRead = w.MediatorRead
event_of GiveVerdict = w.GiveVerdict
event_of LoseVerdict = w.LoseVerdict
event_of (Pause node paused) = w.Pause node paused

-- the events of the code, in order, as those of the world model for which they stand
abbrev pub events_of : List Event → List w.Event
events_of events = map event_of events

-- by how many microseconds the event moves time on: 0 but for Advance
abbrev pub advance_of : Event → ℕ
advance_of (Advance by) = by
advance_of (Submit what) = 0
advance_of (SubmitRaw request) = 0
advance_of (NodeRead node) = 0
advance_of (Validate node) = 0
advance_of (Reply node) = 0
advance_of (LoseReply node) = 0
advance_of MediatorRead = 0
advance_of GiveVerdict = 0
advance_of LoseVerdict = 0
advance_of (Pause node paused) = 0

-- by how many microseconds all events of a list together move time on
abbrev pub advance_in : List Event → ℕ
advance_in [] = 0
advance_in (event ∷ rest) = advance_of event + advance_in rest

-- The event may happen. A submission asks that the topology is valid and that it and the packages name only parties of the topology; any other event asks
-- nothing.
abbrev pub CanHappen : Topology → Packages → Event → Type 0
CanHappen topology packages (Advance by) = Unit {0}
CanHappen topology packages (Submit what) = CanSubmit topology packages what
CanHappen topology packages (SubmitRaw request) = Unit {0}
CanHappen topology packages (NodeRead node) = Unit {0}
CanHappen topology packages (Validate node) = Unit {0}
CanHappen topology packages (Reply node) = Unit {0}
CanHappen topology packages (LoseReply node) = Unit {0}
CanHappen topology packages MediatorRead = Unit {0}
CanHappen topology packages GiveVerdict = Unit {0}
CanHappen topology packages LoseVerdict = Unit {0}
CanHappen topology packages (Pause node paused) = Unit {0}
