-- Which participants restart in a run, and where that leaves their bases.
use Rattle.std.specs.Prelude.{ℕ, ◌++◌, Bool, List, Option, map}
use Rattle.std.specs.List.{list_any}
use Rattle.canton_model.specs.declared.entry.Entry.{Entry}
use Rattle.ledger_model.specs.Terms.{ParticipantId}
use Rattle.node_core.specs.Bases.{AreBases, Bases}
use Rattle.node_core.specs.Participant.{Participant}
use Rattle.node_core.specs.Views.{view_of}
use Rattle.node_core.specs.declared.node_view.NodeView.{NodeView}
use Rattle.run_model.specs.Restarts.{RoundBegin, base_or_first, begins_of, pruned_to}
use Rattle.script_read.specs.declared.round.Round.{Round}
use Rattle.script_read.specs.declared.script.Script.{Script}
use Rattle.world_model.specs.Places.{has_place}
use Rattle.world_play.specs.declared.world.World.{World}
use Rattle.canton_run.specs.Run.{params_of, reading_for}

-- whether one of the rounds restarts the participant
abbrev pub is_restarted : List Round → ParticipantId → Bool
is_restarted rounds p = list_any (λ (round : Round). has_place round.restarts p) rounds

-- what a participant knows at its clean place once these rounds were played, told with its base where one of them restarted it
abbrev pub view_in : List Round → Participant → NodeView
view_in rounds participant = view_of (is_restarted rounds participant.me) participant

-- Where each of the rounds begins in the log, and who restarts there. `ends` has the lengths of the log at the ends of their parts, two of each round;
-- behind the first round that lacks them no more begins are told.
abbrev pub begins_in : List Round → (ends : List ℕ) → List RoundBegin
begins_in rounds ends = begins_of 0 (map (λ (round : Round). round.restarts) rounds) ends

-- the base of participant p: that of the last of these begins of rounds in which it restarted, and 0 where it restarted in none
abbrev pub bases_in : Script → List Entry → List RoundBegin → Bases
bases_in script log begins p = base_or_first (pruned_to (reading_for script) (params_of script) log begins p)

-- Of these participants, which stand in the order of the topology, each has the base that these begins of rounds leave it over this log (`bases_in` of
-- its index).
abbrev pub ArePrunedIn : Script → List Entry → List RoundBegin → List Participant → Type 0
ArePrunedIn script log begins nodes = AreBases (bases_in script log begins) nodes

-- Each participant of the world has the base that these rounds leave it, once they were played with these ends. What is said of the log holds of every
-- log that goes on with it.
abbrev pub ArePrunedBy : Script → List Round → (ends : List ℕ) → World → Type 0
ArePrunedBy script rounds ends world =
    (more : List Entry) → ArePrunedIn script ((world.sequencer).list ++ more) (begins_in rounds ends) (world.nodes).items

-- the base of participant p where it restarted in the run, and None where it didn't; `ends` has the ends of the parts of rounds
abbrev pub pruned_in : Script → List Entry → (ends : List ℕ) → ParticipantId → Option ℕ
pruned_in script log ends p = pruned_to (reading_for script) (params_of script) log (begins_in script.rounds ends) p

-- the base of participant p after the run, which is 0 where it never restarted
abbrev pub base_in : Script → List Entry → (ends : List ℕ) → ParticipantId → ℕ
base_in script log ends p = bases_in script log (begins_in script.rounds ends) p
