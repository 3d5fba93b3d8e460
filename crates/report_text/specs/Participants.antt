-- The lines of the participants.
use Rattle.std.specs.Prelude.{ℕ, List, [], ◌++◌, Option, None, Some, codes, decimal}
use Rattle.std.specs.List.{flat_map}
use Rattle.ledger_terms.specs.declared.host.Host.{Host}
use Rattle.ledger_terms.specs.declared.active_row.ActiveRow.{ActiveRow}
use Rattle.ledger_model.specs.declared.commit.Commit.{Commit}
use Rattle.node_core.specs.declared.node_view.NodeView.{NodeView}
use Rattle.report_text.specs.Values.{instance_text}
use Rattle.report_text.specs.Actions.{tree_lines}

-- the lines of a commit: its place, and its actions, whose roots are indented by one level
abbrev pub commit_lines : Commit → List ℕ
commit_lines commit = codes "commit " ++ decimal commit.place ++ codes "\n" ++ tree_lines 1 commit.roots

-- the line of an active contract: the place of the request that created it, and its instance
abbrev pub active_line : ActiveRow → List ℕ
active_line row = codes "active " ++ decimal row.created_at ++ codes " " ++ instance_text row.known.instance ++ codes "\n"

-- the line of an approved request, by its place, that is withheld from the participant
abbrev pub withheld_line : (place : ℕ) → List ℕ
withheld_line place = codes "withheld " ++ decimal place ++ codes "\n"

-- the line of a participant: its name, its clean place and its clean time in microseconds
abbrev pub participant_line : Host → NodeView → List ℕ
participant_line host view =
    codes "participant " ++ host.name ++ codes " clean " ++ decimal view.clean ++ codes " time " ++ decimal view.clean_time ++ codes "\n"

-- the line with the base of a participant that restarted; nothing for another one
abbrev pub pruned_line : (pruned : Option ℕ) → List ℕ
pruned_line None = []
pruned_line (Some base) = codes "pruned " ++ decimal base ++ codes "\n"

-- All lines of a participant: its own, its base if it restarted, and what it knows at its clean place, which are the places withheld from it, its commits
-- and its active contracts.
abbrev pub participant_lines : Host × NodeView → List ℕ
participant_lines (host, view) =
    participant_line host view
    ++ pruned_line view.pruned
    ++ flat_map withheld_line view.withheld
    ++ flat_map commit_lines view.commits
    ++ flat_map active_line view.active
