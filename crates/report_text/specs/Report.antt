-- The text of a run.
use Rattle.std.specs.Prelude.{ℕ, List, ◌++◌, codes, decimal, length}
use Rattle.std.specs.List.{flat_map, zip}
use Rattle.ledger_terms.specs.declared.topology.Topology.{Topology}
use Rattle.canton_model.specs.declared.entry.Entry.{Entry}
use Rattle.script_read.specs.declared.round.Round.{Round}
use Rattle.node_core.specs.declared.node_view.NodeView.{NodeView}
use Rattle.node_core.specs.declared.submit_result.SubmitResult.{SubmitResult}
use Rattle.trigger_rules.specs.declared.caused.Caused.{Caused}
use Rattle.report_text.specs.Entries.{entry_lines}
use Rattle.report_text.specs.Fired.{fired_lines}
use Rattle.report_text.specs.Results.{result_lines}
use Rattle.report_text.specs.Outcomes.{outcome_lines}
use Rattle.report_text.specs.Participants.{participant_lines}

-- The report of a run, line by line: its log, the results of its submissions, what rules caused, what became of its requests, and the participants.
-- `views` are what the participants know, in the order of the topology.
abbrev pub report_of : Topology → List Round → List Entry → List SubmitResult → List NodeView → List Caused → List ℕ
report_of topology rounds log results views caused =
    codes "entries " ++ decimal (length log) ++ codes "\n"
    ++ entry_lines topology.hosts 0 log
    ++ result_lines topology.hosts rounds caused results
    ++ fired_lines caused
    ++ outcome_lines topology log 0 log
    ++ flat_map participant_lines (zip topology.hosts views)
    ++ codes "end\n"
