-- What became of the requests of a whole log.
use Rattle.std.specs.Prelude.{ℕ, ◌+◌, if◌then◌else◌, is_some, List, [], ◌∷◌, ◌++◌, codes, decimal}
use Rattle.ledger_terms.specs.declared.host.Host.{Host}
use Rattle.ledger_terms.specs.declared.topology.Topology.{Topology}
use Rattle.canton_model.specs.declared.entry.Entry.{Entry}
use Rattle.canton_model.specs.Log.{request_of, decision_time_of}
use Rattle.canton_model.specs.Timeline.{Outcome, Decided, Expired, Undecided, outcome_of, timeline_of}
use Rattle.report_text.specs.Entries.{decision_text}

-- What became of a request: the decision of its verdict, `expired` past its decision time without one, or `undecided`. The hosts are the topology's,
-- for the names of participants.
abbrev pub outcome_text : List Host → Outcome → List ℕ
outcome_text hosts (Decided decision) = decision_text hosts decision
outcome_text hosts Expired = codes "expired"
outcome_text hosts Undecided = codes "undecided"

-- the line that says what became, over the whole log, of the request at a place
abbrev pub outcome_line : Topology → List Entry → ℕ → List ℕ
outcome_line topology log place =
    codes "outcome " ++ decimal place ++ codes " "
    ++ outcome_text topology.hosts (outcome_of (timeline_of log) place (decision_time_of topology.params log place)) ++ codes "\n"

-- A line for each request among the entries, which stand in the log from `place` on; what became of it is read from the whole log, `log`.
abbrev pub outcome_lines : Topology → List Entry → ℕ → List Entry → List ℕ
outcome_lines topology log place [] = []
outcome_lines topology log place (entry ∷ entries) =
    (if is_some (request_of entry.message) then outcome_line topology log place else []) ++ outcome_lines topology log (place + 1) entries
