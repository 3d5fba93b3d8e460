-- The summary of a run: how many requests ended how, how many submissions were refused, and what is active.
use Rattle.std.specs.Prelude.{ℕ, ◌+◌, ℤ, pos, ◌+ℤ◌, Bool, true, false, ◌&&◌, if◌then◌else◌, is_some, List, [], ◌∷◌, ◌++◌, codes, decimal, length, count_by}
use Rattle.std.specs.Fmt.{signed_decimal}
use Rattle.std.specs.List.{flat_map, zip}
use Rattle.std.specs.Str.{bytes_eq}
use Rattle.ledger_terms.specs.declared.active_row.ActiveRow.{ActiveRow}
use Rattle.ledger_terms.specs.declared.host.Host.{Host}
use Rattle.ledger_terms.specs.declared.instance.Instance.{Instance}
use Rattle.ledger_terms.specs.declared.template_name.TemplateName.{TemplateName}
use Rattle.ledger_terms.specs.declared.topology.Topology.{Topology}
use Rattle.ledger_terms.specs.declared.value.Value.{Value}
use Rattle.ledger_terms.specs.declared.value.Value.TheVariants.{Int}
use Rattle.canton_model.specs.declared.entry.Entry.{Entry}
use Rattle.canton_model.specs.declared.outcome.Outcome.{Outcome}
use Rattle.canton_model.specs.declared.outcome.Outcome.TheVariants.{Approved, Rejected, TimedOut, Expired, Undecided}
use Rattle.canton_model.specs.Log.{request_of, decision_time_of}
use Rattle.canton_model.specs.Timeline.{kind_of, outcome_of, timeline_of}
use Rattle.node_core.specs.Views.{actives_in}
use Rattle.node_core.specs.declared.node_view.NodeView.{NodeView}
use Rattle.node_core.specs.declared.submit_result.SubmitResult.{SubmitResult}
use Rattle.node_core.specs.declared.submit_result.SubmitResult.TheVariants.{Sent, Refused}

-- how the request at a place of the log ended over the whole log: which of the five ways, without the particulars of its verdict
abbrev pub kind_at : Topology → List Entry → ℕ → Outcome
kind_at topology log place = kind_of (outcome_of (timeline_of log) place (decision_time_of topology.params log place))

-- How the requests among the entries, which stand in the log from `place` on, ended, in order; it is read from the whole log, `log`.
abbrev pub kinds_from : Topology → List Entry → ℕ → List Entry → List Outcome
kinds_from topology log place [] = []
kinds_from topology log place (entry ∷ entries) =
    (if is_some (request_of entry.message) then kind_at topology log place ∷ [] else []) ++ kinds_from topology log (place + 1) entries

-- whether two outcomes are the same one of the five
abbrev pub is_same : Outcome → Outcome → Bool
is_same Approved Approved = true
is_same Rejected Rejected = true
is_same TimedOut TimedOut = true
is_same Expired Expired = true
is_same Undecided Undecided = true
is_same kind other = false

-- a line with the word and with how many of the outcomes `kinds` are `kind`
abbrev pub count_line : List ℕ → Outcome → List Outcome → List ℕ
count_line word kind kinds = word ++ codes " " ++ decimal (count_by (λ other. is_same other kind) kinds) ++ codes "\n"

-- whether the result is a refusal
abbrev pub is_refused : SubmitResult → Bool
is_refused (Sent place read_to) = false
is_refused (Refused fault read_to) = true

-- whether the template is Iou of the package Iou, whose contracts are the debts of generated scripts
abbrev pub is_iou : TemplateName → Bool
is_iou template = bytes_eq template.package (codes "Iou") && bytes_eq template.name (codes "Iou")

-- the third of the values, where it is an Int, and 0 otherwise
abbrev pub third_number : List Value → ℤ
third_number (first ∷ second ∷ Int number ∷ more) = number
third_number values = pos 0

-- the amount of a contract, by its instance: the third field of an Iou, where that is an Int, and 0 otherwise
abbrev pub amount_of : Instance → ℤ
amount_of contract = if is_iou contract.template then third_number contract.fields else pos 0

-- `total` and the amounts of the contracts, all added up
abbrev pub amounts_onto : ℤ → List ActiveRow → ℤ
amounts_onto total [] = total
amounts_onto total (row ∷ rows) = amounts_onto (total +ℤ amount_of row.known.instance) rows

-- the line of a participant in a summary: its name, how many contracts are active at its clean place, and the sum of their amounts
abbrev pub active_total_line : Host × List ActiveRow → List ℕ
active_total_line (host, active) =
    codes "active " ++ host.name ++ codes " " ++ decimal (length active) ++ codes " amount " ++ signed_decimal (amounts_onto (pos 0) active)
    ++ codes "\n"

-- the lines that count requests: how many there are, and how many ended in each of the five ways; `kinds` has how each ended
abbrev pub count_lines : List Outcome → List ℕ
count_lines kinds =
    codes "requests " ++ decimal (length kinds) ++ codes "\n"
    ++ count_line (codes "approved") Approved kinds
    ++ count_line (codes "rejected") Rejected kinds
    ++ count_line (codes "timeout") TimedOut kinds
    ++ count_line (codes "expired") Expired kinds
    ++ count_line (codes "undecided") Undecided kinds

-- the summary of a run: its requests by how they ended, the refused submissions, and the active contracts of each participant, `actives`, in the order of
-- the topology
abbrev pub summary_over : Topology → List Entry → List SubmitResult → List (List ActiveRow) → List ℕ
summary_over topology log results actives =
    count_lines (kinds_from topology log 0 log)
    ++ codes "refused " ++ decimal (count_by is_refused results) ++ codes "\n"
    ++ flat_map active_total_line (zip topology.hosts actives)
    ++ codes "end\n"

-- the summary of a run, where `views` are what the participants know at their clean places, in the order of the topology
abbrev pub summary_of : Topology → List Entry → List SubmitResult → List NodeView → List ℕ
summary_of topology log results views = summary_over topology log results (actives_in views)
