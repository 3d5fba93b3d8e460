-- What each job runs and writes.
use Rattle.std.specs.Prelude.{◌≡◌, ℕ, ◌≤◌, Bool, true, false, List, [], Option, Ok, length}
use Rattle.std.specs.Io.KnownBytes.{Consumes, IsAtEnd, Keeps}
use Rattle.canton_model.specs.declared.entry.Entry.{Entry}
use Rattle.cli_words.specs.declared.job.Job.{Job}
use Rattle.cli_words.specs.declared.job.Job.TheVariants.{Audit, Commitments, Dump, Gen, Run}
use Rattle.commitment_text.specs.Commitments.{commitments_of}
use Rattle.commitment_text.specs.Knowledge.{Knowledge, each_knowledge}
use Rattle.ledger_terms.specs.declared.limits.TheConstants.{MOST_PLACES, MOST_SCRIPT_BYTES}
use Rattle.load_gen.specs.Generated.{generated}
use Rattle.log_dump.specs.Spelling.{spell_dump}
use Rattle.log_dump.specs.declared.limits.TheConstants.{MOST_DUMP_BYTES}
use Rattle.node_core.specs.Views.{views_over}
use Rattle.node_core.specs.declared.node_view.NodeView.{NodeView}
use Rattle.node_core.specs.declared.submit_result.SubmitResult.{SubmitResult}
use Rattle.report_text.specs.Report.{report_of}
use Rattle.report_text.specs.Totals.{summary_of}
use Rattle.script_read.specs.Script.{script_in}
use Rattle.script_read.specs.declared.script.Script.{Script}
use Rattle.trigger_rules.specs.declared.caused.Caused.{Caused}
use Rattle.canton_run.specs.declared.finish.Finish.{Finish}
use Rattle.canton_run.specs.Restarts.{base_in, pruned_in}
use Rattle.canton_run.specs.Run.{params_of, reading_for}

-- The source, which had left' left after `left`, gave these bytes and was read to its end, and they are at most `most`. Of a source that doesn't tell
-- what it has left only the limit is said.
abbrev pub ReadWhole : (most : ℕ) → Option (List ℕ) → Option (List ℕ) → List ℕ → Type 0
ReadWhole most left left' bytes = Consumes left left' bytes × IsAtEnd left' × (length bytes ≤ most)

-- the source, which had left' left after `left`, was read whole, and its bytes spell the script
abbrev pub ReadsScript : Option (List ℕ) → Option (List ℕ) → (bytes : List ℕ) → Script → Type 0
ReadsScript left left' bytes script = ReadWhole MOST_SCRIPT_BYTES left left' bytes × (script_in bytes ≡ Ok script)

-- whether the job reads the source
abbrev pub needs_source : Job → Bool
needs_source (Run workers log) = true
needs_source (Gen count seed workers) = false
needs_source (Commitments workers log) = true
needs_source (Dump workers log) = true
needs_source Audit = true

-- whether the job takes a script from the source
abbrev pub needs_script : Job → Bool
needs_script (Run workers log) = true
needs_script (Gen count seed workers) = false
needs_script (Commitments workers log) = true
needs_script (Dump workers log) = true
needs_script Audit = false

-- how many bytes the job may take from the source at most; `Gen` takes none, and has the limit of scripts here
abbrev pub most_bytes : Job → ℕ
most_bytes (Run workers log) = MOST_SCRIPT_BYTES
most_bytes (Gen count seed workers) = MOST_SCRIPT_BYTES
most_bytes (Commitments workers log) = MOST_SCRIPT_BYTES
most_bytes (Dump workers log) = MOST_SCRIPT_BYTES
most_bytes Audit = MOST_DUMP_BYTES

-- What the job runs is this script: that of the source, with its bytes, or the generated one, for which nothing is read and which has no bytes. `left`
-- and left' are what the source has left before and after. An audit runs none.
abbrev pub GivesScript : Job → Option (List ℕ) → Option (List ℕ) → (bytes : List ℕ) → Script → Type 0
GivesScript (Run workers log) left left' bytes script = ReadsScript left left' bytes script
GivesScript (Gen count seed workers) left left' bytes script = Keeps left left' × (bytes ≡ []) × (script ≡ generated seed count)
GivesScript (Commitments workers log) left left' bytes script = ReadsScript left left' bytes script
GivesScript (Dump workers log) left left' bytes script = ReadsScript left left' bytes script
GivesScript Audit left left' bytes script = ⊥

-- how many places of the log the requests of the job may need in all (`--log`); the most that there may be for a generated script, and 0 for an audit
abbrev pub capacity_of : Job → ℕ
capacity_of (Run workers log) = log
capacity_of (Gen count seed workers) = MOST_PLACES
capacity_of (Commitments workers log) = log
capacity_of (Dump workers log) = log
capacity_of Audit = 0

-- how many lanes work beside the clients of a round (`--workers`), 0 where one thread does all the work
abbrev pub workers_of : Job → ℕ
workers_of (Run workers log) = workers
workers_of (Gen count seed workers) = workers
workers_of (Commitments workers log) = workers
workers_of (Dump workers log) = workers
workers_of Audit = 0

-- What the job writes of a run of the script with these bytes: its report, its summary, its commitments or the dump of its log; nothing for an audit.
-- `views` and `known` are what each participant knows, for a report and for commitments.
abbrev pub text_over : Job → (bytes : List ℕ) → Script → List Entry → List SubmitResult → List NodeView → List Knowledge → List Caused → List ℕ
text_over (Run workers log) bytes script entries results views known caused = report_of script.topology script.rounds entries results views caused
text_over (Gen count seed workers) bytes script entries results views known caused = summary_of script.topology entries results views
text_over (Commitments workers log) bytes script entries results views known caused = commitments_of (reading_for script) (script.topology).hosts known
text_over (Dump workers log) bytes script entries results views known caused = spell_dump bytes entries
text_over Audit bytes script entries results views known caused = []

-- what each participant knows at its clean place over the whole log, from its base on where it restarted; `ends` has the lengths of the log at the ends
-- of the parts of rounds
abbrev pub views_in : Script → List Entry → (ends : List ℕ) → List NodeView
views_in script log ends = views_over (reading_for script) (params_of script) log (pruned_in script log ends) (length (script.topology).hosts)

-- What each participant, in the order of the topology, knows of active contracts when it has read the whole log: its base after the run, its clean
-- place, and the contracts active at each place. `ends` has the lengths of the log at the ends of the parts of rounds, from which the bases follow.
abbrev pub knowledge_in : Script → List Entry → (ends : List ℕ) → List Knowledge
knowledge_in script log ends = each_knowledge (reading_for script) (params_of script) log (base_in script log ends) (length (script.topology).hosts)

-- what the job writes of a run of the script with these bytes, as its log, results, ends and what rules caused have it
abbrev pub told_text : Job → (bytes : List ℕ) → Script → List Entry → List SubmitResult → (ends : List ℕ) → List Caused → List ℕ
told_text job bytes script log results ends caused =
    text_over job bytes script log results (views_in script log ends) (knowledge_in script log ends) caused

-- what the job writes of a run of the script with these bytes, whose log, results, ends and caused submissions `finish` has
abbrev pub text_of : Job → (bytes : List ℕ) → Script → Finish → List ℕ
text_of job bytes script finish = told_text job bytes script finish.log finish.results finish.ends finish.caused
