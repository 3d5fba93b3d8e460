-- How a run may end. `left` and `left'` are the bytes that the source has left before the run and after it, None where it doesn't tell. `finish` is
-- how the run ended: its status, the script's fault, and the log and the other lists of what was run.
use Rattle.std.specs.Prelude.{◌≡◌, ◌≢◌, ◌↔◌, ℕ, ◌+◌, ◌≤◌, ◌<◌, Bool, true, false, List, [], length, Option, option_map, Some, None, Ok, Err}
use Rattle.std.proofs.Common.{◌⊎◌}
use Rattle.std.specs.Io.KnownBytes.{Consumes, Keeps}
use Rattle.cli_words.specs.Jobs.{job_of}
use Rattle.cli_words.specs.declared.job.Job.{Job}
use Rattle.cli_words.specs.declared.job.Job.TheVariants as jobs
use Rattle.cn_io.specs.Faults.{Rose}
use Rattle.audit_model.specs.Judged.{approved_in}
use Rattle.ledger_terms.specs.declared.limits.TheConstants.{MOST_SCRIPT_BYTES}
use Rattle.log_audit.specs.Audits.{IsAudit, IsYes, SpellsProperLog}
use Rattle.log_audit.specs.Lines.{line_of}
use Rattle.log_audit.specs.Scripts.{most_of, script_of, standard_of}
use Rattle.log_audit.specs.declared.answer.Audit.{Audit}
use Rattle.log_audit.specs.declared.answer.Audit.TheVariants.{Yes}
use Rattle.log_dump.specs.declared.limits.TheConstants.{MOST_DUMP_BYTES}
use Rattle.script_read.specs.Script.{script_in}
use Rattle.script_read.specs.declared.script.Script.{Script}
use Rattle.script_read.specs.declared.script_fault.ScriptFault.{ScriptFault}
use Rattle.trigger_rules.specs.Answers.{Answers}
use Rattle.canton_run.specs.declared.finish.Finish.{Finish}
use Rattle.canton_run.specs.Jobs.{GivesScript, ReadWhole, capacity_of, most_bytes, needs_script, needs_source, text_of, workers_of}
use Rattle.canton_run.specs.Run.{IsRun}

-- The status is one that the program may end with: 0 where it did what was asked, 2 where the words ask for no job, 3 for a fault of the script, 4 where
-- a read failed, 5 where a write failed, 6 where the source is too long, 70 for want of memory.
abbrev pub IsStatus : ℕ → Type 0
IsStatus s = (s ≡ 0) ⊎ ((s ≡ 2) ⊎ ((s ≡ 3) ⊎ ((s ≡ 4) ⊎ ((s ≡ 5) ⊎ ((s ≡ 6) ⊎ (s ≡ 70))))))

-- the status is one that an audit may end with: it was made, a read or a write failed, the source is too long, or want of memory
abbrev pub IsAuditStatus : ℕ → Type 0
IsAuditStatus s = (s ≡ 0) ⊎ ((s ≡ 4) ⊎ ((s ≡ 5) ⊎ ((s ≡ 6) ⊎ (s ≡ 70))))

-- the status is one that a run of the source's script may end with: all but 2, since the words asked for it
abbrev pub IsRunStatus : ℕ → Type 0
IsRunStatus s = (s ≡ 0) ⊎ ((s ≡ 3) ⊎ ((s ≡ 4) ⊎ ((s ≡ 5) ⊎ ((s ≡ 6) ⊎ (s ≡ 70)))))

-- the words of the command line ask for a job that reads the source
abbrev pub AsksForSource : List (List ℕ) → Type 0
AsksForSource words = option_map needs_source (job_of words) ≡ Some true

-- the words of the command line ask for a job that takes its script from the source
abbrev pub AsksForScript : List (List ℕ) → Type 0
AsksForScript words = option_map needs_script (job_of words) ≡ Some true

-- nothing was run: there is no log, no result, no end of a round, and nothing that rules caused
abbrev pub HasRunNothing : Finish → Type 0
HasRunNothing finish = (finish.log ≡ []) × (finish.results ≡ []) × (finish.ends ≡ []) × (finish.caused ≡ [])

-- The line is what an audit of the bytes answers, which is yes exactly where they spell a script and a proper log.
abbrev pub TellsAudit : (bytes line : List ℕ) → Type 0
TellsAudit bytes line =
    (audit : Audit) × IsAudit script_of most_of standard_of bytes audit
    × (IsYes audit ↔ SpellsProperLog script_of most_of standard_of bytes) × (line ≡ line_of audit)

-- The bytes that the source gave were audited, and this line tells the answer. Nothing was run.
abbrev pub Audited : Option (List ℕ) → Option (List ℕ) → Finish → (line : List ℕ) → Type 0
Audited left left' finish line =
    (bytes : List ℕ) × ReadWhole MOST_DUMP_BYTES left left' bytes × TellsAudit bytes line × HasRunNothing finish

-- The job's script was run, with the record that `finish` has, and the text is what the job writes of it. `may` is what the script's rules may be
-- answered about a contract.
abbrev pub RanScript : Answers → Job → Option (List ℕ) → Option (List ℕ) → Finish → List ℕ → Type 0
RanScript may job left left' finish text =
    (bytes : List ℕ) × (script : Script) × GivesScript job left left' bytes script
    × IsRun may script (capacity_of job) (workers_of job) finish.log finish.results finish.ends finish.caused × (text ≡ text_of job bytes script finish)

-- The job was done, an audit or a run of its script, and the text is what it writes. `may` is what the script's rules may be answered about a contract.
abbrev pub Did : Answers → Job → Option (List ℕ) → Option (List ℕ) → Finish → List ℕ → Type 0
Did may jobs.Audit left left' finish text = Audited left left' finish text
Did may (jobs.Run workers log) left left' finish text = RanScript may (jobs.Run workers log) left left' finish text
Did may (jobs.Gen count seed workers) left left' finish text = RanScript may (jobs.Gen count seed workers) left left' finish text
Did may (jobs.Commitments workers log) left left' finish text = RanScript may (jobs.Commitments workers log) left left' finish text
Did may (jobs.Dump workers log) left left' finish text = RanScript may (jobs.Dump workers log) left left' finish text

-- The job that the words ask for was done, and the text is what it writes. `may` is what the script's rules may be answered about a contract.
abbrev pub Ran : Answers → List (List ℕ) → Option (List ℕ) → Option (List ℕ) → Finish → List ℕ → Type 0
Ran may words left left' finish text = (job : Job) × (job_of words ≡ Some job) × Did may job left left' finish text

-- an audit of the bytes `dump` says yes, with how many entries the log of `finish` has, and how many approved requests; so the dump of a run is audited
abbrev pub IsJudgedYes : Finish → (dump : List ℕ) → Type 0
IsJudgedYes finish dump = IsAudit script_of most_of standard_of dump (Yes (length finish.log) (approved_in finish.log))

-- The source was read to its end within the limit, and the fault that `finish` keeps is the first fault of its bytes.
abbrev pub ReadsFault : Option (List ℕ) → Option (List ℕ) → Finish → Type 0
ReadsFault left left' finish =
    (bytes : List ℕ) × (fault : ScriptFault) × ReadWhole MOST_SCRIPT_BYTES left left' bytes × (script_in bytes ≡ Err fault)
    × (finish.fault ≡ Some fault)

-- the words ask for a script of the source, and the fault that `finish` keeps is the first fault of the source's bytes
abbrev pub KeepsFault : List (List ℕ) → Option (List ℕ) → Option (List ℕ) → Finish → Type 0
KeepsFault words left left' finish = AsksForScript words × ReadsFault left left' finish

-- These bytes were taken from the source. They are at most `most` and one more, and more than `most` exactly where the status is 6.
abbrev pub TakesAtMost : (most : ℕ) → Option (List ℕ) → Option (List ℕ) → (status : ℕ) → List ℕ → Type 0
TakesAtMost most left left' status bytes = Consumes left left' bytes × (length bytes ≤ most + 1) × (status ≡ 6 ↔ (most < length bytes))

-- how many bytes are read at most for the job that words ask for; the limit of scripts where they ask for none
abbrev pub most_asked : Option Job → ℕ
most_asked None = MOST_SCRIPT_BYTES
most_asked (Some job) = most_bytes job

-- The bytes that were taken from the source are at most one more than the job's limit, and more than the limit exactly at status 6. Where the words don't
-- ask for the source none was taken.
abbrev pub TakesUpTo : List (List ℕ) → Option (List ℕ) → Option (List ℕ) → Finish → Type 0
TakesUpTo words left left' finish =
    (bytes : List ℕ) × TakesAtMost (most_asked (job_of words)) left left' finish.status bytes × (¬ AsksForSource words → bytes ≡ [])

-- nothing was run, and nothing was written to the sink, which held the bytes `held` before and held' after, None where it doesn't tell
abbrev pub RanNothing : Option (List ℕ) → Option (List ℕ) → Finish → Type 0
RanNothing held held' finish = HasRunNothing finish × Keeps held held'

-- the source tells what it has left, and that spells a script and isn't longer than the limit of scripts
abbrev pub OffersScript : Option (List ℕ) → Type 0
OffersScript left = (bytes : List ℕ) × (script : Script) × (left ≡ Some bytes) × (length bytes ≤ MOST_SCRIPT_BYTES) × (script_in bytes ≡ Ok script)

-- the source tells what it has left, and that isn't longer than the limit of dumps
abbrev pub OffersBytes : Option (List ℕ) → Type 0
OffersBytes left = (bytes : List ℕ) × (left ≡ Some bytes) × (length bytes ≤ MOST_DUMP_BYTES)

-- the fact holds where the test is true; where the test is false, nothing is said
abbrev pub Where : Bool → Type 0 → Type 0
Where true fact = fact
Where false fact = Unit {0}

-- the source has what the job reads; `Gen` reads nothing
abbrev pub HasInput : Job → Option (List ℕ) → Type 0
HasInput jobs.Audit left = OffersBytes left
HasInput (jobs.Run workers log) left = OffersScript left
HasInput (jobs.Gen count seed workers) left = Unit {0}
HasInput (jobs.Commitments workers log) left = OffersScript left
HasInput (jobs.Dump workers log) left = OffersScript left

-- where the job reads the source, the source's count of faults, `before` and `after` the run, didn't rise
abbrev pub NoReadFault : Job → (before after : ℕ) → Type 0
NoReadFault job before after = Where (needs_source job) (¬ Rose before after)

-- the status says neither that a read failed, nor that the source was too long, nor that there was no memory
abbrev pub IsReadWhole : ℕ → Type 0
IsReadWhole status = (status ≢ 4) × (status ≢ 6) × (status ≢ 70)
