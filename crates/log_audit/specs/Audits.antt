-- What an audit says of bytes. `reads` reads a script's bytes, `most` tells the greatest participant of a script, and `standard` what
-- its logs are judged by.
use Rattle.std.specs.Prelude.{◌≡◌, ℕ, ◌-◌, List, Option, Some, Ok, Err, length}
use Rattle.world_model.specs.Messages.{Entry}
use Rattle.log_dump.specs.InRange.{IsBlock, IsLog}
use Rattle.log_dump.specs.Spelling.{spell_dump}
use Rattle.log_dump.specs.Dumps.{dump_in}
use Rattle.audit_model.specs.Standard.{Standard}
use Rattle.audit_model.specs.Judged.{IsProper, FailsAt, approved_in}
use Rattle.log_judge.specs.declared.judgement.Judgement.{Judgement}
use Rattle.log_judge.specs.declared.judgement.Judgement.TheVariants as judgement
use Rattle.log_audit.specs.declared.answer.Audit.{Audit}
use Rattle.log_audit.specs.declared.answer.Audit.TheVariants.{Yes, No, Bad}

-- The bytes are read as a dump of this script and this log.
abbrev pub Dumps : {S : Type 0} → (reads : List ℕ → Option S) → (most : S → ℕ) → List ℕ → S → List Entry → Type 0
Dumps reads most bytes script log = dump_in reads most bytes ≡ Ok (script, log)

-- What the audit says of the bytes is so: they are a dump of a proper log with so many entries and approved requests (Yes); or a dump of a log that
-- fails at that place, by that case (No); or no dump, and what can't be read begins at the byte `at`, counted from 0 (Bad).
abbrev pub IsAudit : {S : Type 0} → (reads : List ℕ → Option S) → (most : S → ℕ) → (standard : S → Standard) → (bytes : List ℕ) → Audit → Type 0
IsAudit {S} reads most standard bytes (Yes entries approved) =
    (script : S) × (log : List Entry) × Dumps reads most bytes script log × IsProper (standard script) log
    × (entries ≡ length log) × (approved ≡ approved_in log)
IsAudit {S} reads most standard bytes (No place why) =
    (script : S) × (log : List Entry) × Dumps reads most bytes script log × FailsAt (standard script) log place why
IsAudit {S} reads most standard bytes (Bad at) = (left : ℕ) × (dump_in reads most bytes ≡ Err left) × (at ≡ length bytes - left)

-- The bytes are the dump of a script and a proper log.
pub record SpellsProperLog {S : Type 0} (reads : List ℕ → Option S) (most : S → ℕ) (standard : S → Standard) (bytes : List ℕ) : Type 0 where
  -- the script's bytes
  pub block : List ℕ
  pub script : S
  pub log : List Entry
  pub spelled : bytes ≡ spell_dump block log
  pub is_script : reads block ≡ Some script
  pub is_block : IsBlock block
  pub in_range : IsLog (most script) log
  pub proper : IsProper (standard script) log

-- The audit says yes; by a clause of `audit` it does just where `SpellsProperLog` holds of the bytes.
abbrev pub IsYes : Audit → Type 0
IsYes (Yes entries approved) = Unit {0}
IsYes (No place why) = ⊥
IsYes (Bad at) = ⊥

-- What an audit says of a dump, by the judgement on the dump's log.
abbrev pub audit_of : Judgement → Audit
audit_of (judgement.Yes entries approved) = Yes entries approved
audit_of (judgement.No place why) = No place why
