-- Jobs that read the source.
use Rattle.std.proofs.Common.{◌≡◌, ◌≢◌, ℕ, ◌≤◌, Bool, true, false, List, [], Option, Some, refl, ap, subst, sym, ◌∙◌, arith}
use Rattle.std.specs.Prelude.{option_map}
use Rattle.std.proofs.KnownBytes.{Consumes-nil}
use Rattle.cli_words.specs.Jobs.{job_of}
use Rattle.cli_words.specs.Within.{IsWithin}
use Rattle.cli_words.specs.declared.job.Job.{Job}
use Rattle.cli_words.specs.declared.job.Job.TheVariants.{Audit, Commitments, Dump, Gen, Run}
use Rattle.ledger_terms.specs.declared.limits.TheConstants.{MOST_PLACES, MOST_SCRIPT_BYTES}
use Rattle.script_read.specs.declared.script.Script.{Script}
use Rattle.trigger_rules.specs.Answers.{Answers}
use Rattle.canton_run.specs.Ends.{AsksForScript, AsksForSource, Did, HasInput, OffersScript, RanScript, TakesAtMost, Where, most_asked}
use Rattle.canton_run.specs.Jobs.{GivesScript, ReadsScript, capacity_of, most_bytes, needs_script, needs_source}
use Rattle.canton_run.specs.Run.{IsRun}
use Rattle.canton_run.specs.declared.finish.Finish.{Finish}

-- all but that on a generated script and that without a script
pub takes_script : (job : Job) → ((count seed workers : ℕ) → job ≡ Gen count seed workers → ⊥) → (job ≡ Audit → ⊥) → needs_script job ≡ true
takes_script (Run workers log) other none = refl
takes_script (Gen count seed workers) other none = absurd (other count seed workers refl)
takes_script (Commitments workers log) other none = refl
takes_script (Dump workers log) other none = refl
takes_script Audit other none = absurd (none refl)

pub from_source : (job : Job) → needs_script job ≡ true → needs_source job ≡ true
from_source (Run workers log) needs = refl
from_source (Gen count seed workers) needs = cc
from_source (Commitments workers log) needs = refl
from_source (Dump workers log) needs = refl
from_source Audit needs = refl

pub has_room : (job : Job) → IsWithin job → capacity_of job ≤ MOST_PLACES
has_room (Run workers log) within = within.2
has_room (Gen count seed workers) within = omega arith
has_room (Commitments workers log) within = within.2
has_room (Dump workers log) within = within.2
has_room Audit within = omega arith

pub asks : (words : List (List ℕ)) (job : Job) → job_of words ≡ Some job → needs_script job ≡ true → AsksForScript words
asks words job is needs = ap (option_map needs_script) is ∙ ap Some needs

pub asks_source : (words : List (List ℕ)) (job : Job) → job_of words ≡ Some job → needs_source job ≡ true → AsksForSource words
asks_source words job is needs = ap (option_map needs_source) is ∙ ap Some needs

-- how many bytes such a job reads
script_bytes : (job : Job) → needs_script job ≡ true → most_bytes job ≡ MOST_SCRIPT_BYTES
script_bytes (Run workers log) needs = refl
script_bytes (Gen count seed workers) needs = refl
script_bytes (Commitments workers log) needs = refl
script_bytes (Dump workers log) needs = refl
script_bytes Audit needs = cc

pub takes_asked : (words : List (List ℕ)) (job : Job) (most : ℕ) → job_of words ≡ Some job → most_bytes job ≡ most
    → (left left' : Option (List ℕ)) (status : ℕ) (bytes : List ℕ) → TakesAtMost most left left' status bytes
    → TakesAtMost (most_asked (job_of words)) left left' status bytes
takes_asked words job most is bytes_are left left' status bytes takes =
    subst (λ (n : ℕ). TakesAtMost n left left' status bytes) (sym (ap most_asked is ∙ bytes_are)) takes

pub takes_script_bytes : (words : List (List ℕ)) (job : Job) → job_of words ≡ Some job → needs_script job ≡ true
    → (left left' : Option (List ℕ)) (status : ℕ) (bytes : List ℕ) → TakesAtMost MOST_SCRIPT_BYTES left left' status bytes
    → TakesAtMost (most_asked (job_of words)) left left' status bytes
takes_script_bytes words job is needs = takes_asked words job MOST_SCRIPT_BYTES is (script_bytes job needs)

-- nothing was taken
pub takes_none : (most : ℕ) (left : Option (List ℕ)) (status : ℕ) → status ≢ 6 → TakesAtMost most left left status []
takes_none most left status other =
    (Consumes-nil left, omega arith, (λ is. absurd (other is), λ less. absurd (omega (arith, less))))

pub gives : (job : Job) (left left' : Option (List ℕ)) (bytes : List ℕ) (script : Script) → needs_script job ≡ true
    → ReadsScript left left' bytes script → GivesScript job left left' bytes script
gives (Run workers log) left left' bytes script needs reads = reads
gives (Gen count seed workers) left left' bytes script needs reads = cc
gives (Commitments workers log) left left' bytes script needs reads = reads
gives (Dump workers log) left left' bytes script needs reads = reads
gives Audit left left' bytes script needs reads = cc

pub did : (may : Answers) (job : Job) (left left' : Option (List ℕ)) (finish : Finish) (text : List ℕ) → needs_script job ≡ true
    → RanScript may job left left' finish text → Did may job left left' finish text
did may (Run workers log) left left' finish text needs ran = ran
did may (Gen count seed workers) left left' finish text needs ran = ran
did may (Commitments workers log) left left' finish text needs ran = ran
did may (Dump workers log) left left' finish text needs ran = ran
did may Audit left left' finish text needs ran = cc

pub offers : (job : Job) (left : Option (List ℕ)) → needs_script job ≡ true → HasInput job left → OffersScript left
offers (Run workers log) left needs has = has
offers (Gen count seed workers) left needs has = cc
offers (Commitments workers log) left needs has = has
offers (Dump workers log) left needs has = has
offers Audit left needs has = cc

pub needed : (test : Bool) (fact : Type 0) → test ≡ true → Where test fact → fact
needed true fact is given = given
needed false fact is given = cc

pub same_job : (job other : Job) → Some job ≡ Some other → job ≡ other
same_job job other same = cc

-- a run by so many lanes, under another name of their number
pub with_workers : (may : Answers) (script : Script) (capacity count workers : ℕ) (finish : Finish) → count ≡ workers
    → IsRun may script capacity count finish.log finish.results finish.ends finish.caused
    → IsRun may script capacity workers finish.log finish.results finish.ends finish.caused
with_workers may script capacity count workers finish same run =
    subst (λ (n : ℕ). IsRun may script capacity n finish.log finish.results finish.ends finish.caused) same run
