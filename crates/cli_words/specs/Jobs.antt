-- The job that words ask for: `run [--workers N] [--log N]`, `commitments [--workers N] [--log N]`, `dump [--workers N] [--log N]`,
-- `audit` or `gen COUNT SEED [--workers N]`.
use Rattle.std.specs.Prelude.{ℕ, Bool, ◌&&◌, List, [], ◌∷◌, length, Option, Some, None, if◌then◌else◌, nat_le, option_map, codes}
use Rattle.std.specs.Borrow.{Bor}
use Rattle.std.specs.List.{list_all}
use Rattle.std.specs.Str.{bytes_eq}
use Rattle.std.specs.Str.Parse.{digits_value}
use Rattle.std.specs.Char.{is_ascii_digit}
use Rattle.ledger_terms.specs.declared.limits.TheConstants.{MOST_PLACES}
use Rattle.cli_words.specs.Arguments.{Text, Argument, text_of, arguments_of}
use Rattle.cli_words.specs.declared.limits.TheConstants.{MOST_DIGITS, MOST_WORKERS, MOST_COUNT, MOST_SEED}
use Rattle.cli_words.specs.declared.job.Job.{Job}
use Rattle.cli_words.specs.declared.job.Job.TheVariants.{Run, Gen, Commitments, Dump, Audit}
use Rattle.cli_words.specs.declared.run_options.RunOptions.{RunOptions}

infixl 10 ◌>>=◌
-- goes on with the value of an Option by the function f, and stops at None
abbrev pub ◌>>=◌ : {A B : Type 0} → Option A → (A → Option B) → Option B
Some a >>= f = f a
None >>= f = None

-- ---- numbers

-- the text that a reference points to; None of no reference. By it contracts say of code's texts what the definitions say of texts
abbrev pub text_now : Option (Bor Text) → Option Text
text_now = option_map (λ (s : Bor Text). s.now)

-- whether a text has 1 to 20 decimal digits and no other byte
abbrev pub is_number : Text → Bool
is_number text = nat_le 1 (length text) && nat_le (length text) MOST_DIGITS && list_all is_ascii_digit text

-- The number that a text writes, where it is from `low` to `high`; None where it is outside, or the text is no number as `is_number` has it.
unfoldable pub number_in : ℕ → ℕ → Text → Option ℕ
number_in low high text =
    if is_number text && nat_le low (digits_value 10 text) && nat_le (digits_value 10 text) high then Some (digits_value 10 text) else None

-- The number of an argument that may be left out, which is `default` then; None where its text writes no number from `low` to `high`.
abbrev pub number_or : ℕ → ℕ → ℕ → Option Text → Option ℕ
number_or default low high None = Some default
number_or default low high (Some text) = number_in low high text

-- The number of an argument that may not be left out; None where it is, or its text writes no number from `low` to `high`.
abbrev pub number_of : ℕ → ℕ → Option Text → Option ℕ
number_of low high None = None
number_of low high (Some text) = number_in low high text

-- nothing, as a Some, for an argument that mustn't be given and isn't; None, which is a fault, where it is given
abbrev pub absent : Option Text → Option (Unit {0})
absent None = Some tt
absent (Some text) = None

-- ---- jobs

-- the texts of the arguments, None for one that isn't given
pub record Given : Type 0 where
  pub workers : Option Text
  pub log : Option Text
  pub count : Option Text
  pub seed : Option Text

-- the text of each argument in a list of arguments with their texts
abbrev pub given_in : List Argument → Given
given_in given =
    record {
      workers = text_of (codes "workers") given;
      log = text_of (codes "log") given;
      count = text_of (codes "count") given;
      seed = text_of (codes "seed") given;
    }

-- the texts that the words give the arguments; None where the words are at fault
unfoldable pub given_of : List Text → Option Given
given_of words = option_map given_in (arguments_of words)

-- The options of a job on the source's script; left out, they are 0 workers and a log of MOST_PLACES. None where the text of one writes no number
-- within its limits, or a count or a seed is given.
unfoldable pub options_of : Given → Option RunOptions
options_of given = do
  _ ← absent given.count
  _ ← absent given.seed
  workers ← number_or 0 0 MOST_WORKERS given.workers
  log ← number_or MOST_PLACES 1 MOST_PLACES given.log
  Some (record { workers = workers; log = log })

-- the job `run` with these arguments, None where they are at fault
unfoldable pub run_of : Given → Option Job
run_of given = do
  options ← options_of given
  Some (Run options.workers options.log)

-- the job `commitments` with these arguments, None where they are at fault
unfoldable pub commitments_of : Given → Option Job
commitments_of given = do
  options ← options_of given
  Some (Commitments options.workers options.log)

-- the job `dump` with these arguments, None where they are at fault
unfoldable pub dump_of : Given → Option Job
dump_of given = do
  options ← options_of given
  Some (Dump options.workers options.log)

-- The job `audit`, which takes no argument: None where one is given.
unfoldable pub audit_of : Given → Option Job
audit_of given = do
  _ ← absent given.workers
  _ ← absent given.log
  _ ← absent given.count
  _ ← absent given.seed
  Some Audit

-- The job `gen` with its count, its seed and its workers, None where an argument is at fault.
unfoldable pub gen_of : Given → Option Job
gen_of given = do
  _ ← absent given.log
  count ← number_of 1 MOST_COUNT given.count
  seed ← number_of 0 MOST_SEED given.seed
  workers ← number_or 0 0 MOST_WORKERS given.workers
  Some (Gen count seed workers)

-- The job of the command with this name and these arguments; None where there is no such command or its arguments are at fault.
abbrev pub job_by : Text → Given → Option Job
job_by command given =
    if bytes_eq command (codes "run") then run_of given
    else if bytes_eq command (codes "commitments") then commitments_of given
    else if bytes_eq command (codes "dump") then dump_of given
    else if bytes_eq command (codes "audit") then audit_of given
    else if bytes_eq command (codes "gen") then gen_of given
    else None

-- The job that the words ask for, of which the first is the command; the program's name isn't among them. None where there is no word or they are at
-- fault.
unfoldable pub job_of : List Text → Option Job
job_of [] = None
job_of (command ∷ words) = given_of words >>= job_by command
