-- The limits that the numbers of a job keep.
use Rattle.std.specs.Prelude.{◌≤◌}
use Rattle.ledger_terms.specs.declared.limits.TheConstants.{MOST_PLACES}
use Rattle.cli_words.specs.declared.limits.TheConstants.{MOST_WORKERS, MOST_COUNT, MOST_SEED}
use Rattle.cli_words.specs.declared.job.Job.{Job}
use Rattle.cli_words.specs.declared.job.Job.TheVariants.{Run, Gen, Commitments, Dump, Audit}
use Rattle.cli_words.specs.declared.run_options.RunOptions.{RunOptions}

-- the options of a job on the source's script are within their limits: at most 8 workers, and a log of 1 place to the most that there may be
abbrev pub AreWithin : RunOptions → Type 0
AreWithin options = (options.workers ≤ MOST_WORKERS) × (1 ≤ options.log) × (options.log ≤ MOST_PLACES)

-- the numbers of a job are within their limits; an audit has none
abbrev pub IsWithin : Job → Type 0
IsWithin (Run workers log) = AreWithin (record { workers = workers; log = log })
IsWithin (Gen count seed workers) = (1 ≤ count) × (count ≤ MOST_COUNT) × (seed ≤ MOST_SEED) × (workers ≤ MOST_WORKERS)
IsWithin (Commitments workers log) = AreWithin (record { workers = workers; log = log })
IsWithin (Dump workers log) = AreWithin (record { workers = workers; log = log })
IsWithin Audit = Unit {0}
