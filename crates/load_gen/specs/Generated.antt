-- Generated scripts: debts in one round, and their transfers in the next.
use Rattle.std.specs.Prelude.{ℕ, false, List, [], ◌∷◌}
use Rattle.ledger_terms.specs.declared.submission.Submission.{Submission}
use Rattle.script_read.specs.declared.round.Round.{Round}
use Rattle.script_read.specs.declared.script.Script.{Script}
use Rattle.load_gen.specs.Scripts.{hosts, params, packages}
use Rattle.load_gen.specs.Submissions.{debts, transfers}

-- A round with these submissions, as a generated script has two: nobody restarts or is paused in it, no verdict is held back, the time isn't moved, and
-- no raw request is handed in.
abbrev pub round_of : List Submission → Round
round_of submits = record { advance = 0; paused = []; hold_verdicts = false; submits = submits; raws = []; restarts = [] }

-- The script of a seed, from which its amounts come, and of `count` debts, which one round creates and the next one transfers. It has no rules.
abbrev pub generated : ℕ → ℕ → Script
generated seed count =
    record {
      topology = record { hosts = hosts; params = params };
      checked = packages;
      triggers = [];
      rounds = round_of (debts seed count) ∷ round_of (transfers count) ∷ [];
    }
