use Rattle.std.proofs.Common.{◌≡◌}
use Rattle.load_gen.specs.Submissions.{transfers}
use Rattle.load_gen.proofs.submissions.generated_transfers.Given as goal

abbrev pub invariant-turns : goal.invariant-turns
invariant-turns l = l.transfers ≡ transfers l.turn
