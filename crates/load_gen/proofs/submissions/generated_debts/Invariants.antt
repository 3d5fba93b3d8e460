use Rattle.std.proofs.Common.{◌≡◌}
use Rattle.load_gen.specs.Numbers.{number}
use Rattle.load_gen.specs.Submissions.{debts}
use Rattle.load_gen.proofs.submissions.generated_debts.Given as goal

abbrev pub invariant-turns : goal.invariant-turns
invariant-turns l = (l.debts ≡ debts l.seed l.turn) × (l.number ≡ number l.seed l.turn)
