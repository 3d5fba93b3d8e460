use Rattle.std.proofs.Common.{◌≡◌, ◌-◌, length, drop}
use Rattle.lang_check.specs.Statements.{fit_from}
use Rattle.lang_check.proofs.statements.fit.Given as goal

abbrev pub invariant-kinds : goal.invariant-kinds
invariant-kinds l = fit_from l.at l.i (drop l.i l.kinds) (drop l.i l.decls) ≡ fit_from l.at 0 l.kinds l.decls

abbrev pub decreases-kinds : goal.decreases-kinds
decreases-kinds l = length l.kinds - l.i
