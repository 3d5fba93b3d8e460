use Rattle.std.proofs.Common.{◌≡◌, drop}
use Rattle.interpret.specs.Commands.{referenced_values}
use Rattle.interpret.proofs.NamedValues.{behind}
use Rattle.interpret.proofs.references.referenced_values.Given as goal

abbrev pub invariant-loop-arg : goal.invariant-loop-arg
invariant-loop-arg g l =
    behind l.values (referenced_values (g.K.KnownContracts.rows l.known) (drop l.arg-index l.arg-items))
    ≡ referenced_values (g.K.KnownContracts.rows l.known) l.args
