use Rattle.std.proofs.Common.{◌≡◌, drop}
use Rattle.interpret.specs.Commands.{args_have_kinds}
use Rattle.interpret.proofs.interpretation.args_have_kinds.Given as goal

abbrev pub invariant-loop-at : goal.invariant-loop-at
invariant-loop-at l = args_have_kinds (drop l.at l.args) (drop l.at l.decls) ≡ args_have_kinds l.args l.decls
