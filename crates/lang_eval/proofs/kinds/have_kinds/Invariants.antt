use Rattle.std.proofs.Common.{◌≡◌, drop}
use Rattle.lang_eval.specs.Kinds.{have_kinds}
use Rattle.lang_eval.proofs.kinds.have_kinds.Given as goal

abbrev pub invariant-loop-at : goal.invariant-loop-at
invariant-loop-at l = have_kinds (drop l.at l.values) (drop l.at l.decls) ≡ have_kinds l.values l.decls
