use Rattle.std.proofs.Common.{◌≡◌, drop}
use Rattle.lang_eval.specs.Names.{binding_of, value_bound}
use Rattle.lang_eval.proofs.bindings.made_value.Given as goal

abbrev pub invariant-loop-binding : goal.invariant-loop-binding
invariant-loop-binding l = value_bound (binding_of l.name (drop l.binding-index l.made)) ≡ value_bound (binding_of l.name l.made)
