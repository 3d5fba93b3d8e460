use Rattle.std.proofs.Common.{◌≡◌, ◌-◌, length, drop}
use Rattle.lang_eval.specs.Names.{value_named}
use Rattle.lang_eval.proofs.bound_fields.value_named.Given as goal

abbrev pub invariant-loop-at : goal.invariant-loop-at
invariant-loop-at l = value_named l.name (drop l.at l.decls) (drop l.at l.values) ≡ value_named l.name l.decls l.values

abbrev pub decreases-loop-at : goal.decreases-loop-at
decreases-loop-at l = length l.decls - l.at
