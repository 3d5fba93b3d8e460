use Rattle.std.proofs.Common.{◌≡◌, ◌-◌, length, drop}
use Rattle.lang_eval.specs.Names.{with_fields}
use Rattle.lang_eval.specs.Spellings.{owner_word}
use Rattle.lang_eval.proofs.body.bind_fields.Given as goal

abbrev pub invariant-loop-at : goal.invariant-loop-at
invariant-loop-at l = with_fields (owner_word l.owner) (drop l.at l.decls) (drop l.at l.values) l.names ≡ with_fields (owner_word l.owner) l.decls l.values l.fn.names

abbrev pub decreases-loop-at : goal.decreases-loop-at
decreases-loop-at l = length l.decls - l.at
