use Rattle.std.proofs.Common.{◌≡◌, ◌-◌, length, drop}
use Rattle.ledger_terms.specs.Parties.{same_name}
use Rattle.lang_eval.proofs.short_text.is_same_text.Given as goal

-- what is left is the same exactly where the whole is
abbrev pub invariant-loop-at : goal.invariant-loop-at
invariant-loop-at l = same_name (drop l.at l.one) (drop l.at l.other) ≡ same_name l.one l.other

abbrev pub decreases-loop-at : goal.decreases-loop-at
decreases-loop-at l = length l.one - l.at
