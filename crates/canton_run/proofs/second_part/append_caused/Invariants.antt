use Rattle.std.proofs.Common.{◌≡◌, ◌++◌}
use Rattle.canton_run.proofs.second_part.append_caused.Given as goal

-- what was caused so far and what is left are all
abbrev pub invariant-more : goal.invariant-more
invariant-more l = l.caused ++ l.one-iterator.rest.items ≡ l.fn.caused ++ l.fn.more
