use Rattle.std.proofs.Common.{◌≡◌, ◌++◌}
use Rattle.canton_run.proofs.rounds.append.Given as goal

-- the results so far and those that are left are all
abbrev pub invariant-more : goal.invariant-more
invariant-more l = l.results ++ l.one-iterator.rest.items ≡ l.fn.results ++ l.fn.more
