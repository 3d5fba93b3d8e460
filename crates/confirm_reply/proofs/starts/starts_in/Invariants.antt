use Rattle.std.proofs.Common.{◌≡◌, ◌++◌, drop}
use Rattle.confirm_reply.specs.Located.{starts_in}
use Rattle.confirm_reply.specs.Numbers.{numbered_trees}
use Rattle.confirm_reply.proofs.starts.starts_in.Given as goal

abbrev pub invariant-loop-at : goal.invariant-loop-at
invariant-loop-at l = l.starts.items ++ starts_in l.path (drop l.at l.items) (numbered_trees (drop l.at l.trees)) ≡ starts_in l.path l.views (numbered_trees l.trees)
