use Rattle.std.proofs.Common.{◌≡◌, drop}
use Rattle.confirm_reply.specs.Located.{view_found_in}
use Rattle.confirm_reply.specs.Numbers.{numbered_trees}
use Rattle.confirm_reply.proofs.cores.found_at.Given as goal

abbrev pub invariant-loop-at : goal.invariant-loop-at
invariant-loop-at l = view_found_in l.path (drop l.at l.items) (numbered_trees (drop l.at l.trees)) ≡ view_found_in l.path l.views (numbered_trees l.trees)
