use Rattle.std.proofs.Common.{◌≡◌, ◌≤◌, false, take, length}
use Rattle.std.specs.List.{list_any}
use Rattle.node_core.specs.Duties.{is_free}
use Rattle.node_core.proofs.duties.passed_now.Given as goal

abbrev pub invariant-loop-at : goal.invariant-loop-at
invariant-loop-at g l =
    (l.at ≤ length l.owed) × (list_any (is_free (g.D.Decisions.decided l.decisions) l.claimed.keys) (take l.at l.owed) ≡ false)
