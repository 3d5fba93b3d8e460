use Rattle.std.proofs.Common.{◌≡◌, filter, take}
use Rattle.node_core.specs.Duties.{is_done}
use Rattle.node_core.proofs.duties.Duties.done.Given as goal

abbrev pub invariant-loop-place : goal.invariant-loop-place
invariant-loop-place l = l.done ≡ filter (is_done l.from l.self) (take l.place-index l.self.owed)
