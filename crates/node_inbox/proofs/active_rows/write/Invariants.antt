use Rattle.std.proofs.Common.{◌≡◌, drop}
use Rattle.inbox_registry.specs.ChangeLists.{write_changes}
use Rattle.node_inbox.proofs.active_rows.write.Given as goal

abbrev pub invariant-loop-change : goal.invariant-loop-change
invariant-loop-change l = write_changes l.place (drop l.change-index l.changes) l.live ≡ write_changes l.fn.place l.fn.changes l.fn.live
