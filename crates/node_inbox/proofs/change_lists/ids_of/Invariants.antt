use Rattle.std.proofs.Common.{◌≡◌, ◌++◌, drop, map}
use Rattle.inbox_registry.specs.ChangeLists.{id_in}
use Rattle.node_inbox.proofs.change_lists.ids_of.Given as goal

abbrev pub invariant-loop-change : goal.invariant-loop-change
invariant-loop-change l = l.ids ++ map id_in (drop l.change-index l.changes) ≡ map id_in l.changes
