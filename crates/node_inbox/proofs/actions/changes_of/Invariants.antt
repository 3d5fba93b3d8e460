use Rattle.std.proofs.Common.{◌≡◌, ◌++◌, drop, filter, map}
use Rattle.inbox_registry.specs.ChangeLists.{change_of}
use Rattle.node_inbox.specs.Acts.{is_authentic_change}
use Rattle.node_inbox.proofs.actions.changes_of.Given as goal

abbrev pub invariant-loop-act : goal.invariant-loop-act
invariant-loop-act l = l.changes.items ++ map change_of (filter is_authentic_change (drop l.act-index l.found)) ≡ map change_of (filter is_authentic_change l.found)
