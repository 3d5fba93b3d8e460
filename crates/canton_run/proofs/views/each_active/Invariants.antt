use Rattle.std.proofs.Common.{◌≡◌, ◌++◌, drop, map}
use Rattle.canton_run.specs.Actives.{own_active}
use Rattle.canton_run.proofs.views.each_active.Given as goal

-- the lists so far and those of the nodes that are left are all
abbrev pub invariant-loop-node : goal.invariant-loop-node
invariant-loop-node l = l.actives ++ map own_active (drop l.node-index l.nodes) ≡ map own_active l.nodes
