use Rattle.std.proofs.Common.{◌≡◌, ◌++◌, map}
use Rattle.canton_run.specs.Restarts.{view_in}
use Rattle.canton_run.proofs.views.views_of.Given as goal

-- the views so far and those of the nodes that are left are all
abbrev pub invariant-nodes : goal.invariant-nodes
invariant-nodes l = l.views ++ map (view_in l.rounds) l.node-iterator.rest.items ≡ map (view_in l.rounds) l.fn.nodes.items
