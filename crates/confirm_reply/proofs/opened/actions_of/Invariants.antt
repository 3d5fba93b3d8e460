use Rattle.std.proofs.Common.{◌≡◌, ◌++◌, drop}
use Rattle.confirm_reply.specs.Nodes.{acts_of}
use Rattle.confirm_reply.proofs.opened.actions_of.Given as goal

abbrev pub invariant-loop-node : goal.invariant-loop-node
invariant-loop-node l = l.acts.items ++ acts_of (drop l.node-index l.nodes) ≡ acts_of l.nodes
