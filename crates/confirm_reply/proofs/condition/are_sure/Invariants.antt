use Rattle.std.proofs.Common.{◌↔◌, drop}
use Rattle.std.specs.List.{AllByRecursion}
use Rattle.ledger_terms.specs.declared.act.Act.{Act}
use Rattle.confirm_reply.specs.Sure.{IsSure}
use Rattle.confirm_reply.specs.Nodes.{acts_of}
use Rattle.confirm_reply.proofs.condition.are_sure.Given as goal

-- the rest are so exactly where all are
abbrev pub invariant-loop-node : goal.invariant-loop-node
invariant-loop-node l =
    AllByRecursion (λ (act : Act). IsSure l.checked act.action) (acts_of (drop l.node-index l.nodes))
    ↔ AllByRecursion (λ (act : Act). IsSure l.checked act.action) (acts_of l.nodes)
