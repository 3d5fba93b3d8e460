use Rattle.std.proofs.Common.{◌≡◌, true, drop}
use Rattle.std.specs.List.{AllByRecursion}
use Rattle.ledger_terms.specs.Forest.{roots_of}
use Rattle.ledger_terms.specs.Grown.{forest_of}
use Rattle.ledger_terms.specs.declared.act.Act.{Act}
use Rattle.lang_eval.specs.Language.{has_roles}
use Rattle.layer_cases.proofs.tree.roles_given.children_have_roles.Given as goal

-- where the rest have roles, all do
abbrev pub invariant-loop-node : goal.invariant-loop-node
invariant-loop-node l =
    AllByRecursion (λ (child : Act). has_roles l.checked child.action ≡ true) (roots_of (forest_of (drop l.node-index l.nodes)))
    → AllByRecursion (λ (child : Act). has_roles l.checked child.action ≡ true) (roots_of (forest_of l.nodes))
