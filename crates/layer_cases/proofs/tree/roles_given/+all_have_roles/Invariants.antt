use Rattle.std.proofs.Common.{◌≡◌, true, drop}
use Rattle.std.specs.List.{AllByRecursion}
use Rattle.ledger_terms.specs.Forest.{preorder}
use Rattle.ledger_terms.specs.Grown.{forest_of, node_count}
use Rattle.ledger_terms.specs.declared.act.Act.{Act}
use Rattle.lang_eval.specs.Language.{has_roles}
use Rattle.layer_cases.proofs.tree.roles_given.+all_have_roles.Given as goal

-- where the rest have roles, all do
abbrev pub invariant-loop-node : goal.invariant-loop-node
invariant-loop-node l =
    AllByRecursion (λ (a : Act). has_roles l.checked a.action ≡ true) (preorder (forest_of (drop l.node-index l.node-items)))
    → AllByRecursion (λ (a : Act). has_roles l.checked a.action ≡ true) (preorder l.roots)

abbrev pub decreases-all_have_roles : goal.decreases-all_have_roles
decreases-all_have_roles l = node_count l.roots.now
