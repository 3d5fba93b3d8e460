use Rattle.std.proofs.Common.{◌≡◌, true}
use Rattle.ledger_terms.specs.declared.act.Act.{Act}
use Rattle.lang_eval.specs.Language.{has_roles}
use Rattle.authorise.proofs.Trees.{node_at}
use Rattle.authorise.proofs.authority.all_authorised.Goals as goal

pub authorised-requires : goal.authorised-requires
authorised-requires c =
    node_at (λ (child : Act). has_roles c.args.checked.now child.action ≡ true) _ _ _ c.loop-child-test.true c.child-item.is c.requires
