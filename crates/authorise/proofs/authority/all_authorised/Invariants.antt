use Rattle.std.proofs.Common.{◌≡◌, drop}
use Rattle.std.specs.List.{list_all}
use Rattle.ledger_terms.specs.Forest.{roots_of}
use Rattle.ledger_terms.specs.Grown.{forest_of}
use Rattle.ledger_terms.specs.declared.act.Act.{Act}
use Rattle.ledger_model.specs.Authority.{is_authorised}
use Rattle.lang_eval.specs.Language.{roles_in}
use Rattle.authorise.proofs.authority.all_authorised.Given as goal

abbrev pub invariant-loop-child : goal.invariant-loop-child
invariant-loop-child l =
    list_all (λ (child : Act). is_authorised (roles_in l.checked) l.by child.action) (roots_of (forest_of (drop l.child-index l.children)))
    ≡ list_all (λ (child : Act). is_authorised (roles_in l.checked) l.by child.action) (roots_of (forest_of l.children))
