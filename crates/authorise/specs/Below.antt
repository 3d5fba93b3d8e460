-- Who authorises the consequences of an action.
use Rattle.std.specs.Prelude.{Bool}
use Rattle.std.specs.List.{list_all}
use Rattle.ledger_terms.specs.declared.action.Action.{Action}
use Rattle.ledger_terms.specs.declared.act.Act.{Act}
use Rattle.ledger_terms.specs.Forest.{Forest, roots_of}
use Rattle.ledger_model.specs.declared.roles.Roles.{Roles}
use Rattle.ledger_model.specs.Authority.{is_authorised, authorisers_below}

-- Whether each direct consequence of the action is authorised by its actors and the signatories of its contract. The first argument gives the roles
-- of an action; it is true where there are no consequences.
abbrev pub are_authorised_below : (Action → Roles) → Action → Forest Act → Bool
are_authorised_below roles action consequences =
    list_all (λ (child : Act). is_authorised roles (authorisers_below roles action) child.action) (roots_of consequences)
