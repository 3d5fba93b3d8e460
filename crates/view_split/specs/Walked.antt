-- What a walk over trees adds to a view.
use Rattle.std.specs.Prelude.{◌≡◌, List, ℕ, Option}
use Rattle.ledger_terms.specs.Forest.{Forest, join}
use Rattle.ledger_terms.specs.Parties.{with_parties}
use Rattle.ledger_terms.specs.declared.act.Act.{Act}
use Rattle.ledger_terms.specs.Trees.{ActionNode}
use Rattle.ledger_terms.specs.declared.action.Action.{Action}
use Rattle.ledger_model.specs.declared.roles.Roles.{Roles}
use Rattle.lang_eval.specs.Found.{Packages}
use Rattle.view_split.specs.Holed.{Holed, beside, inner}
use Rattle.view_split.specs.Split.{confirmers_in, core_of, split_below}
use Rattle.view_split.specs.Faults.{fault_at}
use Rattle.view_split.specs.declared.begun.Begun.{Begun}

-- A walk over these trees makes of the begun view `old`, which stands above them, the view `new`: confirmers come to its own, views to those below it,
-- and children to those of the action directly above the trees, which were `before` and are `after`.
pub record IsWalked (roles : Action → Roles) (trees : Forest Act) (old new : Begun) (before after : Holed Act) : Type 0 where
  pub informees : new.informees ≡ old.informees
  pub confirmers : new.confirmers ≡ with_parties (confirmers_in roles (inner (core_of roles old.informees trees))) old.confirmers
  pub subviews : new.subviews ≡ join old.subviews (split_below roles old.informees trees)
  pub children : after ≡ beside before (core_of roles old.informees trees)

-- The path of the first action without roles in this node's tree, whose root has the given path; None where all have roles.
abbrev pub node_fault : Packages → List ℕ → ActionNode → Option (List ℕ)
node_fault packages path node = fault_at packages path node.root node.below
