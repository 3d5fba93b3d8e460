-- How a transaction is split into views, and how views are put back.
use Rattle.std.specs.Prelude.{List, ◌∷◌, if◌then◌else◌, flat_map}
use Rattle.ledger_terms.specs.Parties.{set_of}
use Rattle.ledger_terms.specs.declared.act.Act.{Act}
use Rattle.ledger_terms.specs.Forest.{Forest, NoRoots, Root, join}
use Rattle.ledger_terms.specs.declared.action.Action.{Action}
use Rattle.ledger_model.specs.Terms.{PartySet}
use Rattle.ledger_model.specs.declared.roles.Roles.{Roles}
use Rattle.ledger_model.specs.Views.{its_informees, starts}
use Rattle.view_split.specs.Holed.{Holed, NoMore, Inner, Hole, inner, fill}
use Rattle.view_split.specs.declared.split_view.SplitView.{SplitView}

-- the actions of a view's core, in pre-order
abbrev pub core_acts : SplitView → List Act
core_acts view = view.first ∷ inner view.below

-- the confirmers of these actions one after another, with repetitions
abbrev pub confirmers_in : (Action → Roles) → List Act → PartySet
confirmers_in roles core = flat_map (λ (act : Act). (roles act.action).confirmers) core

-- What of these trees is in the core of a view with these informees, which stands above them: an action that starts a view of its own leaves a hole.
abbrev pub core_of : (Action → Roles) → PartySet → Forest Act → Holed Act
core_of roles enclosing NoRoots = NoMore
core_of roles enclosing (Root act consequences others) =
    if starts roles enclosing act
    then Hole (core_of roles enclosing others)
    else Inner act (core_of roles enclosing consequences) (core_of roles enclosing others)

-- The view that this action starts, with the trees below it. Its informees are the action's, and its confirmers those of all actions of its core, as a
-- set.
abbrev pub view_at : (Action → Roles) → Act → Forest Act → SplitView
view_at roles act consequences =
    let below = core_of roles (its_informees roles act) consequences in
    record {
      informees = its_informees roles act;
      confirmers = set_of (confirmers_in roles (act ∷ inner below));
      first = act;
      below = below;
    }

-- The topmost views that start among these trees, which stand below a view with these informees, each with the views below it.
abbrev pub split_below : (Action → Roles) → PartySet → Forest Act → Forest SplitView
split_below roles enclosing NoRoots = NoRoots
split_below roles enclosing (Root act consequences others) =
    if starts roles enclosing act
    then Root (view_at roles act consequences) (split_below roles (its_informees roles act) consequences) (split_below roles enclosing others)
    else join (split_below roles enclosing consequences) (split_below roles enclosing others)

-- The views of a transaction's trees. Each root starts one. The first argument gives an action's roles.
abbrev pub split : (Action → Roles) → Forest Act → Forest SplitView
split roles NoRoots = NoRoots
split roles (Root act consequences others) =
    Root (view_at roles act consequences) (split_below roles (its_informees roles act) consequences) (split roles others)

-- The actions that views are put back to: each view becomes the tree of its first action, where the trees of the views below it fill its holes.
abbrev pub assembled : Forest SplitView → Forest Act
assembled NoRoots = NoRoots
assembled (Root view subviews others) = Root view.first (fill view.below (assembled subviews)) (assembled others)
