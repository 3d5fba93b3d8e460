use Rattle.std.proofs.Common.{◌∙◌}
use Rattle.ledger_model.specs.Forest.{acts}
use Rattle.interpret.specs.NamedParties.{parties_in_act}
use Rattle.view_split.specs.Placed.{placed_forest}
use Rattle.view_split.specs.SeenViews.{put_back}
use Rattle.sealed_form.specs.Within.{is_hosted}
use Rattle.proto_model.proofs.Named.{all_flat}
use Rattle.proto_model.proofs.naming.names_known.Goals as goal

pub returns : goal.returns
returns c =
    rw (c.as_slice.ensures.value, c.in_ok-found.ensures) at c.are_actions_known.ensures
    ∙ all_flat (is_hosted c.args.topology.now) parties_in_act (acts (put_back (placed_forest c.args.tree.now.views)))
