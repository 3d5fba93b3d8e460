use Rattle.std.proofs.Common.{◌∙◌}
use Rattle.lang_eval.specs.Named.{parties_in_value}
use Rattle.sealed_form.specs.Within.{is_hosted}
use Rattle.proto_model.proofs.Named.{all_flat}
use Rattle.proto_model.proofs.naming.are_values_known.Goals as goal

pub returns : goal.returns
returns c = c.is_each_known.ensures ∙ all_flat (is_hosted c.args.topology.now) parties_in_value c.args.values.now
