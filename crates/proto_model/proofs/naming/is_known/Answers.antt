use Rattle.std.proofs.Common.{◌∙◌, sym}
use Rattle.framed_form.proofs.FramedParts.{hosted_where_listed}
use Rattle.proto_model.proofs.naming.is_known.Goals as goal

pub returns : goal.returns
returns c = c.is_listed.ensures ∙ sym (hosted_where_listed c.args.topology.now.hosts c.args.party)
