use Rattle.proto_model.proofs.Noticed.{some_path}
use Rattle.proto_model.proofs.notice.is_some_path.Goals as goal

pub returns : goal.returns
returns c = some_path c.args.paths.now c.is_empty.result c.is_empty.ensures.0 c.is_empty.ensures.1
