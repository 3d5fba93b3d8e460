use Rattle.inbox_registry.proofs.IdSets.{keys_pushed}
use Rattle.inbox_registry.proofs.kept_start.push_id.Goals as goal

pub returns : goal.returns
returns c = keys_pushed c.args.ids.now c.insert.new.self c.args.id _ c.in_ok-insert.ensures.entries c.requires
