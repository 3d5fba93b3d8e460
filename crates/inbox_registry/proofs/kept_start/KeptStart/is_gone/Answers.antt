use Rattle.std.proofs.Common.{◌∙◌}
use Rattle.contract_store.proofs.Maps.{there}
use Rattle.inbox_registry.proofs.IdSets.{any_turned}
use Rattle.inbox_registry.proofs.kept_start.KeptStart.is_gone.Goals as goal

pub returns : goal.returns
returns c = rw (← c.self.view_is) (c.contains_key.ensures ∙ there c.self.inside.gone c.args.id.now ∙ any_turned c.args.id.now _)
