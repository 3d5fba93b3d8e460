use Rattle.std.proofs.Common.{◌∙◌}
use Rattle.contract_store.proofs.Maps.{there}
use Rattle.prepare_request.proofs.hosted_ids.HostedIds.contains.Goals as goal

pub returns : goal.returns
returns c = rw (← c.self.view_is) (c.contains_key.ensures ∙ there c.self.inside.ids c.args.id.now)
