use Rattle.std.proofs.Common.{◌∙◌}
use Rattle.node_inbox.proofs.KeptItems.{time_kept}
use Rattle.node_inbox.proofs.items.time_at.Goals as goal

pub returns : goal.returns
returns c = c.time.ensures ∙ time_kept c.args.items.now.items c.args.place
