use Rattle.std.proofs.Common.{ap, ◌∙◌}
use Rattle.node_inbox.specs.Approved.{roots_kept}
use Rattle.node_inbox.proofs.Seen.{opened_is, with_changes}
use Rattle.node_inbox.proofs.applied.opened_at.Goals as goal

pub returns-clause-exact : goal.returns-clause-exact
returns-clause-exact c = ap roots_kept c.request_at.ensures ∙ opened_is c.args.items.now.items c.args.place

pub returns-clause-changes : goal.returns-clause-changes
returns-clause-changes c = with_changes c.args.items.now.items c.args.place c.request_at.result c.requires c.request_at.ensures
