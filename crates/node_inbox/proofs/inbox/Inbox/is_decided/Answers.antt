use Rattle.std.proofs.Common.{ap, ◌∙◌}
use Rattle.node_inbox.specs.Decided.{is_closed}
use Rattle.node_inbox.specs.InboxState.{params_of}
use Rattle.node_inbox.proofs.Seen.{closed_is}
use Rattle.node_inbox.proofs.inbox.Inbox.is_decided.Goals as goal

pub returns : goal.returns
returns c = c.is_decided.ensures ∙ ap is_closed c.outcome.ensures ∙ closed_is (params_of c.args.self.now) c.args.self.now.items c.args.place
