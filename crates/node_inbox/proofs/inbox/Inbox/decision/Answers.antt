use Rattle.std.proofs.Common.{sym, ap, ◌∙◌}
use Rattle.node_inbox.specs.Decided.{is_without_verdict}
use Rattle.node_inbox.specs.InboxState.{params_of}
use Rattle.node_inbox.proofs.Seen.{none_told}
use Rattle.node_inbox.proofs.inbox.Inbox.decision.Goals as goal

pub returns-then-is_without_verdict : goal.returns-then-is_without_verdict
returns-then-is_without_verdict c =
    sym (none_told (params_of c.args.self.now) c.args.self.now.items c.args.place
    (ap is_without_verdict (sym c.outcome.ensures) ∙ sym c.is_without_verdict.ensures ∙ c.if-is_without_verdict.true))
