use Rattle.std.proofs.Common.{◌≡◌, subst}
use Rattle.std.specs.Prelude.{OnOk}
use Rattle.canton_model.specs.Inbox.{Content}
use Rattle.node_inbox.specs.InboxState.{with_item}
use Rattle.node_inbox.specs.Reads.{item_with}
use Rattle.node_inbox.proofs.Came.{told_again}
use Rattle.node_inbox.proofs.inbox.Inbox.tell_again.Goals as goal

pub returns-clause-ok : goal.returns-clause-ok
returns-clause-ok c =
    let now = c.args.self.now in
    subst (λ (content : Content). OnOk c.read_verdict.result (c.read_verdict.new.self ≡ with_item now (item_with c.args.time content)))
    (told_again now.items c.args.verdict.now c.requires.received) c.read_verdict.ensures.ok
