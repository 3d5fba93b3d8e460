use Rattle.std.proofs.Common.{sym, ◌∙◌}
use Rattle.node_inbox.specs.InboxState.{params_of, reading_of}
use Rattle.log_audit.proofs.Knowing.{nothing_at}
use Rattle.log_audit.proofs.owing.owed_by.Goals as goal

pub returns-else-owes : goal.returns-else-owes
returns-else-owes c =
    let i = c.args.inbox.now in c.new.ensures ∙ nothing_at (reading_of i) (params_of i) i.me i.start i.items c.args.place (sym c.owes.ensures ∙ c.if-owes.false)
