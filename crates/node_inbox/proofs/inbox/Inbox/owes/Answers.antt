use Rattle.std.proofs.Common.{sym, ap, ◌∙◌}
use Rattle.std.specs.Prelude.{option_copied}
use Rattle.node_inbox.proofs.Owes.{owes_none, owes_some}
use Rattle.node_inbox.proofs.inbox.Inbox.owes.Goals as goal

pub returns-in-Some : goal.returns-in-Some
returns-in-Some c =
    rw (← c.self.view_is)
    (sym (owes_some c.self.inside.setup.now.topology c.self.inside.setup.now.checked c.self.inside.me c.self.inside.registry.start c.self.inside.items.items c.self.invariant.0.each
    c.args.place c.in-Some.kept.now (sym c.request_at.ensures ∙ ap option_copied c.in-Some.is)
    c.is_empty.result c.is_empty.ensures.0 c.is_empty.ensures.1))

pub returns-in-None : goal.returns-in-None
returns-in-None c =
    rw (← c.self.view_is)
    (sym (owes_none c.self.inside.setup.now.topology c.self.inside.setup.now.checked c.self.inside.me c.self.inside.registry.start c.self.inside.items.items c.self.invariant.0.each
    c.args.place (sym c.request_at.ensures ∙ ap option_copied c.in-None.is)))
