use Rattle.std.proofs.Common.{sym, ap, ◌∙◌}
use Rattle.std.specs.Prelude.{option_copied, slice_get}
use Rattle.node_inbox.proofs.KeptItems.{none_kept, request_kept}
use Rattle.node_inbox.proofs.items.request_at.Goals as goal

pub returns-in-Some : goal.returns-in-Some
returns-in-Some c =
    c.request_in.ensures
    ∙ sym (request_kept (slice_get c.args.items.now.items c.args.place) c.in-Some.content.now (sym c.content.ensures ∙ ap option_copied c.in-Some.is))

pub returns-in-None : goal.returns-in-None
returns-in-None c = sym (none_kept (slice_get c.args.items.now.items c.args.place) (sym c.content.ensures ∙ ap option_copied c.in-None.is))
