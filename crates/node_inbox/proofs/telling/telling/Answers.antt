use Rattle.std.proofs.Common.{Some, refl, sym, ap, ◌∙◌}
use Rattle.std.specs.Prelude.{option_copied}
use Rattle.node_inbox.specs.Coming.{is_told}
use Rattle.node_inbox.proofs.Seen.{tells_first, tells_later}
use Rattle.node_inbox.proofs.telling.telling.Goals as goal

pub returns-then-is_told-clause-some : goal.returns-then-is_told-clause-some
returns-then-is_told-clause-some c =
    tells_later c.args.setup.now.topology c.args.setup.now.checked c.args.me c.args.items.now.items c.args.registry.now c.requires c.args.verdict.now c.in-Some.kept.now _
    (sym c.request_at.ensures ∙ ap option_copied c.in-Some.is) (ap is_told (sym c.outcome.ensures) ∙ sym c.is_told.ensures ∙ c.if-is_told.true)
    c.in_ok-told.ensures refl c.new.ensures.items

pub returns-clause-some : goal.returns-clause-some
returns-clause-some c =
    tells_first c.args.setup.now.topology c.args.setup.now.checked c.args.me c.args.items.now.items c.args.registry.now c.requires c.args.verdict.now c.in-Some.kept.now _
    (sym c.request_at.ensures ∙ ap option_copied c.in-Some.is) (ap is_told (sym c.outcome.ensures) ∙ sym c.is_told.ensures ∙ c.if-is_told.false)
    c.in_ok-told.ensures (ap Some c.outcome_by.ensures) (rw (c.as_slice.ensures.value) at c.in_ok-changes.ensures)
