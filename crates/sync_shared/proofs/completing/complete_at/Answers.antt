use Rattle.std.proofs.Common.{◌≡◌, sym, ap, ◌∙◌, subst, arith}
use mathlib.Core.List.{IsPrefix}
use Rattle.ledger_model.specs.Terms.{ParticipantId}
use Rattle.sync_shared.specs.Clients.{IsRequestBy, TicketValue}
use Rattle.sync_shared.proofs.completing.complete_at.Goals as goal

pub completion_of-requires : goal.completion_of-requires
completion_of-requires g c =
    let same = c.in_ok-read_past.ensures.same.1 in
    let ticket = c.read_past.new.ticket in
    let me : ticket.me ≡ g.row.I = ap (λ (t : TicketValue). t.me) same ∙ c.requires.ticket.1 in
    let begins = subst (λ (t : TicketValue). IsPrefix t.list c.read_past.new.node) (sym same) c.in_ok-read_past.ensures.ticket in
    let place : c.place.result ≡ c.args.ticket.now.place = c.place.ensures.place ∙ ap (λ (t : TicketValue). t.place) same in
    let base = c.requires.base in (
      omega arith,
      (
        omega (arith, place, base),
        (
          ticket.list,
          subst (IsPrefix ticket.list) (sym c.deref.ensures) begins,
          subst (λ (i : ParticipantId). IsRequestBy i c.place.result ticket.list) me c.place.ensures.request,
        ),
      ),
    )
