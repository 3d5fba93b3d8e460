use Rattle.std.proofs.Common.{◌≡◌, true, false, length, sym, ap, ◌∙◌, subst, arith}
use Rattle.canton_model.specs.Inbox.{inbox}
use Rattle.world_model.specs.Node.{read_entry}
use Rattle.node_inbox.specs.Entries.{item_from}
use Rattle.node_inbox.specs.InboxState.{reading_of}
use Rattle.node_core.specs.Duties.{state_of}
use Rattle.node_core.specs.Participant.{CanRead, IsPrunedTo, Participant, with_state, reading_of as reads}
use Rattle.node_core.proofs.NextItem.{belong_if_not, belong_if_owed, owed_before}
use Rattle.node_core.proofs.ReadSteps.{framed_here, participant_of, pruned_is, rises_here, state_is}
use Rattle.node_core.proofs.node.Node.read.Goals as goal

pub read-requires-clause-rises : goal.read-requires-clause-rises
read-requires-clause-rises c =
    let can = subst (λ (p : Participant). CanRead p c.args.slip.now.list) (sym c.self.view_is) c.requires in
    rises_here c.self.inside.inbox c.self.inside.is_paused c.self.inside.duties c.args.slip.now.list can c.entry.result.now
    (c.entry.ensures _ can.cursor)

pub read-requires-clause-framed : goal.read-requires-clause-framed
read-requires-clause-framed c =
    let can = subst (λ (p : Participant). CanRead p c.args.slip.now.list) (sym c.self.view_is) c.requires in
    framed_here c.self.inside.inbox c.self.inside.is_paused c.self.inside.duties c.args.slip.now.list can c.entry.result.now
    (c.entry.ensures _ can.cursor)

pub read-requires-clause-outlined : goal.read-requires-clause-outlined
read-requires-clause-outlined c =
    let can = subst (λ (p : Participant). CanRead p c.args.slip.now.list) (sym c.self.view_is) c.requires in
    c.outline.ensures _ c.entry.result.now can.cursor (c.entry.ensures _ can.cursor)

pub owe-requires-clause-last : goal.owe-requires-clause-last
owe-requires-clause-last c =
    let i = c.self.inside.inbox in
    let kept = c.self.inside.duties in
    let can = subst (λ (p : Participant). CanRead p c.args.slip.now.list) (sym c.self.view_is) c.requires in
    let here : c.place-place.result ≡ length i.items = omega (arith, can.cursor, c.place-place.ensures.place) in
    owed_before i kept c.self.invariant c.reserve.new.self c.reserve.ensures.same c.place-place.result here

pub invariant_of-self-then-owes : goal.invariant_of-self-then-owes
invariant_of-self-then-owes c =
    let i = c.self.inside.inbox in
    let kept = c.self.inside.duties in
    let can = subst (λ (p : Participant). CanRead p c.args.slip.now.list) (sym c.self.view_is) c.requires in
    let here : c.place-place.result ≡ length i.items = omega (arith, can.cursor, c.place-place.ensures.place) in
    belong_if_owed i kept c.self.invariant c.reserve.new.self c.reserve.ensures.same c.place-place.result here
    (item_from (reading_of i) i.me i.items c.entry.result.now) c.read.new.self c.in_ok-read.ensures.ok (sym c.owes.ensures ∙ c.if-owes.true) c.owe.new.self c.owe.ensures

pub invariant_of-self-else-owes : goal.invariant_of-self-else-owes
invariant_of-self-else-owes c =
    let i = c.self.inside.inbox in
    let kept = c.self.inside.duties in
    let can = subst (λ (p : Participant). CanRead p c.args.slip.now.list) (sym c.self.view_is) c.requires in
    let here : c.place-place.result ≡ length i.items = omega (arith, can.cursor, c.place-place.ensures.place) in
    belong_if_not i kept c.self.invariant c.reserve.new.self c.reserve.ensures.same c.place-place.result here
    (item_from (reading_of i) i.me i.items c.entry.result.now) c.read.new.self c.in_ok-read.ensures.ok (sym c.owes.ensures ∙ c.if-owes.false)

pub returns-then-owes-clause-ok : goal.returns-then-owes-clause-ok
returns-then-owes-clause-ok c =
    let can = subst (λ (p : Participant). CanRead p c.args.slip.now.list) (sym c.self.view_is) c.requires in
    let paused = c.self.inside.is_paused in
    λ before entry e.
    subst (λ (p : Participant). participant_of c.read.new.self paused c.owe.new.self ≡ with_state p (read_entry (reads p) p.me p.state before entry))
    c.self.view_is
    (state_is c.self.inside.inbox paused c.self.inside.duties c.args.slip.now.list can c.entry.result.now (c.entry.ensures _ can.cursor)
    c.read.new.self c.owe.new.self c.in_ok-read.ensures.ok
    (λ items. ap (state_of items paused) c.owe.ensures ∙ ap (state_of items paused) c.reserve.ensures.same) before entry e)

pub returns-then-owes-clause-inbox : goal.returns-then-owes-clause-inbox
returns-then-owes-clause-inbox c =
    let can = subst (λ (p : Participant). CanRead p c.args.slip.now.list) (sym c.self.view_is) c.requires in
    subst (λ (p : Participant). IsPrunedTo (inbox (reads p) p.me c.args.slip.now.list) (participant_of c.read.new.self c.self.inside.is_paused c.owe.new.self)) c.self.view_is
    (pruned_is c.self.inside.inbox c.self.inside.is_paused c.self.inside.duties c.args.slip.now.list can c.entry.result.now (c.entry.ensures _ can.cursor)
    c.read.new.self c.owe.new.self c.in_ok-read.ensures.ok)

pub returns-else-owes-clause-ok : goal.returns-else-owes-clause-ok
returns-else-owes-clause-ok c =
    let can = subst (λ (p : Participant). CanRead p c.args.slip.now.list) (sym c.self.view_is) c.requires in
    let paused = c.self.inside.is_paused in
    λ before entry e.
    subst (λ (p : Participant). participant_of c.read.new.self paused c.reserve.new.self ≡ with_state p (read_entry (reads p) p.me p.state before entry))
    c.self.view_is
    (state_is c.self.inside.inbox paused c.self.inside.duties c.args.slip.now.list can c.entry.result.now (c.entry.ensures _ can.cursor)
    c.read.new.self c.reserve.new.self c.in_ok-read.ensures.ok (λ items. ap (state_of items paused) c.reserve.ensures.same) before entry e)

pub returns-else-owes-clause-inbox : goal.returns-else-owes-clause-inbox
returns-else-owes-clause-inbox c =
    let can = subst (λ (p : Participant). CanRead p c.args.slip.now.list) (sym c.self.view_is) c.requires in
    subst (λ (p : Participant). IsPrunedTo (inbox (reads p) p.me c.args.slip.now.list) (participant_of c.read.new.self c.self.inside.is_paused c.reserve.new.self)) c.self.view_is
    (pruned_is c.self.inside.inbox c.self.inside.is_paused c.self.inside.duties c.args.slip.now.list can c.entry.result.now (c.entry.ensures _ can.cursor)
    c.read.new.self c.reserve.new.self c.in_ok-read.ensures.ok)
