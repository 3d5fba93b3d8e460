use Rattle.std.proofs.Common.{◌+◌, ◌≤◌, ◌-◌, ◌^◌, ◌∙◌, ap, arith}
use Rattle.node_inbox.proofs.Put.{unread}
use Rattle.node_inbox.proofs.PutRequest.{begun_steps, none_yet, read_request}
use Rattle.node_inbox.proofs.PutVerdict.{on_err}
use Rattle.node_inbox.proofs.putting.put_request.Goals as goal

pub begin-requires : goal.begin-requires
begin-requires c = none_yet c.args.setup.now.topology c.args.setup.now.checked c.args.me c.args.items.now.items c.args.registry.now c.requires.inbox

pub returns-in_err-begin-clause-err : goal.returns-in_err-begin-clause-err
returns-in_err-begin-clause-err c =
    let e = c.in_err-begin.ensures in
    on_err c.from_residual-in_err-begin.result
    (unread c.args.setup.now.topology c.args.setup.now.checked c.args.me c.args.items.now.items c.reserve.new.self.items c.args.registry.now c.begin.new.self
    c.requires.inbox c.reserve.ensures.items e.rows e.holds e.err e.cursor e.start)

pub pass-requires : goal.pass-requires
pass-requires c =
    begun_steps c.args.setup.now.topology c.args.setup.now.checked c.args.me c.args.items.now.items c.args.coming c.args.time c.requires.coming c.args.registry.now
    c.begin.new.self c.requires.inbox c.requires.rises (rw (c.decision_of.ensures) at c.in_ok-begin.ensures.ok)

pub returns-clause-ok : goal.returns-clause-ok
returns-clause-ok c =
    let fits : c.args.time ≤ 2 ^ 64 - 1 = omega (arith, c.ranges.time) in
    let b = c.in_ok-begin.ensures in
    let e = c.pass.ensures in
    let h = c.hold.ensures in
    let a = c.advance.ensures in
    read_request c.args.setup.now.topology c.args.setup.now.checked c.args.me c.args.items.now.items c.args.coming c.args.time c.requires.coming
    c.push_within.new.self.items c.cursor-place.result c.args.registry.now c.begin.new.self c.pass.new.self c.advance.new.self c.requires.inbox c.requires.rises fits
    b.rows b.holds (rw (c.decision_of.ensures) at b.ok) b.cursor c.cursor-place.ensures e.rows e.pairs e.holds e.cursor
    (ap (λ s. s.rows) a.store ∙ h.rows) (ap (λ s. s.holds) a.store ∙ h.holds) (a.pairs ∙ ap (λ t. t.pairs) h.tracking)
    (a.cursor ∙ ap (λ t. t.cursor + 1) h.tracking)
    (rw (c.reserve.ensures.items, c.put_facts.ensures) at c.push_within.ensures) (e.start ∙ b.start) (a.start ∙ (h.start ∙ (e.start ∙ b.start)))
