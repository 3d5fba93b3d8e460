use Rattle.std.proofs.Common.{◌≤◌, ◌-◌, ◌^◌, ◌∙◌, ap, sym, arith}
use Rattle.contract_store.specs.Written.{holding}
use Rattle.request_track.specs.CleanLaw.{is_open_at}
use Rattle.request_track.specs.Pairs.{expired}
use Rattle.inbox_registry.specs.Changes.{placed_below}
use Rattle.node_inbox.proofs.Put.{steps, unread}
use Rattle.node_inbox.proofs.PutVerdict.{on_err, read_verdict}
use Rattle.node_inbox.proofs.putting.put_verdict.Goals as goal

pub returns-in_err-make_room-clause-err : goal.returns-in_err-make_room-clause-err
returns-in_err-make_room-clause-err c =
    let e = c.in_err-make_room.ensures in
    on_err c.from_residual-in_err-make_room.result
    (unread c.args.setup.now.topology c.args.setup.now.checked c.args.me c.args.items.now.items c.reserve.new.self.items c.args.registry.now c.make_room.new.self
    c.requires.inbox c.reserve.ensures.items e.rows e.holds (ap (λ t. t.pairs) e.tracking) (ap (λ t. t.cursor) e.tracking) e.start)

pub pass-requires : goal.pass-requires
pass-requires c =
    rw (c.in_ok-make_room.ensures.tracking)
    (steps c.args.setup.now.topology c.args.setup.now.checked c.args.me c.args.items.now.items c.args.registry.now c.requires.inbox)

pub returns-clause-ok : goal.returns-clause-ok
returns-clause-ok c =
    let fits : c.args.time ≤ 2 ^ 64 - 1 = omega (arith, c.ranges.time) in
    let m = c.in_ok-make_room.ensures in
    let e = c.pass.ensures in
    let s = c.settle_if.ensures in
    let a = c.advance.ensures in
    read_verdict c.args.setup.now.topology c.args.setup.now.checked c.args.me c.args.items.now.items c.args.coming c.args.time c.requires.coming
    c.push_within.new.self.items c.args.registry.now c.pass.new.self c.settle_if.new.registry c.advance.new.self c.requires.inbox c.requires.rises fits
    (e.rows ∙ m.rows) (e.pairs ∙ ap (λ t. expired c.args.time t.pairs) m.tracking)
    (λ f n h. e.holds f n (m.holds ∙ h ∙ ap (λ t. holding (placed_below (is_open_at t.pairs) f n)) (sym m.tracking)))
    (e.cursor ∙ ap (λ t. t.cursor) m.tracking) a.store a.pairs a.cursor s.some s.none (rw (c.reserve.ensures.items) at c.push_within.ensures)
    (e.start ∙ m.start) a.start
