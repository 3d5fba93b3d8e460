use Rattle.std.proofs.Common.{◌≤◌, ◌-◌, ◌^◌, ◌∙◌, arith}
use Rattle.node_inbox.proofs.Put.{read_nothing, steps}
use Rattle.node_inbox.proofs.putting.put_nothing.Goals as goal

pub pass-requires : goal.pass-requires
pass-requires c = steps c.args.setup.now.topology c.args.setup.now.checked c.args.me c.args.items.now.items c.args.registry.now c.requires.inbox

pub returns-clause-ok : goal.returns-clause-ok
returns-clause-ok c =
    let fits : c.args.time ≤ 2 ^ 64 - 1 = omega (arith, c.ranges.time) in
    let e = c.pass.ensures in
    let a = c.advance.ensures in
    read_nothing c.args.setup.now.topology c.args.setup.now.checked c.args.me c.args.items.now.items c.push_within.new.self.items c.args.time c.args.registry.now
    c.pass.new.self c.advance.new.self c.requires.inbox c.requires.rises fits e.rows e.pairs e.holds e.cursor a.store a.pairs a.cursor
    (rw (c.reserve.ensures.items) at c.push_within.ensures) (a.start ∙ e.start)
