use Rattle.std.proofs.Common.{◌≡◌, ◌≢◌, length, rules, arith}
use Rattle.json_walk.proofs.Items.{two_items, two_other}
use Rattle.json_walk.proofs.list.read_two.Goals as goal

pub returns-then-items-ne2 : goal.returns-then-items-ne2
returns-then-items-ne2 c =
    let other : length c.args.items.now ≢ 2 = λ e. c.if-items-ne2.true (grind arith) in
    rw (two_other c.args.at.now c.args.items.now other) (search rules)

pub returns : goal.returns
returns c =
    let two : length c.args.items.now ≡ 2 = grind arith in
    rw (two_items c.args.at.now c.args.items.now c.index-items-0.result c.index-items-1.result two) (search rules)
