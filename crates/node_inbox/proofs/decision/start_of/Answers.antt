use Rattle.std.proofs.Common.{◌≤◌, length, sym, ◌∙◌, arith}
use Rattle.std.proofs.Math.ListN.{drop_of_length-le}
use Rattle.node_inbox.proofs.decision.start_of.Goals as goal

pub returns-else-place-len-clause-rest : goal.returns-else-place-len-clause-rest
returns-else-place-len-clause-rest c =
    let many = c.len-else-place-len.ensures in
    let far = c.if-place-len.false in
    let all : length c.args.items.now.items ≤ c.len-else-place-len.result = omega (arith, many) in
    let past : length c.args.items.now.items ≤ c.args.place = omega (arith, c.len.ensures, far) in
    drop_of_length-le c.args.items.now.items all ∙ sym (drop_of_length-le c.args.items.now.items past)
