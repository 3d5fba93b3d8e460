use Rattle.std.proofs.Common.{rules, arith}
use Rattle.lang_read.proofs.Operands.{name_after_other}
use Rattle.lang_read.proofs.expr.read_name_after.Goals as goal

pub returns-then-len-ne2 : goal.returns-then-len-ne2
returns-then-len-ne2 c = rw (name_after_other c.args.at.now c.args.items.now.items (λ e. c.if-len-ne2.true (omega (arith, e)))) (search rules)
