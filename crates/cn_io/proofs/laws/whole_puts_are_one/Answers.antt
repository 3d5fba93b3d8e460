use Rattle.std.proofs.Common.{Ok, Err}
use Rattle.cn_io.proofs.Offers.{one_put}
use Rattle.cn_io.proofs.laws.whole_puts_are_one.Goals as goal

pub returns : goal.returns
returns g c sink sink' bytes (Ok u) whole some ok all = one_put g.K.Sink.may_put whole sink sink' bytes all.0 some all.1 all.2
returns g c sink sink' bytes (Err e) whole some ok all = absurd (cc)
