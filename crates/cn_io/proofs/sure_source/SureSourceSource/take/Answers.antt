use Rattle.std.proofs.Common.{arith, refl}
use Rattle.std.proofs.lemmas.List.{take_rest}
use Rattle.cn_io.proofs.Pieces.{given_first}
use Rattle.cn_io.proofs.sure_source.SureSourceSource.take.Goals as goal

pub returns-clause-moved : goal.returns-clause-moved
returns-clause-moved c =
    let s = c.self.inside in
    let call = rw (c.as_slice.ensures, take_rest s.bytes s.at) at c.copy_first-count.ensures in
    let given = given_first s.bytes c.args.into.now _ s.at _ _ call.count call.bytes c.requires (omega arith) in
    rw (← c.self.view_is) (given.0, given.1, given.2, refl)
