use Rattle.std.proofs.Common.{refl}
use Rattle.framed_form.proofs.ReadOutlines.{outline_is}
use Rattle.framed_form.proofs.outline.outline_of.Goals as goal

pub returns : goal.returns
returns c = λ request is. outline_is request c.args.told _ is c.in_ok-root.ensures refl
