use Rattle.std.proofs.Common.{◌∙◌}
use Rattle.native_choice.proofs.FlashBody.{flash_is}
use Rattle.native_choice.proofs.flash.next.Goals as goal

pub returns : goal.returns
returns c = λ h. c.step.ensures h ∙ flash_is c.args.checked.now c.args.call.now c.args.so_far.now c.as_slice.ensures.checked
