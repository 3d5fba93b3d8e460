use Rattle.framed_form.proofs.NoCollision.{no_collision}
use Rattle.framed_form.proofs.laws.logs_that_do_not_collide.Goals as goal

pub returns : goal.returns
returns c = no_collision
