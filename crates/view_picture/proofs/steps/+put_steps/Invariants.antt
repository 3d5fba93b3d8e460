use Rattle.view_split.specs.CoreLists.{core_weight}
use Rattle.view_picture.proofs.steps.+put_steps.Given as goal

abbrev pub decreases-put_steps : goal.decreases-put_steps
decreases-put_steps l = core_weight l.children.now
