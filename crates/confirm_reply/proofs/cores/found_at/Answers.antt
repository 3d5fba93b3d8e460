use Rattle.confirm_reply.proofs.FindSteps.{short_in}
use Rattle.confirm_reply.proofs.cores.found_at.Goals as goal

pub returns-then-at-trees : goal.returns-then-at-trees
returns-then-at-trees c = short_in _ _ _ _ _ c.loop-at.invariant c.if-at-trees.true
