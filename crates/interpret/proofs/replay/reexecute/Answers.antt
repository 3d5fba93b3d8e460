use Rattle.interpret.proofs.Tried.{answer_decides}
use Rattle.interpret.proofs.replay.reexecute.Goals as goal

pub returns : goal.returns
returns g c = answer_decides c.args.checked.now c.args.root.now _ c.is_tree_possible.ensures
