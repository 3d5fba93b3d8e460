use Rattle.interpret.proofs.Tried.{tree_decides}
use Rattle.interpret.proofs.laws.reexecution_decides_conformance.Goals as goal

pub returns : goal.returns
returns c packages seed action consequences = tree_decides packages action consequences seed
