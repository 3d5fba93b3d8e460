use Rattle.blind_tree.proofs.Fitting.{narrow_tree}
use Rattle.blind_tree.proofs.spellable.is_spellable.Goals as goal

pub returns-clause-narrow : goal.returns-clause-narrow
returns-clause-narrow c = λ yes. narrow_tree c.args.tree.now (c.is_tree.ensures.0 yes)
