use Rattle.std.proofs.Common.{◌∙◌, sym}
use Rattle.blind_tree.proofs.Rises.{there_listed}
use Rattle.blind_tree.proofs.listed.is_at.Goals as goal

pub returns-then-at-paths-clause-there : goal.returns-then-at-paths-clause-there
returns-then-at-paths-clause-there c same =
    there_listed c.args.paths.now c.args.at c.args.path.now c.index-paths-at.result c.if-at-paths.true c.index-paths-at.is (sym c.eq.ensures ∙ same)
