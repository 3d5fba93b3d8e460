use Rattle.std.proofs.Common.{◌∙◌, sym}
use Rattle.blind_tree.proofs.Rises.{one_more_rises}
use Rattle.blind_tree.proofs.listed.rises.Goals as goal

pub loop-at-preserved : goal.loop-at-preserved
loop-at-preserved c =
    one_more_rises c.args.paths.now c.loop-at.at c.index-paths-at.result c.loop-at-test.true c.index-paths-at.is
    (sym c.is_above.ensures ∙ c.if-not-is_above.false) c.loop-at.invariant
