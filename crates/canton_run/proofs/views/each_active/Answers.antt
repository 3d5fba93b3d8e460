use Rattle.std.proofs.Common.{◌+◌, ◌∷◌, [], ◌∙◌, append_assoc, drop, map, refl}
use Rattle.report_text.proofs.Zipped.{drop-item}
use Rattle.canton_run.specs.Actives.{own_active}
use Rattle.canton_run.proofs.views.each_active.Goals as goal

pub loop-node-preserved : goal.loop-node-preserved
loop-node-preserved c =
    let nodes = c.args.nodes.now in
    let i = c.loop-node.node-index in
    let node = c.node-item.result in
    let head = drop-item nodes nodes i node refl c.loop-node-test.true c.node-item.is in
    let sofar = rw head at c.loop-node.invariant in
    rw (c.in_ok-push.ensures.ok, c.in_ok-active_of.ensures)
    (append_assoc c.loop-node.actives (own_active node ∷ []) (map own_active (drop (i + 1) nodes)) ∙ sofar)
