use Rattle.std.proofs.Common.{◌≡◌, ◌<◌, ◌+◌, ◌*◌, refl, sym, ◌∙◌, arith}
use Rattle.ledger_terms.specs.Grown.{tree_of, node_count}
use Rattle.ledger_terms.proofs.Grow.{tree_within}
use Rattle.consist.specs.Rules.{fails}
use Rattle.consist.proofs.Walking.{stop_step, go_step, met_step, left_step, last_off}
use Rattle.consist.proofs.walk.+walk.Goals as goal

pub walk_trees-walk_tree-requires : goal.walk_trees-walk_tree-requires
walk_trees-walk_tree-requires t c =
    let below : 2 * node_count (tree_of c.index-nodes-at.result) < 2 * node_count c.args.roots.now + 1 =
    rw (c.index-nodes-at.is, ← c.as_slice-nodes.ensures) (omega (arith, tree_within c.as_slice-nodes.result.now c.loop-at.at c.index-nodes-at.result c.loop-at-test.true)) in
    (rw (← c.decreases) below, tt)

pub walk_trees-returns-then-stopped : goal.walk_trees-returns-then-stopped
walk_trees-returns-then-stopped t c =
    sym c.loop-at.invariant.found
    ∙ stop_step (fails c.args.rule) c.loop-at.earlier.items c.walk_tree.new.earlier.items c.loop-at.path.items c.push.new.self.items c.walk_tree.new.path.items c.in_ok-stopped.stopped c.as_slice-nodes.result.now c.loop-at.at c.index-nodes-at.result
    c.loop-at-test.true c.index-nodes-at.is c.in_ok-push.ensures.items c.in_ok-stopped.ensures _ c.if-stopped.true refl

pub walk_trees-loop-at-preserved : goal.walk_trees-loop-at-preserved
walk_trees-loop-at-preserved t c =
    let left = left_step (fails c.args.rule) c.loop-at.earlier.items c.walk_tree.new.earlier.items c.loop-at.path.items c.push.new.self.items c.walk_tree.new.path.items c.in_ok-stopped.stopped c.as_slice-nodes.result.now c.loop-at.at c.index-nodes-at.result
    c.loop-at-test.true c.index-nodes-at.is c.in_ok-push.ensures.items c.in_ok-stopped.ensures c.if-stopped.false in
    let same : c.pop.new.self.items ≡ c.loop-at.path.items = c.pop.ensures.rest ∙ last_off c.loop-at.path.items _ c.walk_tree.new.path.items _ c.walk_tree.new.path.ok.0 left in
    record {
      found = rw same (go_step (fails c.args.rule) c.loop-at.earlier.items c.walk_tree.new.earlier.items c.loop-at.path.items c.push.new.self.items c.walk_tree.new.path.items c.in_ok-stopped.stopped c.as_slice-nodes.result.now c.loop-at.at c.index-nodes-at.result
          c.loop-at-test.true c.index-nodes-at.is c.in_ok-push.ensures.items c.in_ok-stopped.ensures _ c.if-stopped.false c.loop-at.invariant.found);
      met = rw same (met_step (fails c.args.rule) c.loop-at.earlier.items c.walk_tree.new.earlier.items c.loop-at.path.items c.push.new.self.items c.walk_tree.new.path.items c.in_ok-stopped.stopped c.as_slice-nodes.result.now c.loop-at.at c.index-nodes-at.result
          c.loop-at-test.true c.index-nodes-at.is c.in_ok-push.ensures.items c.in_ok-stopped.ensures _ c.if-stopped.false c.loop-at.invariant.met);
      path = same ∙ c.loop-at.invariant.path;
    }
