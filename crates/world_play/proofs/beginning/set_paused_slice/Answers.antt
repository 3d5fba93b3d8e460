use Rattle.std.proofs.Common.{ℕ, Bool, ap, ◌∙◌, ◌+◌, arith}
use Rattle.std.specs.Prelude.{slice_index_or}
use Rattle.world_model.specs.Node.{with_flag}
use Rattle.world_model.specs.Places.{has_place}
use Rattle.node_core.specs.Participant.{with_state}
use Rattle.world_play.proofs.Each.{done_on, done_nodes, done_set_up, done_bases}
use Rattle.world_play.proofs.Flagged.{Flagged, flag_inbox, flag_same, flags_are, flags_lawful}
use Rattle.world_play.proofs.Passing.{item_at, item_within}
use Rattle.world_play.proofs.beginning.set_paused_slice.Goals as goal

pub nodes-preserved : goal.nodes-preserved
nodes-preserved c =
    let inv = c.nodes.invariant in
    let k = c.nodes.node-index in
    let paused = c.args.paused.now in
    let node = slice_index_or c.nodes.nodes k c.node-item.result in
    let at = item_at c.nodes.nodes k c.node-item.result (item_within c.nodes-test.true c.nodes.auto.nodes) in (
      ap (λ (i : ℕ). i + 1) inv.0,
      done_on (Flagged paused) c.args.nodes.now c.nodes.nodes k inv.1 node at c.set_paused.new.self
          (c.set_paused.ensures ∙ ap (λ (b : Bool). with_state node (with_flag node.state b)) (c.is_among.ensures ∙ ap (has_place paused) inv.0)),
    )

pub returns-clause-nodes : goal.returns-clause-nodes
returns-clause-nodes c = λ m s a.
    done_nodes (Flagged c.args.paused.now) c.args.nodes.now (flag_same c.args.paused.now) s (flag_inbox c.args.paused.now s.list) c.nodes.nodes c.nodes.node-index c.nodes.invariant.1
    (let ends = c.nodes.auto.node-index-end in let out = c.nodes-test.false in let same = c.nodes.auto.nodes in omega (arith, ends, out, same)) m a

pub returns-clause-lawful : goal.returns-clause-lawful
returns-clause-lawful c =
    flags_lawful c.args.paused.now c.args.nodes.now c.nodes.nodes c.nodes.node-index c.nodes.invariant.1
    (let ends = c.nodes.auto.node-index-end in let out = c.nodes-test.false in let same = c.nodes.auto.nodes in omega (arith, ends, out, same))

pub returns-clause-set_up : goal.returns-clause-set_up
returns-clause-set_up c =
    done_set_up (Flagged c.args.paused.now) c.args.nodes.now (flag_same c.args.paused.now) c.nodes.nodes c.nodes.node-index c.nodes.invariant.1
    (let ends = c.nodes.auto.node-index-end in let out = c.nodes-test.false in let same = c.nodes.auto.nodes in omega (arith, ends, out, same))

pub returns-clause-bases : goal.returns-clause-bases
returns-clause-bases c =
    done_bases (Flagged c.args.paused.now) c.args.nodes.now (flag_same c.args.paused.now) c.nodes.nodes c.nodes.node-index c.nodes.invariant.1
    (let ends = c.nodes.auto.node-index-end in let out = c.nodes-test.false in let same = c.nodes.auto.nodes in omega (arith, ends, out, same))

pub returns-clause-paused : goal.returns-clause-paused
returns-clause-paused c =
    flags_are c.args.paused.now c.args.nodes.now c.nodes.nodes c.nodes.node-index c.nodes.invariant.1
    (let ends = c.nodes.auto.node-index-end in let out = c.nodes-test.false in let same = c.nodes.auto.nodes in omega (arith, ends, out, same))
