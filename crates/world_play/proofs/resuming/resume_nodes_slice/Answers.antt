use Rattle.std.proofs.Common.{ℕ, ◌≡◌, sym, ap, ◌∙◌, ◌+◌, subst, arith}
use Rattle.std.specs.Prelude.{slice_index_or}
use Rattle.world_model.specs.Settling.{resumed}
use Rattle.seq_log.specs.Sequenced.{Sequenced}
use Rattle.node_core.specs.OverLog.{HasInbox, inbox_over, state_over}
use Rattle.world_play.specs.Parts.{IsParticipant}
use Rattle.world_play.proofs.Passing.{item_at, item_within, in_turn}
use Rattle.world_play.proofs.Each.{first_at, done_on, done_nodes, done_set_up, done_bases}
use Rattle.world_play.proofs.Resumes.{Resumed, resumed_states}
use Rattle.world_play.proofs.resuming.resume_nodes_slice.Goals as goal

pub resume_node-requires : goal.resume_node-requires
resume_node-requires c =
    let inv = c.nodes.invariant in
    let k = c.nodes.node-index in
    let m = c.requires.0 in
    let node = slice_index_or c.nodes.nodes k c.node-item.result in
    let at = item_at c.nodes.nodes k c.node-item.result (item_within c.nodes-test.true c.nodes.auto.nodes) in
    let first = c.args.nodes.now in
    let s = c.args.sequencer.now in (
      m,
      subst (λ (q : Sequenced). IsParticipant m c.nodes.at node q) (sym inv.1)
          (subst (λ (i : ℕ). IsParticipant m i node s) (sym inv.0)
          (in_turn first s k node (first_at (Resumed s) first c.nodes.nodes k inv.2 node at) m c.requires.1 c.requires.2 c.requires.3 c.requires.4)),
    )

pub nodes-preserved : goal.nodes-preserved
nodes-preserved c =
    let inv = c.nodes.invariant in
    let k = c.nodes.node-index in
    let node = slice_index_or c.nodes.nodes k c.node-item.result in
    let at = item_at c.nodes.nodes k c.node-item.result (item_within c.nodes-test.true c.nodes.auto.nodes) in
    let first = c.args.nodes.now in
    let s = c.args.sequencer.now in (
      ap (λ (i : ℕ). i + 1) inv.0,
      c.resume_node.ensures.log ∙ inv.1,
      done_on (Resumed s) first c.nodes.nodes k inv.2 node at c.resume_node.new.node (
        c.resume_node.ensures.same,
        subst (λ (q : Sequenced). HasInbox (inbox_over q.list node) node → HasInbox (inbox_over q.list c.resume_node.new.node) c.resume_node.new.node) inv.1
            c.resume_node.ensures.inbox,
        λ m given.
            let given' =
            subst (λ (q : Sequenced). IsParticipant m c.nodes.at node q) (sym inv.1) (subst (λ (i : ℕ). IsParticipant m i node s) (sym inv.0) given) in
            subst (λ (q : Sequenced). state_over q.list c.resume_node.new.node ≡ resumed m q.list k (state_over q.list node)) inv.1
            (subst (λ (i : ℕ). state_over (c.nodes.sequencer).list c.resume_node.new.node ≡ resumed m (c.nodes.sequencer).list i (state_over (c.nodes.sequencer).list node)) inv.0
            (c.resume_node.ensures.resumed m given')),
      ),
    )

pub returns-clause-nodes : goal.returns-clause-nodes
returns-clause-nodes c = λ m a.
    done_nodes (Resumed c.args.sequencer.now) c.args.nodes.now (λ i x y d. d.0) c.args.sequencer.now (λ i x y d. d.1) c.nodes.nodes c.nodes.node-index c.nodes.invariant.2
    (let ends = c.nodes.auto.node-index-end in let out = c.nodes-test.false in let same = c.nodes.auto.nodes in omega (arith, ends, out, same)) m a

pub returns-clause-resumed : goal.returns-clause-resumed
returns-clause-resumed c = λ m now state a l.
    resumed_states c.args.nodes.now c.args.sequencer.now c.nodes.nodes c.nodes.node-index c.nodes.invariant.2
    (let ends = c.nodes.auto.node-index-end in let out = c.nodes-test.false in let same = c.nodes.auto.nodes in omega (arith, ends, out, same)) m now state a l

pub returns-clause-set_up : goal.returns-clause-set_up
returns-clause-set_up c =
    done_set_up (Resumed c.args.sequencer.now) c.args.nodes.now (λ i x y d. d.0) c.nodes.nodes c.nodes.node-index c.nodes.invariant.2
    (let ends = c.nodes.auto.node-index-end in let out = c.nodes-test.false in let same = c.nodes.auto.nodes in omega (arith, ends, out, same))

pub returns-clause-bases : goal.returns-clause-bases
returns-clause-bases c =
    done_bases (Resumed c.args.sequencer.now) c.args.nodes.now (λ i x y d. d.0) c.nodes.nodes c.nodes.node-index c.nodes.invariant.2
    (let ends = c.nodes.auto.node-index-end in let out = c.nodes-test.false in let same = c.nodes.auto.nodes in omega (arith, ends, out, same))
