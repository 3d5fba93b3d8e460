use Rattle.std.proofs.Common.{◌≡◌, sym, ◌∙◌, subst, arith}
use Rattle.std.specs.Prelude.{slice_index_or}
use Rattle.seq_log.specs.Sequenced.{Sequenced}
use Rattle.world_play.specs.Reading.{IsReader, Reads, has_read}
use Rattle.world_play.proofs.Catches.{HasRead, reading_on, caught_states}
use Rattle.world_play.proofs.Each.{done_on}
use Rattle.world_play.proofs.Passing.{item_at, item_within, in_turn}
use Rattle.world_play.proofs.Turns.{reads_of}
use Rattle.world_play.proofs.catching_up.read_nodes_slice.Goals as goal

pub read_to_end-requires : goal.read_to_end-requires
read_to_end-requires c =
    let inv = c.nodes.invariant in
    let k = c.nodes.node-index in
    let m = c.requires.0 in
    let s = c.args.sequencer.now in
    let node = slice_index_or c.nodes.nodes k c.node-item.result in
    let at = item_at c.nodes.nodes k c.node-item.result (item_within c.nodes-test.true c.nodes.auto.nodes) in
    subst (λ (q : Sequenced). Reads node q.list) (sym inv.0)
    (reads_of m k node s
    (in_turn c.nodes.nodes s k node at m c.requires.1 c.requires.2 ((inv.1).nodes_of m c.requires.3)
    ((inv.1).lawful m c.requires.1 c.requires.2 c.requires.3 c.requires.4)))

pub returns-in_err-read_to_end-clause-nodes : goal.returns-in_err-read_to_end-clause-nodes
returns-in_err-read_to_end-clause-nodes c =
    let inv = c.nodes.invariant in
    let k = c.nodes.node-index in
    let node = slice_index_or c.nodes.nodes k c.node-item.result in
    let at = item_at c.nodes.nodes k c.node-item.result (item_within c.nodes-test.true c.nodes.auto.nodes) in
    (reading_on c.args.nodes.now c.args.sequencer.now c.nodes.nodes k inv.1 node at c.read_to_end.new.node
    (subst (λ (q : Sequenced). IsReader node q.list c.read_to_end.new.node) inv.0 c.read_to_end.ensures.some) c.requires).nodes_of

pub returns-in_err-read_to_end-clause-set_up : goal.returns-in_err-read_to_end-clause-set_up
returns-in_err-read_to_end-clause-set_up c =
    let inv = c.nodes.invariant in
    let k = c.nodes.node-index in
    let node = slice_index_or c.nodes.nodes k c.node-item.result in
    let at = item_at c.nodes.nodes k c.node-item.result (item_within c.nodes-test.true c.nodes.auto.nodes) in
    (reading_on c.args.nodes.now c.args.sequencer.now c.nodes.nodes k inv.1 node at c.read_to_end.new.node
    (subst (λ (q : Sequenced). IsReader node q.list c.read_to_end.new.node) inv.0 c.read_to_end.ensures.some) c.requires).set_up

pub returns-in_err-read_to_end-clause-bases : goal.returns-in_err-read_to_end-clause-bases
returns-in_err-read_to_end-clause-bases c =
    let inv = c.nodes.invariant in
    let k = c.nodes.node-index in
    let node = slice_index_or c.nodes.nodes k c.node-item.result in
    let at = item_at c.nodes.nodes k c.node-item.result (item_within c.nodes-test.true c.nodes.auto.nodes) in
    (reading_on c.args.nodes.now c.args.sequencer.now c.nodes.nodes k inv.1 node at c.read_to_end.new.node
    (subst (λ (q : Sequenced). IsReader node q.list c.read_to_end.new.node) inv.0 c.read_to_end.ensures.some) c.requires).bases

pub returns-in_err-read_to_end-clause-lawful : goal.returns-in_err-read_to_end-clause-lawful
returns-in_err-read_to_end-clause-lawful c =
    let inv = c.nodes.invariant in
    let k = c.nodes.node-index in
    let node = slice_index_or c.nodes.nodes k c.node-item.result in
    let at = item_at c.nodes.nodes k c.node-item.result (item_within c.nodes-test.true c.nodes.auto.nodes) in
    λ m now state a l.
    (reading_on c.args.nodes.now c.args.sequencer.now c.nodes.nodes k inv.1 node at c.read_to_end.new.node
    (subst (λ (q : Sequenced). IsReader node q.list c.read_to_end.new.node) inv.0 c.read_to_end.ensures.some) c.requires).lawful m now state a l

pub nodes-preserved : goal.nodes-preserved
nodes-preserved c =
    let inv = c.nodes.invariant in
    let k = c.nodes.node-index in
    let s = c.args.sequencer.now in
    let node = slice_index_or c.nodes.nodes k c.node-item.result in
    let at = item_at c.nodes.nodes k c.node-item.result (item_within c.nodes-test.true c.nodes.auto.nodes) in (
      c.read_to_end.ensures.same ∙ inv.0,
      reading_on c.args.nodes.now s c.nodes.nodes k inv.1 node at c.read_to_end.new.node
          (subst (λ (q : Sequenced). IsReader node q.list c.read_to_end.new.node) inv.0 c.read_to_end.ensures.some) c.requires,
      done_on (HasRead s) c.args.nodes.now c.nodes.nodes k inv.2 node at c.read_to_end.new.node
          (subst (λ (q : Sequenced). c.read_to_end.new.node ≡ has_read node q.list) inv.0 c.in_ok-read_to_end.ensures.ok),
    )

pub returns-clause-ok : goal.returns-clause-ok
returns-clause-ok c = λ m now state a l.
    caught_states c.args.nodes.now c.args.sequencer.now c.nodes.nodes c.nodes.node-index c.nodes.invariant.2
    (let ends = c.nodes.auto.node-index-end in let out = c.nodes-test.false in let same = c.nodes.auto.nodes in omega (arith, ends, out, same)) m now state a l
