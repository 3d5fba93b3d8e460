use Rattle.std.proofs.Common.{◌≡◌, sym, ◌∙◌, subst, arith}
use Rattle.std.specs.Prelude.{slice_index_or}
use Rattle.seq_log.specs.Sequenced.{Sequenced}
use Rattle.world_play.specs.Reading.{IsReader, Reads, has_read}
use Rattle.world_play.proofs.Catches.{reading_on}
use Rattle.world_play.proofs.Each.{done_on}
use Rattle.world_play.proofs.Flagged.{paused_then}
use Rattle.world_play.proofs.Passing.{item_at, item_within, in_turn}
use Rattle.world_play.proofs.ReadsAwake.{HasReadAwake, awake_read}
use Rattle.world_play.proofs.Turns.{all_long, reads_of}
use Rattle.world_play.proofs.reading_awake.read_awake_slice.Goals as goal

pub read_if_awake-requires : goal.read_if_awake-requires
read_if_awake-requires c =
    let inv = c.nodes.invariant in
    let k = c.nodes.node-index in
    let m = c.requires.0 in
    let s = c.args.sequencer.now in
    let node = slice_index_or c.nodes.nodes k c.node-item.result in
    let at = item_at c.nodes.nodes k c.node-item.result (item_within c.nodes-test.true c.nodes.auto.nodes) in
    subst (λ (q : Sequenced). Reads node q.list) (sym inv.0)
    (reads_of m k node s
    (in_turn c.nodes.nodes s k node at m c.requires.1 c.requires.2 ((inv.1).nodes_of m c.requires.3)
    ((inv.1).lawful m c.requires.1 c.requires.2 c.requires.3 c.requires.4)))

pub returns-in_err-read_if_awake-clause-nodes : goal.returns-in_err-read_if_awake-clause-nodes
returns-in_err-read_if_awake-clause-nodes c =
    let inv = c.nodes.invariant in
    let k = c.nodes.node-index in
    let node = slice_index_or c.nodes.nodes k c.node-item.result in
    let at = item_at c.nodes.nodes k c.node-item.result (item_within c.nodes-test.true c.nodes.auto.nodes) in
    (reading_on c.args.nodes.now c.args.sequencer.now c.nodes.nodes k inv.1 node at c.read_if_awake.new.node
    (subst (λ (q : Sequenced). IsReader node q.list c.read_if_awake.new.node) inv.0 c.read_if_awake.ensures.some) c.requires).nodes_of

pub returns-in_err-read_if_awake-clause-set_up : goal.returns-in_err-read_if_awake-clause-set_up
returns-in_err-read_if_awake-clause-set_up c =
    let inv = c.nodes.invariant in
    let k = c.nodes.node-index in
    let node = slice_index_or c.nodes.nodes k c.node-item.result in
    let at = item_at c.nodes.nodes k c.node-item.result (item_within c.nodes-test.true c.nodes.auto.nodes) in
    (reading_on c.args.nodes.now c.args.sequencer.now c.nodes.nodes k inv.1 node at c.read_if_awake.new.node
    (subst (λ (q : Sequenced). IsReader node q.list c.read_if_awake.new.node) inv.0 c.read_if_awake.ensures.some) c.requires).set_up

pub returns-in_err-read_if_awake-clause-bases : goal.returns-in_err-read_if_awake-clause-bases
returns-in_err-read_if_awake-clause-bases c =
    let inv = c.nodes.invariant in
    let k = c.nodes.node-index in
    let node = slice_index_or c.nodes.nodes k c.node-item.result in
    let at = item_at c.nodes.nodes k c.node-item.result (item_within c.nodes-test.true c.nodes.auto.nodes) in
    (reading_on c.args.nodes.now c.args.sequencer.now c.nodes.nodes k inv.1 node at c.read_if_awake.new.node
    (subst (λ (q : Sequenced). IsReader node q.list c.read_if_awake.new.node) inv.0 c.read_if_awake.ensures.some) c.requires).bases

pub returns-in_err-read_if_awake-clause-lawful : goal.returns-in_err-read_if_awake-clause-lawful
returns-in_err-read_if_awake-clause-lawful c =
    let inv = c.nodes.invariant in
    let k = c.nodes.node-index in
    let node = slice_index_or c.nodes.nodes k c.node-item.result in
    let at = item_at c.nodes.nodes k c.node-item.result (item_within c.nodes-test.true c.nodes.auto.nodes) in
    λ m now state a l.
    (reading_on c.args.nodes.now c.args.sequencer.now c.nodes.nodes k inv.1 node at c.read_if_awake.new.node
    (subst (λ (q : Sequenced). IsReader node q.list c.read_if_awake.new.node) inv.0 c.read_if_awake.ensures.some) c.requires).lawful m now state a l

pub returns-in_err-read_if_awake-clause-paused : goal.returns-in_err-read_if_awake-clause-paused
returns-in_err-read_if_awake-clause-paused c = λ paused p.
    let inv = c.nodes.invariant in
    let k = c.nodes.node-index in
    let node = slice_index_or c.nodes.nodes k c.node-item.result in
    let at = item_at c.nodes.nodes k c.node-item.result (item_within c.nodes-test.true c.nodes.auto.nodes) in
    paused_then c.nodes.nodes k node at c.read_if_awake.new.node c.read_if_awake.ensures.flag paused (inv.2 paused p)

pub nodes-preserved : goal.nodes-preserved
nodes-preserved c =
    let inv = c.nodes.invariant in
    let k = c.nodes.node-index in
    let s = c.args.sequencer.now in
    let node = slice_index_or c.nodes.nodes k c.node-item.result in
    let at = item_at c.nodes.nodes k c.node-item.result (item_within c.nodes-test.true c.nodes.auto.nodes) in
    let m = c.requires.0 in
    let turn =
    in_turn c.nodes.nodes s k node at m c.requires.1 c.requires.2 ((inv.1).nodes_of m c.requires.3)
    ((inv.1).lawful m c.requires.1 c.requires.2 c.requires.3 c.requires.4) in
    let new = c.read_if_awake.new.node in (
      c.read_if_awake.ensures.same ∙ inv.0,
      reading_on c.args.nodes.now s c.nodes.nodes k inv.1 node at new
          (subst (λ (q : Sequenced). IsReader node q.list new) inv.0 c.read_if_awake.ensures.some) c.requires,
      λ paused p. paused_then c.nodes.nodes k node at new c.read_if_awake.ensures.flag paused (inv.2 paused p),
      done_on (HasReadAwake s) c.args.nodes.now c.nodes.nodes k inv.3 node at new (
        c.read_if_awake.ensures.flag,
        λ awake. all_long m k node s turn new (subst (λ (q : Sequenced). new ≡ has_read node q.list) inv.0 (c.in_ok-read_if_awake.ensures.ok awake)),
      ),
    )

pub returns-clause-ok : goal.returns-clause-ok
returns-clause-ok c =
    awake_read c.args.nodes.now c.args.sequencer.now c.nodes.nodes c.nodes.node-index c.nodes.invariant.3
    (let ends = c.nodes.auto.node-index-end in let out = c.nodes-test.false in let same = c.nodes.auto.nodes in omega (arith, ends, out, same))
