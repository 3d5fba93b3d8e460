use Rattle.std.proofs.Common.{List, sym, ap, ◌∙◌, ◌+◌, subst, arith}
use Rattle.std.specs.Prelude.{slice_index_or, slice_set}
use Rattle.world_model.specs.Places.{has_place}
use Rattle.seq_log.specs.Sequenced.{Sequenced}
use Rattle.node_core.specs.Participant.{Participant as NodeValue}
use Rattle.world_play.proofs.Passing.{IsTurning, item_at, item_within, set_same, in_turn, left_nodes, left_lawful, left_set_up, left_bases, turning_on, turning_past, turning_ends}
use Rattle.world_play.proofs.pass.take_turns_slice.Goals as goal
use Rattle.world_play.proofs.pass.take_turns_slice.Goals.{then-not-is_among+in_ok-take_turn, else-not-is_among}

pub take_turn-requires : goal.take_turn-requires
take_turn-requires g c =
    let t = c.nodes.invariant.1 in
    let k = c.nodes.node-index in (
      c.requires.0,
      k,
      in_turn c.nodes.nodes c.nodes.sequencer k
          (slice_index_or c.nodes.nodes k c.node-item.result) (item_at c.nodes.nodes k c.node-item.result (item_within c.nodes-test.true c.nodes.auto.nodes)) c.requires.0 c.requires.1 c.requires.2
          (t.nodes_of c.requires.0 c.requires.3) (t.lawful c.requires.0 c.requires.1 c.requires.2 c.requires.3 c.requires.4),
    )

pub returns-in_err-take_turn-clause-nodes : goal.returns-in_err-take_turn-clause-nodes
returns-in_err-take_turn-clause-nodes g c =
    left_nodes c.args.paused.now c.args.nodes.now c.args.sequencer.now c.nodes.nodes c.nodes.sequencer c.nodes.node-index c.nodes.invariant.1
    (slice_index_or c.nodes.nodes c.nodes.node-index c.node-item.result) (item_at c.nodes.nodes c.nodes.node-index c.node-item.result (item_within c.nodes-test.true c.nodes.auto.nodes))
    c.take_turn.new.node c.take_turn.new.sequencer c.take_turn.ensures.on c.take_turn.ensures.same c.take_turn.ensures.keeps c.requires

pub returns-in_err-take_turn-clause-lawful : goal.returns-in_err-take_turn-clause-lawful
returns-in_err-take_turn-clause-lawful g c =
    left_lawful c.args.paused.now c.args.nodes.now c.args.sequencer.now c.nodes.nodes c.nodes.sequencer c.nodes.node-index c.nodes.invariant.1
    (slice_index_or c.nodes.nodes c.nodes.node-index c.node-item.result) (item_at c.nodes.nodes c.nodes.node-index c.node-item.result (item_within c.nodes-test.true c.nodes.auto.nodes))
    c.take_turn.new.node c.take_turn.new.sequencer c.take_turn.ensures.on c.take_turn.ensures.same c.take_turn.ensures.keeps

pub returns-in_err-take_turn-clause-set_up : goal.returns-in_err-take_turn-clause-set_up
returns-in_err-take_turn-clause-set_up g c =
    left_set_up c.args.paused.now c.args.nodes.now c.args.sequencer.now c.nodes.nodes c.nodes.sequencer c.nodes.node-index c.nodes.invariant.1
    (slice_index_or c.nodes.nodes c.nodes.node-index c.node-item.result) (item_at c.nodes.nodes c.nodes.node-index c.node-item.result (item_within c.nodes-test.true c.nodes.auto.nodes))
    c.take_turn.new.node c.take_turn.new.sequencer c.take_turn.ensures.on c.take_turn.ensures.same c.take_turn.ensures.keeps

pub returns-in_err-take_turn-clause-bases : goal.returns-in_err-take_turn-clause-bases
returns-in_err-take_turn-clause-bases g c =
    left_bases c.args.paused.now c.args.nodes.now c.args.sequencer.now c.nodes.nodes c.nodes.sequencer c.nodes.node-index c.nodes.invariant.1
    (slice_index_or c.nodes.nodes c.nodes.node-index c.node-item.result) (item_at c.nodes.nodes c.nodes.node-index c.node-item.result (item_within c.nodes-test.true c.nodes.auto.nodes))
    c.take_turn.new.node c.take_turn.new.sequencer c.take_turn.ensures.on c.take_turn.ensures.same c.take_turn.ensures.keeps

pub nodes-preserved : goal.nodes-preserved
nodes-preserved g c =
    let inv = c.nodes.invariant in
    let k = c.nodes.node-index in
    let paused = c.args.paused.now in
    let first = c.args.nodes.now in
    let began = c.args.sequencer.now in
    let node = slice_index_or c.nodes.nodes k c.node-item.result in (
      ap (λ i. i + 1) inv.0,
      elim c.if-not-is_among.branch [
        | then-not-is_among+in_ok-take_turn w ↦
            subst (λ (ns : List NodeValue). IsTurning paused first began ns c.if-not-is_among.sequencer (k + 1)) (sym w.nodes-is)
            (subst (λ (q : Sequenced). IsTurning paused first began (slice_set c.nodes.nodes k w.take_turn.new.node) q (k + 1)) (sym w.sequencer-is)
            (turning_on paused first began c.nodes.nodes c.nodes.sequencer k inv.1 node (item_at c.nodes.nodes k c.node-item.result (item_within c.nodes-test.true c.nodes.auto.nodes))
            w.take_turn.new.node w.take_turn.new.sequencer w.take_turn.ensures.on w.take_turn.ensures.same w.take_turn.ensures.keeps
            (ap (has_place paused) (sym inv.0) ∙ (sym c.is_among.ensures ∙ w.if-not-is_among.true))
            w.in_ok-take_turn.ensures.sends w.in_ok-take_turn.ensures.has c.requires))
        | else-not-is_among w ↦
            subst (λ (ns : List NodeValue). IsTurning paused first began ns c.if-not-is_among.sequencer (k + 1)) (sym w.nodes-is)
            (subst (λ (q : Sequenced). IsTurning paused first began (slice_set c.nodes.nodes k node) q (k + 1)) (sym w.sequencer-is)
            (subst (λ (ns : List NodeValue). IsTurning paused first began ns c.nodes.sequencer (k + 1)) (sym (set_same c.nodes.nodes k c.node-item.result))
            (turning_past paused first began c.nodes.nodes c.nodes.sequencer k inv.1
            (ap (has_place paused) (sym inv.0) ∙ (sym c.is_among.ensures ∙ w.if-not-is_among.false)))))
      ],
    )

pub returns-clause-ok : goal.returns-clause-ok
returns-clause-ok g c =
    turning_ends c.args.paused.now c.args.nodes.now c.args.sequencer.now c.nodes.nodes c.nodes.sequencer c.nodes.node-index c.nodes.invariant.1
    (let ends = c.nodes.auto.node-index-end in let out = c.nodes-test.false in let same = c.nodes.auto.nodes in omega (arith, ends, out, same))
