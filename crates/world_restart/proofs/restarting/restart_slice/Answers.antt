use Rattle.std.proofs.Common.{◌<◌, ◌^◌, ◌+◌, ◌∙◌, ℕ, List, ap, arith, length, refl, subst, sym}
use Rattle.std.specs.Prelude.{slice_index_or}
use Rattle.world_model.specs.Places.{has_place}
use Rattle.seq_log.specs.Sequenced.{Sequenced}
use Rattle.node_core.specs.Participant.{Participant as NodeValue}
use Rattle.world_play.specs.Parts.{IsParticipant}
use Rattle.world_play.proofs.Each.{AreDone, done_on, done_starts, first_at}
use Rattle.world_play.proofs.Passing.{in_turn, item_at, item_within}
use Rattle.world_restart.specs.Restarting.{IsRestarted, StaysParticipant}
use Rattle.world_restart.proofs.Walks.{Walked, all_remain, all_restarted, passed_by, remain_then, walked}
use Rattle.world_restart.proofs.restarting.restart_slice.Goals as goal
use Rattle.world_restart.proofs.restarting.restart_slice.Goals.{then-is_among+in_ok-restart_one, else-is_among}

pub restart_one-requires-clause-short : goal.restart_one-requires-clause-short
restart_one-requires-clause-short c = subst (λ (q : Sequenced). length q.list < 2 ^ 15) (sym c.nodes.invariant.1) c.requires.short

pub restart_one-requires-clause-setup : goal.restart_one-requires-clause-setup
restart_one-requires-clause-setup c =
    let k = c.nodes.node-index in
    let node = slice_index_or c.nodes.nodes k c.node-item.result in
    let at = item_at c.nodes.nodes k c.node-item.result (item_within c.nodes-test.true c.nodes.auto.nodes) in
    c.requires.set_up.each k node (first_at (Walked c.args.participants.now c.args.sequencer.now) c.args.nodes.now c.nodes.nodes k c.nodes.invariant.2 node at)

pub restart_one-requires-clause-is : goal.restart_one-requires-clause-is
restart_one-requires-clause-is c =
    let k = c.nodes.node-index in
    let s = c.args.sequencer.now in
    let l = c.requires.lawful in
    let node = slice_index_or c.nodes.nodes k c.node-item.result in
    let at = item_at c.nodes.nodes k c.node-item.result (item_within c.nodes-test.true c.nodes.auto.nodes) in
    let first = first_at (Walked c.args.participants.now s) c.args.nodes.now c.nodes.nodes k c.nodes.invariant.2 node at in (
      l.0,
      k,
      subst (IsParticipant l.0 k node) (sym c.nodes.invariant.1) (in_turn c.args.nodes.now s k node first l.0 l.1 l.2 l.3 l.4),
    )

pub returns-in_err-restart_one-clause-remain : goal.returns-in_err-restart_one-clause-remain
returns-in_err-restart_one-clause-remain c =
    let k = c.nodes.node-index in
    let s = c.args.sequencer.now in
    let node = slice_index_or c.nodes.nodes k c.node-item.result in
    let at = item_at c.nodes.nodes k c.node-item.result (item_within c.nodes-test.true c.nodes.auto.nodes) in
    remain_then c.args.participants.now s c.args.nodes.now c.nodes.nodes k c.nodes.invariant.2 node at c.restart_one.new.node
    (subst (λ (q : Sequenced). StaysParticipant q node c.restart_one.new.node) c.nodes.invariant.1 c.restart_one.ensures.remains)

pub nodes-init : goal.nodes-init
nodes-init c = (refl, refl, done_starts (Walked c.args.participants.now c.args.sequencer.now) c.args.nodes.now)

pub returns-in_err-restart_one-clause-log : goal.returns-in_err-restart_one-clause-log
returns-in_err-restart_one-clause-log c = c.restart_one.ensures.log ∙ c.nodes.invariant.1

pub returns-clause-log : goal.returns-clause-log
returns-clause-log c = c.nodes.invariant.1

pub nodes-preserved : goal.nodes-preserved
nodes-preserved c =
    let inv = c.nodes.invariant in
    let k = c.nodes.node-index in
    let participants = c.args.participants.now in
    let first = c.args.nodes.now in
    let s = c.args.sequencer.now in
    let item = c.node-item.result in
    let node = slice_index_or c.nodes.nodes k item in
    let at = item_at c.nodes.nodes k item (item_within c.nodes-test.true c.nodes.auto.nodes) in (
      ap (λ (i : ℕ). i + 1) inv.0,
      elim c.if-is_among.branch [
        | then-is_among+in_ok-restart_one w ↦ w.sequencer-is ∙ (w.restart_one.ensures.log ∙ inv.1)
        | else-is_among w ↦ w.sequencer-is ∙ inv.1
      ],
      elim c.if-is_among.branch [
        | then-is_among+in_ok-restart_one w ↦
            subst (λ (ns : List NodeValue). AreDone (Walked participants s) first ns (k + 1)) (sym w.nodes-is)
            (done_on (Walked participants s) first c.nodes.nodes k inv.2 node at w.restart_one.new.node
            (walked participants s k node w.restart_one.new.node (ap (has_place participants) (sym inv.0) ∙ (sym c.is_among.ensures ∙ w.if-is_among.true))
            (subst (λ (q : Sequenced). StaysParticipant q node w.restart_one.new.node) inv.1 w.restart_one.ensures.remains)
            (subst (λ (q : Sequenced). IsRestarted q.list node w.restart_one.new.node) inv.1 w.in_ok-restart_one.ensures.restarted)))
        | else-is_among w ↦
            subst (λ (ns : List NodeValue). AreDone (Walked participants s) first ns (k + 1)) (sym w.nodes-is)
            (done_on (Walked participants s) first c.nodes.nodes k inv.2 node at node
            (passed_by participants s k node (ap (has_place participants) (sym inv.0) ∙ (sym c.is_among.ensures ∙ w.if-is_among.false))))
      ],
    )

pub returns-clause-remain : goal.returns-clause-remain
returns-clause-remain c =
    all_remain c.args.participants.now c.args.sequencer.now c.args.nodes.now c.nodes.nodes c.nodes.node-index c.nodes.invariant.2
    (let ends = c.nodes.auto.node-index-end in let out = c.nodes-test.false in let same = c.nodes.auto.nodes in omega (arith, ends, out, same))

pub returns-clause-restarted : goal.returns-clause-restarted
returns-clause-restarted c =
    all_restarted c.args.participants.now c.args.sequencer.now c.args.nodes.now c.nodes.nodes c.nodes.node-index c.nodes.invariant.2
    (let ends = c.nodes.auto.node-index-end in let out = c.nodes-test.false in let same = c.nodes.auto.nodes in omega (arith, ends, out, same))
