use Rattle.std.proofs.Common.{◌<◌, ℕ, length, sym, ap, subst}
use Rattle.std.specs.Prelude.{slice_index_or}
use Rattle.ledger_terms.specs.declared.submission.Submission.{Submission}
use Rattle.world_play.proofs.Asked.{answered, can_answer}
use Rattle.world_play.proofs.Flagged.{paused_then}
use Rattle.world_play.proofs.Passing.{bases_then, inbox_turned, item_at, lawful_then, nodes_then, set_up_then}
use Rattle.world_play.proofs.Submits.{if_ok}
use Rattle.world_play.proofs.submitting_each.answer_slice.Goals as goal

pub answer-requires : goal.answer-requires
answer-requires g c =
    let nodes = c.args.nodes.now in
    let k = c.what.inside.0.0.0 in
    let own = ap (λ (w : Submission). w.participant) c.what.view_is in
    let lt = subst (λ (i : ℕ). i < length nodes) (sym own) c.requires.there in
    let r = c.requires.lawful in
    let w = c.requires.within in (
      r.0,
      can_answer nodes c.args.sequencer.now c.args.what.now k own (slice_index_or nodes k c.index-nodes-at.result)
          (item_at nodes k c.index-nodes-at.result lt) r.0 r.1 r.2 r.3 r.4 w.0 w.1 w.2 w.3 c.requires.there,
    )

pub returns-clause-nodes : goal.returns-clause-nodes
returns-clause-nodes g c =
    let nodes = c.args.nodes.now in
    let k = c.what.inside.0.0.0 in
    let own = ap (λ (w : Submission). w.participant) c.what.view_is in
    let lt = subst (λ (i : ℕ). i < length nodes) (sym own) c.requires.there in
    let s = c.args.sequencer.now in
    let node = slice_index_or nodes k c.index-nodes-at.result in
    let at = item_at nodes k c.index-nodes-at.result lt in
    let r = c.requires.lawful in
    nodes_then nodes s k node at c.answer.new.node c.answer.new.sequencer c.answer.ensures.on c.answer.ensures.same
    (inbox_turned nodes s k node at c.answer.new.node c.answer.new.sequencer c.answer.ensures.keeps r.0 r.1 r.2 r.3 r.4)

pub returns-clause-lawful : goal.returns-clause-lawful
returns-clause-lawful g c =
    let nodes = c.args.nodes.now in
    let k = c.what.inside.0.0.0 in
    let own = ap (λ (w : Submission). w.participant) c.what.view_is in
    let lt = subst (λ (i : ℕ). i < length nodes) (sym own) c.requires.there in
    lawful_then nodes c.args.sequencer.now k (slice_index_or nodes k c.index-nodes-at.result)
    (item_at nodes k c.index-nodes-at.result lt) c.answer.new.node c.answer.new.sequencer c.answer.ensures.on c.answer.ensures.same c.answer.ensures.keeps

pub returns-clause-set_up : goal.returns-clause-set_up
returns-clause-set_up g c =
    let nodes = c.args.nodes.now in
    let k = c.what.inside.0.0.0 in
    let own = ap (λ (w : Submission). w.participant) c.what.view_is in
    let lt = subst (λ (i : ℕ). i < length nodes) (sym own) c.requires.there in
    set_up_then nodes c.args.sequencer.now k (slice_index_or nodes k c.index-nodes-at.result)
    (item_at nodes k c.index-nodes-at.result lt) c.answer.new.node c.answer.ensures.same

pub returns-clause-bases : goal.returns-clause-bases
returns-clause-bases g c =
    let nodes = c.args.nodes.now in
    let k = c.what.inside.0.0.0 in
    let own = ap (λ (w : Submission). w.participant) c.what.view_is in
    let lt = subst (λ (i : ℕ). i < length nodes) (sym own) c.requires.there in
    bases_then nodes c.args.sequencer.now k (slice_index_or nodes k c.index-nodes-at.result)
    (item_at nodes k c.index-nodes-at.result lt) c.answer.new.node c.answer.ensures.same

pub returns-clause-paused : goal.returns-clause-paused
returns-clause-paused g c =
    let nodes = c.args.nodes.now in
    let k = c.what.inside.0.0.0 in
    let own = ap (λ (w : Submission). w.participant) c.what.view_is in
    let lt = subst (λ (i : ℕ). i < length nodes) (sym own) c.requires.there in
    paused_then nodes k (slice_index_or nodes k c.index-nodes-at.result)
    (item_at nodes k c.index-nodes-at.result lt) c.answer.new.node c.answer.ensures.flag

pub returns-clause-answers : goal.returns-clause-answers
returns-clause-answers g c =
    let nodes = c.args.nodes.now in
    let k = c.what.inside.0.0.0 in
    let own = ap (λ (w : Submission). w.participant) c.what.view_is in
    let lt = subst (λ (i : ℕ). i < length nodes) (sym own) c.requires.there in
    if_ok c.answer.result _ _ c.answer.ensures.answers
    (λ answer h.
    answered nodes c.args.sequencer.now c.args.what.now k own (slice_index_or nodes k c.index-nodes-at.result)
    (item_at nodes k c.index-nodes-at.result lt) c.args.now answer c.answer.new.sequencer h)
