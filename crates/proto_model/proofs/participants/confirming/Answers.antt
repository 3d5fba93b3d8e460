use Rattle.std.proofs.Common.{ℕ, ◌∙◌, sym}
use Rattle.ledger_terms.specs.Hosting.{confirms_at}
use Rattle.proto_model.specs.Made.{confirms_any_view}
use Rattle.proto_model.proofs.Making.{kept_next, left_next}
use Rattle.proto_model.proofs.participants.confirming.Goals as goal
use Rattle.proto_model.proofs.participants.confirming.Goals.{then-confirms_any_view+in_ok-push, else-confirms_any_view}

pub loop-p-preserved : goal.loop-p-preserved
loop-p-preserved c =
    elim c.if-confirms_any_view.branch [
      | then-confirms_any_view+in_ok-push w ↦ rw (w.asked-is, w.in_ok-push.ensures.ok)
          (kept_next (λ (p : ℕ). confirms_any_view (confirms_at c.args.topology.now.hosts p) c.args.views.now) _ _ _ _ _ c.loop-p-test.true c.p-item.is
          (sym c.confirms_any_view.ensures ∙ w.if-confirms_any_view.true) c.loop-p.invariant)
      | else-confirms_any_view w ↦ rw w.asked-is
          (left_next (λ (p : ℕ). confirms_any_view (confirms_at c.args.topology.now.hosts p) c.args.views.now) _ _ _ _ _ c.loop-p-test.true c.p-item.is
          (sym c.confirms_any_view.ensures ∙ w.if-confirms_any_view.false) c.loop-p.invariant)
    ]
