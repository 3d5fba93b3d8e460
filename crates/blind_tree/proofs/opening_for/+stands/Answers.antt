use Rattle.std.proofs.Common.{◌≡◌, ◌∷◌, ◌∙◌, false, sym, subst, arith}
use Rattle.blind_tree.specs.OpenedFor.{stands_at}
use Rattle.blind_tree.specs.Vertices.{Vertices}
use Rattle.blind_tree.proofs.ListedLaws.{stands_none, stands_nth, stands_past}
use Rattle.blind_tree.proofs.opening_for.+stands.Goals as goal

pub stands-returns-in-empty : goal.stands-returns-in-empty
stands-returns-in-empty t c = sym (stands_none c.args.vertices.now c.args.path.now (omega (arith, c.in-empty.len_below)))

pub stands_below-returns-then-step-items : goal.stands_below-returns-then-step-items
stands_below-returns-then-step-items t c =
    sym (subst (λ (v : Vertices). stands_at 0 v (c.args.step ∷ c.args.rest.now) ≡ false) c.as_slice-items.ensures
    (stands_past c.as_slice-items.result.now 0 c.args.step c.args.rest.now (omega (arith, c.if-step-items.true))))

pub stands_below-returns : goal.stands_below-returns
stands_below-returns t c =
    subst (λ (v : Vertices). c.stands_in.result ≡ stands_at 0 v (c.args.step ∷ c.args.rest.now)) c.as_slice-items.ensures
    (c.stands_in.ensures
    ∙ sym (stands_nth c.as_slice-items.result.now c.args.step c.index-items-step.result c.args.rest.now (omega (arith, c.if-step-items.false)) c.index-items-step.is))
