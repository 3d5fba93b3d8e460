use Rattle.std.proofs.Common.{◌≢◌, ◌<◌, ◌+◌, ◌-◌, ◌*◌, Err, sym, ap, ◌∙◌, arith}
use Rattle.ledger_terms.specs.Grown.{tree_of, node_count}
use Rattle.interpret.specs.declared.command_fault.CommandFault.TheVariants.{Memory}
use Rattle.interpret.proofs.FilledLists.{tree_err, tree_ok, all_err, all_more, all_end, place_within, some_at}
use Rattle.interpret.proofs.filler.Filler.+fill.Goals as goal

pub fill_draft-returns-in-Err-clause-filled : goal.fill_draft-returns-in-Err-clause-filled
fill_draft-returns-in-Err-clause-filled g t c =
    λ h. let fresh : c.in-Err.fault ≢ Memory = λ m. h (ap Err m) in
    sym (tree_err (g.K.KnownContracts.rows c.args.self.now.known.now) c.args.place.now.left c.args.place.now.path c.args.place.now.seed
    c.args.count.now c.args.draft.now _ (omega arith) c.if-count-ge-MOST_ACTIONS.false (sym c.in-Some.is ∙ c.in_ok-action.ensures) _
    (c.in-Err.ensures.filled (λ m. fresh cc)))

pub fill_draft-returns-clause-filled : goal.fill_draft-returns-clause-filled
fill_draft-returns-clause-filled g t c =
    λ h. sym (tree_ok (g.K.KnownContracts.rows c.args.self.now.known.now) c.args.place.now.left c.args.place.now.path c.args.place.now.seed
    c.args.count.now c.args.draft.now _ (omega arith) c.if-count-ge-MOST_ACTIONS.false (sym c.in-Some.is ∙ c.in_ok-action.ensures) _ _
    (c.in-Ok.ensures.filled (λ m. cc)))

pub fill_list-returns-in-None-clause-filled : goal.fill_list-returns-in-None-clause-filled
fill_list-returns-in-None-clause-filled g t c =
    λ h. sym (all_end _ _ _ _ _ _ _ _ c.in-None.ensures.lookup.3) ∙ c.loop-index.invariant.3

pub fill_list-fill_draft-requires : goal.fill_list-fill_draft-requires
fill_list-fill_draft-requires g t c κs within =
    let inside = place_within c.as_slice-items.result.now c.args.drafts.now c.loop-index.index c.in-Some.draft.now c.as_slice-items.ensures
    (some_at _ _ _ c.in-Some.ensures.lookup.3.0 c.in-Some.ensures.lookup.1) in
    let below : 2 * node_count (tree_of c.in-Some.draft.now) < 2 * node_count c.args.drafts.now + 1 = omega (arith, inside) in
    (rw (← c.decreases) below, within)

pub fill_list-returns-in-Err-clause-filled : goal.fill_list-returns-in-Err-clause-filled
fill_list-returns-in-Err-clause-filled g t c =
    λ h. let fresh : c.in-Err.fault ≢ Memory = λ m. h (ap Err m) in
    sym (all_err (g.K.KnownContracts.rows c.args.self.now.known.now) (c.args.place.now.left - 1) c.args.place.now.seed c.args.place.now.path
    c.loop-index.index c.loop-index.count _ _ c.loop-index.filled _ _ _ (some_at _ _ _ c.in-Some.ensures.lookup.3.0 c.in-Some.ensures.lookup.1)
    c.in_ok-below.ensures.left c.in_ok-below.ensures.path c.in_ok-below.ensures.seed _ (c.in-Err.ensures.filled (λ m. fresh cc)))
    ∙ c.loop-index.invariant.3

pub fill_list-loop-index-preserved : goal.fill_list-loop-index-preserved
fill_list-loop-index-preserved g t c = (
  omega (arith, c.loop-index.invariant.0, c.in-Ok.ensures.grows.0),
  c.in-Ok.ensures.grows.1,
  omega (arith, c.loop-index.invariant.2, c.in-Ok.ensures.grows.0),
  sym (all_more (g.K.KnownContracts.rows c.args.self.now.known.now) (c.args.place.now.left - 1) c.args.place.now.seed c.args.place.now.path
      c.loop-index.index c.loop-index.count _ _ c.loop-index.filled _ _ _ (some_at _ _ _ c.in-Some.ensures.lookup.3.0 c.in-Some.ensures.lookup.1)
      c.in_ok-below.ensures.left c.in_ok-below.ensures.path c.in_ok-below.ensures.seed (tree_of c.in-Ok.node) _ _
      (c.in-Ok.ensures.filled (λ m. cc)) c.in_ok-push.ensures.ok)
      ∙ c.loop-index.invariant.3,
)
