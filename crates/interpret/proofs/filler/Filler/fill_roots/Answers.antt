use Rattle.std.proofs.Common.{Result, Ok, sym, ap, ◌∙◌, arith, ℕ}
use Rattle.ledger_terms.specs.Grown.{tree_of}
use Rattle.ledger_terms.specs.Trees.{Actions}
use Rattle.interpret.specs.Act.{on}
use Rattle.interpret.specs.declared.command_fault.CommandFault.{CommandFault}
use Rattle.interpret.proofs.FilledLists.{roots_end, roots_more, some_at}
use Rattle.interpret.proofs.filler.Filler.fill_roots.Goals as goal

pub returns-in-None : goal.returns-in-None
returns-in-None g c =
    λ h. ap (λ (r : Result (Actions × ℕ) CommandFault). on r (λ x. Ok x.0)) (sym (roots_end _ _ _ _ _ _ c.in-None.ensures.lookup.3) ∙ c.loop-index.invariant.2)

pub loop-index-preserved : goal.loop-index-preserved
loop-index-preserved g c = (
  omega (arith, c.loop-index.invariant.0, c.in-Ok.ensures.grows.0),
  c.in-Ok.ensures.grows.1,
  sym (roots_more (g.K.KnownContracts.rows c.args.self.now.known.now) c.args.seed.now c.loop-index.index c.loop-index.count _ _ c.loop-index.filled _
      _ _ (some_at _ _ _ c.in-Some.ensures.lookup.3.0 c.in-Some.ensures.lookup.1) c.in_ok-place.ensures.left c.in_ok-place.ensures.path
      c.in_ok-place.ensures.seed _ (tree_of c.in-Ok.node) _ _ c.is_draft_named.ensures c.if-not-is_draft_named.false
      (c.in-Ok.ensures.filled (λ m. cc)) c.in_ok-push.ensures.ok)
      ∙ c.loop-index.invariant.2,
)
