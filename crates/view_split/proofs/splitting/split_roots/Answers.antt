use Rattle.std.proofs.Common.{◌∙◌, ap}
use Rattle.std.specs.Prelude.{◌∷◌, ◌++◌, ◌%◌, ◌^◌, [], List, ℕ}
use Rattle.std.proofs.lemmas.Result.{err_from_is_err_and}
use Rattle.lang_eval.specs.Language.{roles_in}
use Rattle.view_split.proofs.Walks.{split_more}
use Rattle.view_split.proofs.FaultFacts.{found_here, none_so_far}
use Rattle.view_split.proofs.splitting.split_roots.Goals as goal

pub loop-at-preserved : goal.loop-at-preserved
loop-at-preserved c = (
  split_more (roles_in c.args.checked.now) _ _ _ _ _ _ c.loop-at-test.true c.index-nodes-at.is c.loop-at.invariant.0 c.in_ok-split_root.ensures.view c.in_ok-push.ensures.ok,
  none_so_far c.args.checked.now [] _ _ _ _ c.loop-at-test.true c.index-nodes-at.is (c.in_ok-path.ensures ∙ ap (λ (p : List ℕ). p ++ c.loop-at.at % 2 ^ 16 ∷ []) c.new-top.ensures) c.in_ok-split_root.ensures.fault c.loop-at.invariant.1,
)

pub returns-in_err-split_root-clause-fault : goal.returns-in_err-split_root-clause-fault
returns-in_err-split_root-clause-fault c =
    let p = err_from_is_err_and c.from_residual-in_err-split_root.result c.from_residual-in_err-split_root.ensures.1 in
    rw (p.1, p.2, ← c.as_slice-nodes.ensures)
    (found_here c.args.checked.now [] _ _ _ _ _ c.loop-at-test.true c.index-nodes-at.is (c.in_ok-path.ensures ∙ ap (λ (p : List ℕ). p ++ c.loop-at.at % 2 ^ 16 ∷ []) c.new-top.ensures) c.in_err-split_root.ensures.fault c.loop-at.invariant.1)
