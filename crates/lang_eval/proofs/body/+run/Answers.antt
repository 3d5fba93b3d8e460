use Rattle.lang_eval.proofs.Runs.{when_yes, when_no}
use Rattle.lang_eval.proofs.body.+run.Goals as goal

pub run_stmt-returns-then-branch : goal.run_stmt-returns-then-branch
run_stmt-returns-then-branch t c =
    λ h. when_yes _ _ _ _ _ _ _ _ _ (c.run_side.ensures h) c.in-When.is c.if-branch.true (c.in_ok-eval_test-in-When.ensures (λ e. cc))

pub run_stmt-returns-else-branch : goal.run_stmt-returns-else-branch
run_stmt-returns-else-branch t c =
    λ h. when_no _ _ _ _ _ _ _ _ _ (c.run_side-in-When.ensures h) c.in-When.is c.if-branch.false (c.in_ok-eval_test-in-When.ensures (λ e. cc))
