use Rattle.lang_eval.proofs.SameChoices.{when_same}
use Rattle.lang_eval.proofs.same.+stmts.Goals as goal

pub same_stmts-returns-then-same_bodies : goal.same_stmts-returns-then-same_bodies
same_stmts-returns-then-same_bodies t c =
    λ h. when_same _ _ _ _ _ _ _ _ c.in-When.is c.in-When-b.is (c.same_exprs.ensures c.if-not-same_exprs.false)
    (c.same_bodies.ensures c.if-same_bodies.true) (c.same_bodies-then-same_bodies.ensures h)
