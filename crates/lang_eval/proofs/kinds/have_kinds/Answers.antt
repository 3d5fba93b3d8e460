use Rattle.std.proofs.Common.{sym}
use Rattle.lang_eval.proofs.KindLists.{kinds_other}
use Rattle.lang_eval.proofs.kinds.have_kinds.Goals as goal

pub returns-then-values-decls : goal.returns-then-values-decls
returns-then-values-decls c = sym (kinds_other _ _ (λ e. absurd (c.if-values-decls.true e)))
