use Rattle.std.proofs.Common.{sym}
use Rattle.interpret.proofs.Handed.{kinds_other}
use Rattle.interpret.proofs.interpretation.args_have_kinds.Goals as goal

pub returns-then-args-decls : goal.returns-then-args-decls
returns-then-args-decls c = sym (kinds_other _ _ (λ e. absurd (c.if-args-decls.true e)))
