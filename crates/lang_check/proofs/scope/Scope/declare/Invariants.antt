use Rattle.std.proofs.Common.{◌≡◌, ◌++◌, drop}
use Rattle.lang_eval.specs.Typed.{scope_of}
use Rattle.lang_check.proofs.scope.Scope.declare.Given as goal

abbrev pub invariant-decls : goal.invariant-decls
invariant-decls l = l.self ++ scope_of l.first (drop l.decl-index l.decls) ≡ l.fn.self ++ scope_of l.first l.decls
