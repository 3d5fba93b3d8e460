-- Names as the kinds of their values.
use Rattle.std.specs.Prelude.{ℕ, List, map}
use Rattle.ledger_terms.specs.declared.kind.Kind.{Kind}
use Rattle.lang_eval.specs.declared.binding.Binding.{Binding}
use Rattle.lang_eval.specs.Names.{Names}
use Rattle.lang_eval.specs.Kinds.{kind_of}
use Rattle.lang_eval.specs.Typed.{Scope}

-- the name of a binding with the kind of its value
abbrev pub named_kind : Binding → List ℕ × Kind
named_kind b = (b.name, kind_of b.value)

-- the scope of the names that are bound: each with the kind of its value
abbrev pub kinds_in : Names → Scope
kinds_in names = map named_kind names
