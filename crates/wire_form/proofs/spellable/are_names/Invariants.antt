use Rattle.std.proofs.Common.{drop}
use Rattle.std.specs.List.{AllByRecursion}
use Rattle.ledger_terms.specs.Names.{IsName}
use Rattle.wire_form.proofs.spellable.are_names.Given as goal

-- all are names where those that are left are
abbrev pub invariant-loop-name : goal.invariant-loop-name
invariant-loop-name l = AllByRecursion IsName (drop l.name-index l.names) → AllByRecursion IsName l.names
