use Rattle.std.proofs.Common.{◌≡◌, ◌++◌, ◌-◌, string_bytes}
use Rattle.report_text.specs.Actions.{indent}
use Rattle.report_text.proofs.actions.put_indent.Given as goal

abbrev pub invariant-levels : goal.invariant-levels
invariant-levels l =
    string_bytes l.out ++ indent (l.level - l.counter) ≡ string_bytes l.fn.out ++ indent l.level
