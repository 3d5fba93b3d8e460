use Rattle.std.proofs.Common.{◌≡◌, ◌++◌, drop, string_bytes}
use Rattle.report_text.specs.Entries.{entry_lines}
use Rattle.report_text.proofs.entries.put_entries.Given as goal

abbrev pub invariant-entries : goal.invariant-entries
invariant-entries l =
    string_bytes l.out ++ entry_lines l.hosts l.place (drop l.place l.log) ≡ string_bytes l.fn.out ++ entry_lines l.hosts 0 l.log
