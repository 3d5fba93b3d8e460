use Rattle.std.proofs.Common.{◌≡◌, ◌++◌, drop, string_bytes}
use Rattle.report_text.specs.Entries.{recipients_from}
use Rattle.report_text.proofs.entries.put_recipients_from.Given as goal

abbrev pub invariant-hosts : goal.invariant-hosts
invariant-hosts l =
    string_bytes l.out ++ recipients_from l.sender l.views l.at (drop l.at l.hosts) ≡ string_bytes l.fn.out ++ recipients_from l.sender l.views 0 l.hosts
