use Rattle.std.proofs.Common.{◌≡◌, ◌++◌, drop, string_bytes}
use Rattle.report_text.specs.Entries.{hosts_text}
use Rattle.report_text.proofs.entries.put_hosts.Given as goal

abbrev pub invariant-ids : goal.invariant-ids
invariant-ids l =
    string_bytes l.out ++ hosts_text l.hosts (drop l.id-index l.ids) ≡ string_bytes l.fn.out ++ hosts_text l.hosts l.ids
