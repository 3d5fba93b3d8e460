use Rattle.std.proofs.Common.{◌≡◌, ◌++◌, drop, string_bytes}
use Rattle.std.specs.List.{flat_map}
use Rattle.report_text.specs.Participants.{commit_lines}
use Rattle.report_text.proofs.participants.put_commits.Given as goal

abbrev pub invariant-commits : goal.invariant-commits
invariant-commits l =
    string_bytes l.out ++ flat_map commit_lines (drop l.commit-index l.commits) ≡ string_bytes l.fn.out ++ flat_map commit_lines l.commits
