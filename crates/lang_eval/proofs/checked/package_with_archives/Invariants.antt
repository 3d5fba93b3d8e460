use Rattle.std.proofs.Common.{◌≡◌, ◌++◌, map, take, drop}
use Rattle.lang_eval.specs.Builtin.{with_archive}
use Rattle.lang_eval.proofs.checked.package_with_archives.Given as goal

abbrev pub invariant-loop-i : goal.invariant-loop-i
invariant-loop-i l = l.templates.items ≡ map with_archive (take l.i (l.fn.given).templates) ++ drop l.i (l.fn.given).templates
