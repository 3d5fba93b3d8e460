use Rattle.std.proofs.Common.{◌≡◌, ◌++◌, map}
use Rattle.lang_eval.specs.Builtin.{with_archives, checked_packages}
use Rattle.lang_eval.proofs.checked.Checked.of.Given as goal

abbrev pub invariant-loop-given : goal.invariant-loop-given
invariant-loop-given l = l.checked ++ map with_archives l.given-iterator.rest.items ≡ checked_packages (l.fn).packages
