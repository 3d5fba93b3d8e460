use Rattle.std.proofs.Common.{◌≡◌, drop}
use Rattle.lang_eval.specs.Typed.{package_names}
use Rattle.lang_check.specs.Statements.{is_among}
use Rattle.lang_check.proofs.nameable.is_package.Given as goal

abbrev pub invariant-packages : goal.invariant-packages
invariant-packages l = is_among l.name (package_names (drop l.package-index l.packages)) ≡ is_among l.name (package_names l.packages)
