use Rattle.std.proofs.Common.{◌≡◌, take}
use Rattle.script_read.specs.Hosts.{package_names}
use Rattle.script_read.proofs.vetting.package_names.Given as goal

abbrev pub invariant-loop-package : goal.invariant-loop-package
invariant-loop-package l = l.names ≡ package_names (take l.package-index l.packages)
