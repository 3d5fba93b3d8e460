use Rattle.std.proofs.Common.{◌≡◌, [], ◌∷◌, take, drop}
use Rattle.lang_check.specs.Packages.{packages_from}
use Rattle.lang_check.proofs.packages.check_given.Given as goal

abbrev pub invariant-packages : goal.invariant-packages
invariant-packages l = packages_from l.i (l.note ∷ take l.i l.packages) (drop l.i l.packages) ≡ packages_from 0 (l.note ∷ []) l.packages
