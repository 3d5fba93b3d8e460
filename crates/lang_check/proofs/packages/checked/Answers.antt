use Rattle.std.proofs.Common.{sym, ◌∙◌, ap}
use Rattle.lang_check.specs.Packages.{walk}
use Rattle.lang_check.proofs.Wholes.{walk_sound}
use Rattle.lang_check.proofs.packages.checked.Goals as goal

pub of-requires : goal.of-requires
of-requires c = walk_sound _ (ap walk (sym c.as_slice.ensures) ∙ c.in_ok-check_packages.ensures)
