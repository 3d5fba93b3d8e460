use Rattle.lang_check.proofs.Wholes.{walk_sound, walk_complete}
use Rattle.lang_check.proofs.laws.faultless_packages_are_typed.Goals as goal

pub returns : goal.returns
returns c packages = (walk_sound packages, walk_complete packages)
