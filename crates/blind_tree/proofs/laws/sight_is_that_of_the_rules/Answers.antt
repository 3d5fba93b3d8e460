use Rattle.blind_tree.proofs.Sights.{root_paths, seen_as_ruled, some_paths}
use Rattle.blind_tree.proofs.laws.sight_is_that_of_the_rules.Goals as goal

pub returns : goal.returns
returns c = record { paths = seen_as_ruled; views = some_paths; root_views = root_paths }
