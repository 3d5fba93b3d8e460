use Rattle.log_bounds.proofs.Told.{outline_is_small}
use Rattle.log_bounds.proofs.laws.told_views_are_few.Goals as goal

pub returns-clause-few : goal.returns-clause-few
returns-clause-few c request = (outline_is_small request).0

pub returns-clause-nested : goal.returns-clause-nested
returns-clause-nested c request = (outline_is_small request).1
