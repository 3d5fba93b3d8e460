use Rattle.view_split.proofs.Sight.{seen_put_back, seen_are_views}
use Rattle.view_split.proofs.laws.sight_is_projection.Goals as goal

pub returns-clause-acts : goal.returns-clause-acts
returns-clause-acts c = seen_put_back

pub returns-clause-views : goal.returns-clause-views
returns-clause-views c = seen_are_views
