use Rattle.log_bounds.proofs.Requests.{confirmed_fit, seen_fit, views_fit}
use Rattle.log_bounds.proofs.laws.framed_paths_are_spellable.Goals as goal

pub returns-clause-views : goal.returns-clause-views
returns-clause-views c topology packages request framed = views_fit topology packages request framed.short_mediator

pub returns-clause-seen : goal.returns-clause-seen
returns-clause-seen c topology packages request p framed = seen_fit topology packages request framed.short_mediator p

pub returns-clause-confirmed : goal.returns-clause-confirmed
returns-clause-confirmed c topology packages request p framed = confirmed_fit topology packages request framed.short_mediator p
