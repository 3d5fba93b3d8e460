use Rattle.ledger_model.specs.Language.{roles_of}
use Rattle.view_split.proofs.Sight.{seen_put_back}
use Rattle.view_split.proofs.Shown.{opened_are, seen_paths_are}
use Rattle.view_split.proofs.laws.seen_views_open_what_the_rules_open.Goals as goal

pub returns-clause-acts : goal.returns-clause-acts
returns-clause-acts c language hosts roots = seen_put_back (roles_of language) hosts roots

pub returns-clause-views : goal.returns-clause-views
returns-clause-views c = opened_are

pub returns-clause-paths : goal.returns-clause-paths
returns-clause-paths c = seen_paths_are
