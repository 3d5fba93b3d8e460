use Rattle.project.specs.Informed.{is_informed}
use Rattle.project.proofs.Kept.{project_again}
use Rattle.project.proofs.laws.projecting_again_changes_nothing.Goals as goal

pub returns : goal.returns
returns c packages parties roots = project_again (is_informed packages parties) roots
