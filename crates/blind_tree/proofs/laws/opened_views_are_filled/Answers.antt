use Rattle.blind_tree.proofs.FilledLaws.{views_are_filled}
use Rattle.blind_tree.proofs.laws.opened_views_are_filled.Goals as goal

pub returns : goal.returns
returns c = views_are_filled
