use Rattle.view_split.proofs.Holes.{filled}
use Rattle.view_split.proofs.laws.each_hole_has_a_view.Goals as goal

pub returns : goal.returns
returns c = filled
