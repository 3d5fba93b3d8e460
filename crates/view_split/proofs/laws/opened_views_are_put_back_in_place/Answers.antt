use Rattle.ledger_model.specs.Forest.{trees_of}
use Rattle.ledger_model.proofs.Lists.{in_from_Contains}
use Rattle.view_split.specs.SeenViews.{placed_numbered}
use Rattle.view_split.proofs.InPlace.{put_back_in_place}
use Rattle.view_split.proofs.laws.opened_views_are_put_back_in_place.Goals as goal

pub returns : goal.returns
returns c placed view core n first subviews filled there =
    put_back_in_place placed view core n first subviews filled (in_from_Contains (trees_of (placed_numbered placed)) _ there)
