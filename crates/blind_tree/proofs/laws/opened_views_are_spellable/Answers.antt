use Rattle.blind_tree.proofs.SpelledViews.{views_have_room}
use Rattle.blind_tree.proofs.laws.opened_views_are_spellable.Goals as goal

pub returns : goal.returns
returns c = views_have_room
