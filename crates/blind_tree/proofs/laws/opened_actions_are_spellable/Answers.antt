use Rattle.blind_tree.proofs.OpenedActions.{opened_acts_have_room}
use Rattle.blind_tree.proofs.laws.opened_actions_are_spellable.Goals as goal

pub returns : goal.returns
returns c = opened_acts_have_room
