use Rattle.view_split.proofs.Once.{stands_with_number, number_is_place, one_core}
use Rattle.view_split.proofs.laws.each_action_stands_in_one_core.Goals as goal

pub returns-clause-stands : goal.returns-clause-stands
returns-clause-stands c = stands_with_number

pub returns-clause-numbered : goal.returns-clause-numbered
returns-clause-numbered c = number_is_place

pub returns-clause-once : goal.returns-clause-once
returns-clause-once c = one_core
