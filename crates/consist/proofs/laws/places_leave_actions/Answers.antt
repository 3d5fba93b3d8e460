use Rattle.consist.proofs.Places.{acts_of_placed, acts_of_placed_in, acts_without_requesters}
use Rattle.consist.proofs.laws.places_leave_actions.Goals as goal

pub returns : goal.returns
returns c = record { transaction = acts_of_placed; parts = acts_of_placed_in; ledger = acts_without_requesters }
