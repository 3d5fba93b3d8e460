use Rattle.std.proofs.Common.{◌≡◌, ◌≤◌, length}
use Rattle.page_data.specs.Knowledge.{request_states_below}
use Rattle.page_data.proofs.gathering.request_states.Given as goal

abbrev pub invariant-places : goal.invariant-places
invariant-places l = (l.place ≤ length (l.inbox).items) × (l.states ≡ request_states_below l.inbox l.place)
