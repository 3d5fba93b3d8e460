use Rattle.std.proofs.Common.{◌≡◌, ◌≤◌, length}
use Rattle.page_data.specs.Waiting.{each_waiting}
use Rattle.page_data.proofs.waiting.waiting_over.Given as goal

abbrev pub invariant-places : goal.invariant-places
invariant-places l = (l.at ≤ length l.log) × (l.lists ≡ each_waiting l.params l.log l.at)
