use Rattle.std.proofs.Common.{◌≡◌, ◌≤◌, length}
use Rattle.page_data.specs.Owing.{owed_below}
use Rattle.page_data.proofs.owing.owed_by.Given as goal

abbrev pub invariant-places : goal.invariant-places
invariant-places l = (l.place ≤ length (l.inbox).items) × (l.all ≡ owed_below l.inbox l.place)
