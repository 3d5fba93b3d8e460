use Rattle.std.proofs.Common.{◌≡◌, ◌-◌, ◌^◌, length}
use Rattle.sync_shared.proofs.submitting.catch_up.Given as goal

abbrev pub invariant-entries : goal.invariant-entries
invariant-entries g l = l.client ≡ l.initial.client

abbrev pub decreases-entries : goal.decreases-entries
decreases-entries g l = 2 ^ 64 - length l.node
