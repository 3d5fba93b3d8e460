use Rattle.std.proofs.Common.{◌≡◌, ◌≤◌, ℕ}
use Rattle.node_inbox.specs.Places.{tracked_below}
use Rattle.node_inbox.proofs.approved_places.bring_up.Given as goal

abbrev pub invariant-loop-place : goal.invariant-loop-place
invariant-loop-place l =
    (l.approved.below ≡ l.place)
    × (l.approved.places ≡ tracked_below l.registry.tracking.pairs l.approved.below)
    × ((n : ℕ) → l.fn.approved.below ≤ n → l.end ≤ n → l.approved.below ≤ n)
