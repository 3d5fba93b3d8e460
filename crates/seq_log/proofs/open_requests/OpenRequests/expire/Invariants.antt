use Rattle.std.proofs.Common.{◌≡◌, ◌≤◌, ℕ}
use Rattle.std.specs.Prelude.{nat_lt}
use Rattle.std.specs.VecDeque.{deque_len, deque_capacity}
use Rattle.canton_model.specs.Log.{decision_time_of}
use Rattle.log_row.specs.LogPrefix.{LogPrefix}
use Rattle.seq_log.specs.OpenRequests.{after_front}
use Rattle.seq_log.specs.Slips.{Holds}
use Rattle.seq_log.proofs.open_requests.OpenRequests.expire.Given as goal

abbrev pub invariant-front : goal.invariant-front
invariant-front l =
    ((t : LogPrefix) → Holds t (l.slips).items
    → after_front (λ (k : ℕ). nat_lt (decision_time_of l.params t.list k) l.time) (l.self.places).items
    ≡ after_front (λ (k : ℕ). nat_lt (decision_time_of l.params t.list k) l.time) (l.fn.self.places).items)
    × (deque_len l.self.places ≤ deque_len l.fn.self.places)
    × (deque_capacity l.self.places ≡ deque_capacity l.fn.self.places)

abbrev pub decreases-front : goal.decreases-front
decreases-front l = deque_len l.self.places
