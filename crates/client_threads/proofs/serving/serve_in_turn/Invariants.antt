use Rattle.std.proofs.Common.{◌≡◌, ◌+◌, ℕ, Some, drop, length}
use Rattle.std.specs.Prelude.{All, slice_get}
use Rattle.sync_shared.specs.Clients.{Seen}
use Rattle.client_threads.specs.Served.{IsServed}
use Rattle.client_threads.proofs.serving.serve_in_turn.Given as goal

-- so many are served, and the others are left
abbrev pub invariant-clients : goal.invariant-clients
invariant-clients g l =
    (drop (length l.all.items) l.fn.clients.items ≡ l.client-iterator.rest.items)
    × (length l.all.items + length l.client-iterator.rest.items ≡ length l.fn.clients.items)
    × All (λ (client : Seen). client.tickets ≡ 0) l.client-iterator.rest.items
    × ((p : ℕ) (client : Seen) (served : _) → slice_get l.fn.clients.items p ≡ Some client → slice_get l.all.items p ≡ Some served
    → IsServed g.S.Session.machine g.S.Session.why l.shared.round.time l.shared.round.paused client.list l.submits client.me
    served.client served.results)
