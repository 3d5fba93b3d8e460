use Rattle.std.proofs.Common.{◌≡◌, ℕ, Some, vec_len}
use Rattle.std.specs.Prelude.{slice_get}
use Rattle.sync_shared.specs.Clients.{Seen}
use Rattle.shared_rounds.proofs.clients.clients_of.Given as goal

abbrev pub invariant-hosts : goal.invariant-hosts
invariant-hosts g l =
    (l.shared ≡ record l.fn.shared { out = l.at }) × (vec_len l.clients ≡ l.at)
    × ((p : ℕ) (client : Seen) → slice_get l.clients.items p ≡ Some client → client ≡ record { list = g.S.Session.start; tickets = 0; me = p })
