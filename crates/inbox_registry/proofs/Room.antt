-- Room for the changes that are left.
use Rattle.std.proofs.Common.{◌≡◌, ℕ, suc, ◌+◌, ◌≤◌, List, ◌∷◌, length, ap, arith}
use Rattle.std.proofs.lemmas.List.Elements.{All-tail}
use Rattle.ledger_model.specs.Terms.{Hash}
use Rattle.inbox_registry.specs.Room.{HasRoom, IsPrepared}
use Rattle.inbox_registry.specs.declared.change.Change.{Change}

pub room_left : (ready ready' : List Hash) (spare spare' : ℕ) (x : Change) (xs all : List Change) → all ≡ x ∷ xs → ready' ≡ ready → spare ≤ spare' + 1
    → HasRoom ready spare all → HasRoom ready' spare' xs
room_left ready ready' spare spare' x xs all is same le room =
    let n : length all ≡ suc (length xs) = ap length is in
    let h = room.room in
    rw same (record { room = omega (arith, n, h, le); each = All-tail (IsPrepared ready) x xs (rw is at room.each) })
