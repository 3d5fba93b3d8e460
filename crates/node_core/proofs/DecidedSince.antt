-- Since when a request is decided.
use Rattle.std.proofs.Common.{◌≡◌, ℕ, Bool, true, length, Option, Some, None, refl, arith}
use Rattle.std.specs.Prelude.{unwrap_or}
use Rattle.canton_model.specs.Inbox.{is_decided_in}
use Rattle.world_model.specs.Places.{first_from}
use Rattle.world_model.proofs.NodeFacts.{first_from_is, first_from_none}
use Rattle.node_inbox.specs.InboxState.{decided_since}
use Rattle.node_core.specs.Participant.{IsDecidedSince, Participant, is_decided_there, items_of, params_of}

-- the place since when it is decided is the least at which it is
pub is_least : (p : Participant) (k : ℕ) → is_decided_there p k ≡ true → IsDecidedSince p k (decided_since (params_of p) (items_of p) k)
is_least p k h = by (first_from test 0 count) refl
  where
    test : ℕ → Bool
    test = is_decided_in (params_of p) (items_of p) k

    count : ℕ
    count = length (items_of p)

    by : (o : Option ℕ) → first_from test 0 count ≡ o → IsDecidedSince p k (unwrap_or o count)
    by None e = record { up_to = omega arith; decided = h; undecided = λ i lt. first_from_none test 0 count e i (omega arith) (omega (arith, lt)) }
    by (Some at) e =
        let first = first_from_is test 0 count at e in
        let below = first.below in
        record { up_to = omega (arith, below); decided = first.passes; undecided = λ i lt. first.none i (omega arith) lt }
