-- The last entry of a log, to who has read the entries before it.
use Rattle.std.proofs.Common.{◌≡◌, ℕ, zero, suc, ◌+◌, ◌<◌, true, List, [], ◌∷◌, ◌++◌, length, take, Some, refl, ap, subst, arith}
use Rattle.std.specs.Prelude.{slice_get}
use Rattle.std.proofs.lemmas.List.{length-append}
use Rattle.std.proofs.lemmas.Option.{none-some, same_Some}
use Rattle.ledger_model.specs.Terms.{ParticipantId}
use Rattle.canton_model.specs.Log.{Params, FollowsTime, TimesFrom}
use Rattle.canton_model.specs.Reading.{Reading}
use Rattle.canton_model.specs.Genuine.{Genuine, FitsIfRequest}
use Rattle.canton_model.specs.Inbox.{inbox, items_after, last_time}
use Rattle.world_model.specs.Messages.{Entry, Message, Request, RequestMessage, ResponseMessage, VerdictMessage, Tick}

-- a list is what stands before its last item, and that
pub before_last : {X : Type 0} (xs : List X) (n : ℕ) (x : X) → length xs ≡ n + 1 → slice_get xs n ≡ Some x → xs ≡ take n xs ++ x ∷ []
before_last [] n x e h = absurd (none-some x h)
before_last (y ∷ []) zero x e h = ap (λ z. z ∷ []) (same_Some y x h)
before_last (y ∷ z ∷ zs) zero x e h = absurd (omega (arith, e))
before_last (y ∷ ys) (suc n) x e h = ap (λ zs. y ∷ zs) (before_last ys n x (omega (arith, e)) h)

pub front_of : {X : Type 0} (xs : List X) (x : X) (n : ℕ) → length (xs ++ x ∷ []) ≡ n + 1 → take n (xs ++ x ∷ []) ≡ xs
front_of [] x zero e = refl
front_of [] x (suc n) e = absurd (omega (arith, e))
front_of (y ∷ ys) x zero e = absurd (omega (arith, e, length-append ys (x ∷ [])))
front_of (y ∷ ys) x (suc n) e = ap (λ zs. y ∷ zs) (front_of ys x n (omega (arith, e)))

later : (m : Message) (before time : ℕ) → FollowsTime m before time → before < time
later (RequestMessage q) before time h = omega (arith, h)
later (ResponseMessage r) before time h = omega (arith, h)
later (VerdictMessage v) before time h = omega (arith, h)
later Tick before time h = h

module _ (reading : Reading) (p : ParticipantId) where
  rises_after : (start : ℕ) (front xs : List Entry) (e : Entry) → TimesFrom start (xs ++ e ∷ []) → last_time (items_after reading p front xs) < e.time
  rises_after start front [] e h = let lt = later e.message start e.time h.0 in omega arith
  rises_after start front (x ∷ []) e h = later e.message x.time e.time h.1.0
  rises_after start front (x ∷ y ∷ rest) e h = rises_after x.time (front ++ x ∷ []) (y ∷ rest) e h.1

  pub rises : (params : Params) (log : List Entry) (before : List Entry) (e : Entry) → Genuine reading params log → log ≡ before ++ e ∷ []
      → last_time (inbox reading p before) < e.time
  rises params log before e g is = rises_after 0 [] before e (subst (λ (xs : List Entry). TimesFrom 0 xs) is (g.timely).times)

pub framed_there : (reading : Reading) (params : Params) (log : List Entry) (k : ℕ) (e : Entry) → Genuine reading params log → slice_get log k ≡ Some e
    → (q : Request) → e.message ≡ RequestMessage q → reading.is_framed q ≡ true
framed_there reading params log k e g there q is =
    (subst (λ (m : Message). FitsIfRequest reading log k m) is (g.requests k e there)).is_framed
