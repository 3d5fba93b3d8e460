-- Who is asked, and what is due of who is.
use Rattle.std.proofs.Common.{◌≡◌, ℕ, Bool, true, false, List, [], ◌∷◌, Option, Some, None, refl, sym, ap, ◌∙◌, subst, inl, inr, not, nat_eq}
use Rattle.std.specs.Prelude.{◌&&◌, find, is_some}
use Rattle.std.proofs.lemmas.Bool.{cases_Bool, eqb-true, eq-eqb, and_parts}
use Rattle.std.proofs.lemmas.Option.{none-some, same_Some}
use Rattle.ledger_model.specs.Terms.{ParticipantId}
use Rattle.ledger_model.proofs.Lists.{In, in_any, from_any, in_from_Contains, contains_from_In}
use Rattle.canton_model.specs.Log.{Params, request_at}
use Rattle.canton_model.specs.Genuine.{IsReading}
use Rattle.canton_model.specs.Mediation.{has_responded}
use Rattle.canton_model.proofs.Fits.{framed_of}
use Rattle.world_model.specs.Messages.{Entry, Request}
use Rattle.world_model.specs.Machine.{Machine, GenuineLog, is_asked}
use Rattle.world_model.specs.Places.{has_place}
use Rattle.world_model.specs.Settled.{is_asked_in, is_due, is_undecided}
use Rattle.world_model.proofs.NodeFacts.{asked_confirms, confirming_asked}
use Rattle.seq_log.specs.OpenRequests.{is_open}
use Rattle.seq_log.specs.Sequenced.{Sequenced, IsFor}
use Rattle.world_play.specs.Scans.{asked, asks}

-- who is asked
iff_same : (a b : Bool) → (a ≡ true → b ≡ true) → (b ≡ true → a ≡ true) → a ≡ b
iff_same true b f h = sym (f refl)
iff_same false true f h = h refl
iff_same false false f h = refl

named : (xs : List ℕ) (p : ℕ) → has_place xs p ≡ true → In p xs
named xs p h =
    let w = from_any (nat_eq p) xs h in subst (λ (i : ℕ). In i xs) (sym (eqb-true p w.0 w.2)) w.1

is_named : (xs : List ℕ) (p : ℕ) → In p xs → has_place xs p ≡ true
is_named xs p i = in_any (nat_eq p) xs p i (same p)
  where
    same : (n : ℕ) → nat_eq n n ≡ true
    same n = eq-eqb n n refl

asked_is : (m : Machine) (log : List Entry) → IsReading m.reading → GenuineLog m log → (p j : ℕ)
    → asks p (request_at log j) ≡ is_asked_in m.reading p (request_at log j)
asked_is m log is g p j = by_request (request_at log j) refl
  where
    by_request : (o : Option Request) → request_at log j ≡ o → asks p o ≡ is_asked_in m.reading p o
    by_request None e = refl
    by_request (Some q) e =
        let framed = framed_of m.reading m.params log g is j q e in
        iff_same (has_place q.confirming p) (is_asked m.reading p q)
        (λ h. confirming_asked m.reading p q framed (contains_from_In q.confirming p (named q.confirming p h)))
        (λ h. is_named q.confirming p (in_from_Contains q.confirming p (asked_confirms m.reading p q framed h)))

-- the one who is found is the one who is asked
found_one : (p q : ℕ) (xs : List ℕ) → find (nat_eq p) xs ≡ Some q → (p ≡ q) × (has_place xs p ≡ true)
found_one p q [] e = absurd (none-some q e)
found_one p q (x ∷ xs) e =
    elim (cases_Bool (nat_eq p x)) [
      | inl b ↦
          let here : Some x ≡ Some q = rw b at e in
          let same : x ≡ q = same_Some x q here in (eqb-true p x b ∙ same, rw b refl)
      | inr b ↦ let later : find (nat_eq p) xs ≡ Some q = rw b at e in let r = found_one p q xs later in (r.0, rw b r.1)
    ]

found_none : (p : ℕ) (xs : List ℕ) → find (nat_eq p) xs ≡ None → has_place xs p ≡ false
found_none p [] e = refl
found_none p (x ∷ xs) e =
    elim (cases_Bool (nat_eq p x)) [
      | inl b ↦ let here : Some x ≡ None = rw b at e in absurd (none-some x (sym here))
      | inr b ↦ let later : find (nat_eq p) xs ≡ None = rw b at e in rw b (found_none p xs later)
    ]

asked_one : (p q : ℕ) (o : Option Request) → asked p o ≡ Some q → (p ≡ q) × (asks p o ≡ true)
asked_one p q None e = absurd (none-some q e)
asked_one p q (Some request) e = found_one p q request.confirming e

asked_none : (p : ℕ) (o : Option Request) → asked p o ≡ None → asks p o ≡ false
asked_none p None e = refl
asked_none p (Some request) e = found_none p request.confirming e

-- whether a response to an open request is due
not_due : (a h u : Bool) → a ≡ false → false ≡ (a && (not h && u))
not_due a h u e = rw e refl

due_unless : (a h u r : Bool) → a ≡ true → u ≡ true → r ≡ h → not r ≡ (a && (not h && u))
due_unless a h u r e f g = rw (e, f, g) (both_true (not h))
  where
    both_true : (b : Bool) → b ≡ (b && true)
    both_true true = refl
    both_true false = refl

module _ (m : Machine) (s : Sequenced) (is : IsReading m.reading) (f : IsFor m s) (g : GenuineLog m s.list) (p j : ℕ) where
  pub due_of_none : asked p (request_at s.list j) ≡ None → false ≡ is_due m s.list p j
  due_of_none e =
      not_due (is_asked_in m.reading p (request_at s.list j)) (has_responded j s.list p) (is_undecided m.params s.list j)
      (sym (asked_is m s.list is g p j) ∙ asked_none p (request_at s.list j) e)

  pub due_of_one : is_open (s.topology).params s.list j ≡ true → (from : ParticipantId) → asked p (request_at s.list j) ≡ Some from → (responded : Bool)
      → responded ≡ has_responded j s.list from → not responded ≡ is_due m s.list p j
  due_of_one stays from e responded r =
      let one = asked_one p from (request_at s.list j) e in
      let both = and_parts (is_some (request_at s.list j)) (is_undecided (s.topology).params s.list j) stays in
      due_unless (is_asked_in m.reading p (request_at s.list j)) (has_responded j s.list p) (is_undecided m.params s.list j) responded
      (sym (asked_is m s.list is g p j) ∙ one.1)
      (ap (λ (q : Params). is_undecided q s.list j) f.params ∙ both.1)
      (r ∙ ap (has_responded j s.list) (sym one.0))
