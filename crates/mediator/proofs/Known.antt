-- What the mediator holds of a request without a verdict is the scan of the log.
use Rattle.std.proofs.Common.{◌≡◌, ◌≢◌, ℕ, zero, suc, ◌+◌, ◌<◌, ◌≤◌, true, false, List, [], ◌∷◌, ◌++◌, map, take, drop, length}
use Rattle.std.proofs.Common.{◌⊎◌, fold, Option, Some, None, All, IsSomeAnd, slice_index_or, refl, sym, ap, ◌∙◌, subst, inl, inr, arith, le_refl, nat_eq}
use Rattle.std.specs.Prelude.{slice_get, is_some, if◌then◌else◌}
use Rattle.std.proofs.lemmas.Bool.{cases_Bool, cases_lt, ne_eqb, eqb-true, eq-eqb}
use Rattle.std.proofs.lemmas.Option.{none-some, same_Some}
use Rattle.std.proofs.lemmas.List.{map-append, take_all}
use Rattle.ledger_model.proofs.Lists.{In}
use Rattle.canton_model.specs.Log.{Params, request_at, request_of}
use Rattle.canton_model.specs.Timeline.{timeline_of, verdict_on}
use Rattle.canton_model.specs.Mediation.{scan}
use Rattle.world_model.specs.Messages.{Entry, Request, Decision}
use Rattle.world_model.specs.Machine.{Machine, GenuineLog}
use Rattle.world_model.specs.Places.{has_place}
use Rattle.world_model.specs.Mediator.{Waiting, Case, after_entry, decision_of, cases_of, cases_after, case_after, new_case}
use Rattle.world_model.proofs.Progressed.{scan_is, scan_none}
use Rattle.world_model.proofs.MediatorFacts.{VerdictsBelow, are_cases, cases_push}
use Rattle.world_model.proofs.Grown.{request_within}
use Rattle.world_model.proofs.Steps.{verdicts_below, take_next}
use Rattle.mediator.specs.declared.open_case.OpenCase.{OpenCase}
use Rattle.mediator.specs.OpenCases.{Rising, decision_at}
use Rattle.mediator.specs.KeptCases.{KeptMediator, progress_of, seen_cases, kept_cases, Knows, known_decision}

-- ---- as it is kept

told : (missing : List ℕ) (d : Option Decision) → decision_of (progress_of missing d) ≡ d
told missing None = refl
told missing (Some d) = refl

pub seen_decision : (wait k : ℕ) (cases : List OpenCase) → known_decision k (seen_cases wait cases) ≡ decision_at k cases
seen_decision wait k [] = refl
seen_decision wait k (c ∷ rest) =
    elim (cases_Bool (nat_eq c.place k)) [
      | inl b ↦ rw b (told c.missing c.decision)
      | inr b ↦ rw b (seen_decision wait k rest)
    ]

pub none_held : (k : ℕ) (cases : List OpenCase) → All (λ (c : OpenCase). c.place ≢ k) cases → decision_at k cases ≡ None
none_held k [] h = refl
none_held k (c ∷ rest) h =
    rw (ne_eqb c.place k (h 0 c (omega arith))) (none_held k rest (λ i d lt. h (suc i) d (omega (arith, lt))))

low_there : (k low high : ℕ) (xs : List OpenCase) (i : ℕ) (c : OpenCase) → Rising low high xs → slice_get xs i ≡ Some c → low ≤ c.place
low_there k low high [] i c r at = absurd (none-some c at)
low_there k low high (x ∷ xs) zero c r at = let from = r.0 in subst (λ (y : OpenCase). low ≤ y.place) (same_Some x c at) from
low_there k low high (x ∷ xs) (suc i) c r at = let from = r.0 in let later = low_there k (suc x.place) high xs i c r.1 at in omega (arith, from, later)

pub held : (low high : ℕ) (cases : List OpenCase) (i : ℕ) (c : OpenCase) → Rising low high cases → slice_get cases i ≡ Some c → decision_at c.place cases ≡ c.decision
held low high [] i c r at = absurd (none-some c at)
held low high (x ∷ xs) zero c r at =
    let same : x ≡ c = same_Some x c at in
    rw (eq-eqb x.place c.place (ap (λ (y : OpenCase). y.place) same)) (ap (λ (y : OpenCase). y.decision) same)
held low high (x ∷ xs) (suc i) c r at =
    let later = low_there c.place (suc x.place) high xs i c r.1 at in
    rw (ne_eqb x.place c.place (λ same. omega (arith, later, same))) (held (suc x.place) high xs i c r.1 at)

got : (xs : List OpenCase) (i : ℕ) (c : OpenCase) → i < length xs → c ≡ slice_index_or xs i c → slice_get xs i ≡ Some c
got [] i c lt is = absurd (omega (arith, lt))
got (x ∷ xs) zero c lt is = ap Some (sym is)
got (x ∷ xs) (suc i) c lt is = got xs i c (omega (arith, lt)) is

place_is : (o : Option OpenCase) (k : ℕ) (c : OpenCase) → IsSomeAnd o (λ (x : OpenCase). x.place ≡ k) → o ≡ Some c → c.place ≡ k
place_is None k c h e = absurd h
place_is (Some x) k c h e = ap (λ (y : OpenCase). y.place) (sym (same_Some x c e)) ∙ h

-- the one that was found
pub held_at : (k high : ℕ) (cases : List OpenCase) (i : ℕ) (c : OpenCase) → Rising 0 high cases → i < length cases
    → IsSomeAnd (slice_get cases i) (λ (x : OpenCase). x.place ≡ k) → c ≡ slice_index_or cases i c → c.decision ≡ decision_at k cases
held_at k high cases i c r lt at is =
    let there = got cases i c lt is in
    sym (held 0 high cases i c r there) ∙ ap (λ (p : ℕ). decision_at p cases) (place_is (slice_get cases i) k c at there)

-- ---- as the definitions have it

abbrev decision_in : (place : ℕ) → List Case → Option Decision
decision_in k [] = None
decision_in k (c ∷ rest) = if nat_eq c.place k then decision_of c.progress else decision_in k rest

-- none of the cases at the place was answered
kept_decision : (k : ℕ) (given : List ℕ) (cases : List Case) → ((c : Case) → In c cases → c.place ≡ k → c.is_answered ≡ false)
    → known_decision k (kept_cases given cases) ≡ decision_in k cases
kept_decision k given [] open' = refl
kept_decision k given (c ∷ rest) open' =
    let ih = kept_decision k given rest (λ x i e. open' x (inr i) e) in
    elim (cases_Bool c.is_answered) [
      | inl a ↦ elim (cases_Bool (nat_eq c.place k)) [
        | inl b ↦ absurd (let f : true ≡ false = sym a ∙ open' c (inl refl) (eqb-true c.place k b) in cc)
        | inr b ↦ rw (a, b) ih
      ]
      | inr a ↦ elim (cases_Bool (nat_eq c.place k)) [
        | inl b ↦ rw (a, b) refl
        | inr b ↦ rw (a, b) ih
      ]
    ]

-- a case at the place, or none
found : (k : ℕ) (cases : List Case) → ((c : Case) × In c cases × (c.place ≡ k) × (decision_in k cases ≡ decision_of c.progress)) ⊎ ((decision_in k cases ≡ None) × (has_place (map (λ (c : Case). c.place) cases) k ≡ false))
found k [] = inr (refl, refl)
found k (c ∷ rest) =
    elim (cases_Bool (nat_eq c.place k)) [
      | inl b ↦ inl (c, inl refl, eqb-true c.place k b, rw b refl)
      | inr b ↦ elim (found k rest) [
        | inl h ↦ inl (h.0, inr h.1, h.2, rw b h.3)
        | inr h ↦ inr (rw b h.0, rw (ne_eqb k c.place (λ e. let t : true ≡ false = sym (eq-eqb c.place k (sym e)) ∙ b in cc)) h.1)
      ]
    ]

-- ---- each request has its case

abbrev places_of : List Case → List ℕ
places_of cases = map (λ (c : Case). c.place) cases

kept_places : (e : Entry) (cases : List Case) → places_of (map (case_after e) cases) ≡ places_of cases
kept_places e [] = refl
kept_places e (c ∷ rest) = ap (λ (ps : List ℕ). c.place ∷ ps) (kept_places e rest)

has_left : (ps qs : List ℕ) (k : ℕ) → has_place ps k ≡ true → has_place (ps ++ qs) k ≡ true
has_left [] qs k h = absurd cc
has_left (p ∷ ps) qs k h =
    elim (cases_Bool (nat_eq k p)) [ inl b ↦ rw b refl | inr b ↦ rw b (has_left ps qs k (rw b at h)) ]

has_right : (ps qs : List ℕ) (k : ℕ) → has_place qs k ≡ true → has_place (ps ++ qs) k ≡ true
has_right [] qs k h = h
has_right (p ∷ ps) qs k h =
    elim (cases_Bool (nat_eq k p)) [ inl b ↦ rw b refl | inr b ↦ rw b (has_right ps qs k h) ]

new_place : (params : Params) (k time : ℕ) (o : Option Request) (q : Request) → o ≡ Some q → has_place (places_of (new_case params k time o)) k ≡ true
new_place params k time None q e = absurd (none-some q e)
new_place params k time (Some r) q e = rw (eq-eqb k k refl) refl

there_is : {X : Type 0} (xs : List X) (n : ℕ) → n < length xs → (x : X) × (slice_get xs n ≡ Some x)
there_is [] n lt = absurd (omega (arith, lt))
there_is (x ∷ xs) zero lt = (x, refl)
there_is (x ∷ xs) (suc n) lt = there_is xs n (omega (arith, lt))

covers : (params : Params) (log : List Entry) (n : ℕ) → n ≤ length log → (j : ℕ) (q : Request) → j < n → request_at log j ≡ Some q
    → has_place (places_of (cases_of params (take n log))) j ≡ true
covers params log zero le j q lt at = absurd (omega (arith, lt))
covers params log (suc n) le j q lt at =
    let there = there_is log n (omega (arith, le)) in
    let e = there.0 in
    let shorter = take n log in
    let long : length shorter ≡ n = length_short n log (omega (arith, le)) in
    let is : cases_of params (take (suc n) log) ≡ cases_after params (length shorter) (cases_of params shorter) e =
    ap (cases_of params) (take_next n log e there.1) ∙ cases_push params shorter e in
    let places : places_of (cases_of params (take (suc n) log)) ≡ places_of (cases_of params shorter) ++ places_of (new_case params (length shorter) e.time (request_of e.message)) =
    ap places_of is
    ∙ (map-append (λ (c : Case). c.place) (map (case_after e) (cases_of params shorter)) (new_case params (length shorter) e.time (request_of e.message))
    ∙ ap (λ (ps : List ℕ). ps ++ places_of (new_case params (length shorter) e.time (request_of e.message))) (kept_places e (cases_of params shorter))) in
    subst (λ (ps : List ℕ). has_place ps j ≡ true) (sym places)
    (elim (cases_lt j n) [
      | inl below ↦ has_left _ _ j (covers params log n (omega (arith, le)) j q below at)
      | inr above ↦
          let same : length shorter ≡ j = omega (arith, long, above, lt) in
          let here : request_of e.message ≡ Some q = request_here log n j e q there.1 (omega (arith, long, same)) at in
          has_right _ _ j (subst (λ (k : ℕ). has_place (places_of (new_case params (length shorter) e.time (request_of e.message))) k ≡ true) same
          (new_place params (length shorter) e.time (request_of e.message) q here))
    ])
  where
    length_short : (n : ℕ) (xs : List Entry) → n ≤ length xs → length (take n xs) ≡ n
    length_short zero xs le = refl
    length_short (suc n) [] le = absurd (omega (arith, le))
    length_short (suc n) (x ∷ xs) le = ap suc (length_short n xs (omega (arith, le)))

    request_here : (log : List Entry) (n j : ℕ) (e : Entry) (q : Request) → slice_get log n ≡ Some e → n ≡ j → request_at log j ≡ Some q → request_of e.message ≡ Some q
    request_here log n j e q at same is =
        let there : slice_get log j ≡ Some e = subst (λ (k : ℕ). slice_get log k ≡ Some e) same at in rw there at is

-- ---- the scan

module _ (m : Machine) (log : List Entry) (genuine : GenuineLog m log) (k : ℕ) (none : verdict_on k (timeline_of log) ≡ None) where
  below : VerdictsBelow log
  below = verdicts_below m log genuine

  open_there : (c : Case) → In c (cases_of m.params log) → c.place ≡ k → c.is_answered ≡ false
  open_there c i e =
      let is = are_cases m.params log below c i in
      is.answered ∙ (ap (λ (p : ℕ). is_some (verdict_on p (timeline_of log))) e ∙ ap is_some none)

  whole : take (length log) log ≡ log
  whole = take_all (length log) log (le_refl (length log))

  unheld : (o : Option Request) → request_at log k ≡ o → has_place (places_of (cases_of m.params log)) k ≡ false → scan m.params log k ≡ None
  unheld None at h = scan_none m.params log k at
  unheld (Some q) at h =
      let lt = request_within log k q at in
      let has : has_place (places_of (cases_of m.params log)) k ≡ true =
      subst (λ (xs : List Entry). has_place (places_of (cases_of m.params xs)) k ≡ true) whole (covers m.params log (length log) (le_refl (length log)) k q lt at) in
      absurd (let t : true ≡ false = sym has ∙ h in cc)

  scanned : decision_in k (cases_of m.params log) ≡ scan m.params log k
  scanned =
      elim (found k (cases_of m.params log)) [
        | inl f ↦
            let c = f.0 in
            let is = are_cases m.params log below c f.1 in
            f.3 ∙ (ap decision_of is.progress
            ∙ (ap (λ (d : ℕ). decision_of (fold (after_entry c.place d) (Waiting (is.request).confirming) (drop (suc c.place) log))) is.deadline
            ∙ (sym (scan_is m.params log c.place is.request is.there) ∙ ap (scan m.params log) f.2)))
        | inr h ↦ h.0 ∙ sym (unheld (request_at log k) refl h.1)
      ]

pub decision_is : (m : Machine) (log : List Entry) (kept : KeptMediator) (k : ℕ) → GenuineLog m log → Knows m log kept → verdict_on k (timeline_of log) ≡ None
    → known_decision k kept.cases ≡ scan m.params log k
decision_is m log kept k genuine knows none =
    let state = knows.state in
    let cases : state.cases ≡ cases_of m.params log = (knows.has).cases in
    ap (known_decision k) (knows.keeps).cases
    ∙ (ap (λ (cs : List Case). known_decision k (kept_cases state.given cs)) cases
    ∙ (kept_decision k state.given (cases_of m.params log) (open_there m log genuine k none)
    ∙ scanned m log genuine k none))
