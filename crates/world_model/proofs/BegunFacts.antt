-- The log after a round's Tick and its raw requests.
use Rattle.std.proofs.Common.{◌≡◌, ◌⊎◌, ℕ, ◌+◌, ◌≤◌, false, List, [], ◌∷◌, ◌++◌, take, length, Option, Some, None, refl, sym, ap, ◌∙◌, subst, inl, inr}
use Rattle.std.proofs.Common.{arith, append_assoc, append-nil}
use Rattle.std.specs.Prelude.{nat_eq}
use Rattle.std.proofs.lemmas.Bool.{cases_Bool, cases_lt}
use Rattle.std.proofs.lemmas.Option.{same_Some}
use Rattle.std.proofs.lemmas.List.{length-append}
use Rattle.std.proofs.Math.Seq.{take-append_seam}
use Rattle.ledger_terms.specs.declared.submission.Submission.{Submission}
use Rattle.canton_model.specs.Log.{request_at, request_in}
use Rattle.world_model.specs.Messages.{Entry, RequestMessage, Tick, Request}
use Rattle.ledger_model.proofs.Lists.{In, in_append_cases, in_append_left, in_append_right}
use Rattle.world_model.specs.Machine.{Machine, GenuineLog}
use Rattle.world_model.specs.Sequencing.{AppendFault, reserved, append_fault, unless_refused, entry_after, sequenced}
use Rattle.world_model.specs.Rounds.{Round, Sent, Results, begun, ticked, handed_in, is_tick}
use Rattle.world_model.proofs.Appended.{sequenced_keeps, sequenced_within, sequenced_more}
use Rattle.world_model.proofs.Grown.{request_grown, request_within, slice_get_last}
use Rattle.world_model.proofs.AfterTurn.{one_more}

abbrev pub Longer : List Entry → List Entry → Type 0
Longer log all = (more : List Entry) × (all ≡ log ++ more)

pub longer_then : (a b c : List Entry) → Longer a b → Longer b c → Longer a c
longer_then a b c l r = (l.0 ++ r.0, r.1 ∙ (ap (λ (xs : List Entry). xs ++ r.0) l.1 ∙ append_assoc a l.0 r.0))

pub longer_length : (a b : List Entry) → Longer a b → length a ≤ length b
longer_length a b l = let t = length-append a l.0 in let e = ap length l.1 in omega arith

pub front_of : (a b : List Entry) → Longer a b → take (length a) b ≡ a
front_of a b l = ap (take (length a)) l.1 ∙ take-append_seam a l.0

-- genuine, and within the capacity
abbrev pub Good : Machine → List Entry → Type 0
Good m log = GenuineLog m log × (reserved log ≤ m.capacity)

handed_good : (m : Machine) (now : ℕ) (log : List Entry) (qs : List Request) → Good m log → Good m (handed_in m now log qs)
handed_good m now log [] g = g
handed_good m now log (q ∷ qs) g =
    handed_good m now (sequenced m now log (RequestMessage q)) qs
    (sequenced_keeps m now log (RequestMessage q) g.0 tt, sequenced_within m now log (RequestMessage q) g.1)

pub begun_good : (m : Machine) (now : ℕ) (round : Round) (log : List Entry) → Good m log → Good m (begun m now round log)
begun_good m now round log g =
    handed_good m now (ticked m now round log) round.raws
    (elim (cases_Bool (nat_eq round.advance 0)) [ inl b ↦ rw b g | inr b ↦ rw b (sequenced_keeps m now log Tick g.0 tt, sequenced_within m now log Tick g.1) ])

handed_longer : (m : Machine) (now : ℕ) (log : List Entry) (qs : List Request) → Longer log (handed_in m now log qs)
handed_longer m now log [] = ([], sym (append-nil log))
handed_longer m now log (q ∷ qs) =
    let next = sequenced m now log (RequestMessage q) in
    longer_then log next (handed_in m now next qs) (sequenced_more m now log (RequestMessage q)) (handed_longer m now next qs)

ticked_longer : (m : Machine) (now : ℕ) (round : Round) (log : List Entry) → Longer log (ticked m now round log)
ticked_longer m now round log =
    elim (cases_Bool (nat_eq round.advance 0)) [ inl b ↦ rw b ([], sym (append-nil log)) | inr b ↦ rw b (sequenced_more m now log Tick) ]

pub begun_longer : (m : Machine) (now : ℕ) (round : Round) (log : List Entry) → Longer log (begun m now round log)
begun_longer m now round log =
    longer_then log (ticked m now round log) (begun m now round log) (ticked_longer m now round log) (handed_longer m now (ticked m now round log) round.raws)

-- raw requests bring no Tick
abbrev WithoutTick : List Entry → List Entry → Type 0
WithoutTick log all = (more : List Entry) × (all ≡ log ++ more) × ((e : Entry) → In e more → is_tick e.message ≡ false)

sequenced_without_tick : (m : Machine) (now : ℕ) (log : List Entry) (q : Request) → WithoutTick log (sequenced m now log (RequestMessage q))
sequenced_without_tick m now log q = by_fault (append_fault m log (RequestMessage q))
  where
    by_fault : (o : Option AppendFault) → WithoutTick log (unless_refused o log (log ++ entry_after now log (RequestMessage q) ∷ []))
    by_fault (Some f) = ([], sym (append-nil log), λ e i. absurd i)
    by_fault None = (
      entry_after now log (RequestMessage q) ∷ [],
      refl,
      λ e i. elim i [ inl same ↦ ap (λ (x : Entry). is_tick x.message) (sym same) | inr none ↦ absurd none ],
    )

pub handed_without_tick : (m : Machine) (now : ℕ) (log : List Entry) (qs : List Request) → WithoutTick log (handed_in m now log qs)
handed_without_tick m now log [] = ([], sym (append-nil log), λ e i. absurd i)
handed_without_tick m now log (q ∷ qs) =
    let one = sequenced_without_tick m now log q in
    let rest = handed_without_tick m now (sequenced m now log (RequestMessage q)) qs in (
      one.0 ++ rest.0,
      rest.1 ∙ (ap (λ (xs : List Entry). xs ++ rest.0) one.1 ∙ append_assoc log one.0 rest.0),
      λ e i. elim (in_append_cases one.0 rest.0 e i) [ inl l ↦ one.2 e l | inr r ↦ rest.2 e r ],
    )

-- a Tick is one entry
pub ticked_length : (m : Machine) (now : ℕ) (round : Round) (log : List Entry) → length (ticked m now round log) ≤ length log + 1
ticked_length m now round log =
    elim (cases_Bool (nat_eq round.advance 0)) [ inl b ↦ rw b (omega arith) | inr b ↦ rw b (by_fault (append_fault m log Tick)) ]
  where
    by_fault : (o : Option AppendFault) → length (unless_refused o log (log ++ entry_after now log Tick ∷ [])) ≤ length log + 1
    by_fault (Some f) = omega arith
    by_fault None = let long = length-append log (entry_after now log Tick ∷ []) in let one : length (entry_after now log Tick ∷ []) ≡ 1 = refl in omega arith

-- each request of the log is of an earlier result, or a raw one
abbrev pub AllSent : {F : Type 0} → List Request → List Entry → Results F → Type 0
AllSent raws log earlier = (k : ℕ) (q : Request) → request_at log k ≡ Some q → ((before : Submission) × (n : ℕ) × In (before, Sent k n) earlier) ⊎ In q raws

module _ {F : Type 0} (m : Machine) where
  wider : (raws more : List Request) (log : List Entry) (earlier : Results F) → AllSent raws log earlier → AllSent (raws ++ more) log earlier
  wider raws more log earlier sent k q at = elim (sent k q at) [ inl s ↦ inl s | inr raw ↦ inr (in_append_left raws more q raw) ]

  -- a request more, which is a raw one
  sequenced_sent : (now : ℕ) (raws : List Request) (log : List Entry) (earlier : Results F) (q : Request) → In q raws → AllSent raws log earlier
      → AllSent raws (sequenced m now log (RequestMessage q)) earlier
  sequenced_sent now raws log earlier q there sent k x at = by_fault (append_fault m log (RequestMessage q)) at
    where
      by_fault : (o : Option AppendFault) → request_at (unless_refused o log (log ++ entry_after now log (RequestMessage q) ∷ [])) k ≡ Some x
          → ((before : Submission) × (n : ℕ) × In (before, Sent k n) earlier) ⊎ In x raws
      by_fault (Some f) e = sent k x e
      by_fault None e =
          let more = entry_after now log (RequestMessage q) ∷ [] in
          elim (cases_lt k (length log)) [
            | inl lt ↦ sent k x (sym (request_grown log more k lt) ∙ e)
            | inr past ↦
                let inside = request_within (log ++ more) k x e in
                let long = length-append log more in
                let one : length more ≡ 1 = refl in
                let here : k ≡ length log = omega arith in
                let last : request_at (log ++ more) (length log) ≡ Some q = ap request_in (slice_get_last log (entry_after now log (RequestMessage q))) in
                let same : q ≡ x = same_Some q x (sym last ∙ (ap (request_at (log ++ more)) (sym here) ∙ e)) in
                inr (subst (λ (y : Request). In y raws) same there)
          ]

  handed_sent : (now : ℕ) (raws : List Request) (log : List Entry) (earlier : Results F) (qs : List Request) → ((q : Request) → In q qs → In q raws)
      → AllSent raws log earlier → AllSent raws (handed_in m now log qs) earlier
  handed_sent now raws log earlier [] inside sent = sent
  handed_sent now raws log earlier (q ∷ qs) inside sent =
      handed_sent now raws (sequenced m now log (RequestMessage q)) earlier qs (λ x i. inside x (inr i))
      (sequenced_sent now raws log earlier q (inside q (inl refl)) sent)

  ticked_sent : (now : ℕ) (round : Round) (raws : List Request) (before : List Entry) (earlier : Results F) → AllSent raws before earlier
      → AllSent raws (ticked m now round before) earlier
  ticked_sent now round raws before earlier sent k q at =
      elim (cases_Bool (nat_eq round.advance 0)) [
        | inl b ↦ sent k q (rw b at at)
        | inr b ↦
            let at' : request_at (sequenced m now before Tick) k ≡ Some q = rw b at at in
            let lt = one_more m now before Tick k q refl at' in
            let more = sequenced_more m now before Tick in
            sent k q (sym (request_grown before more.0 k lt) ∙ (ap (λ (xs : List Entry). request_at xs k) (sym more.1) ∙ at'))
      ]

  pub begun_sent : (now : ℕ) (round : Round) (raws : List Request) (before : List Entry) (earlier : Results F) → AllSent raws before earlier
      → AllSent (raws ++ round.raws) (begun m now round before) earlier
  begun_sent now round raws before earlier sent =
      handed_sent now (raws ++ round.raws) (ticked m now round before) earlier round.raws (λ q i. in_append_right raws round.raws q i)
      (wider raws round.raws (ticked m now round before) earlier (ticked_sent now round raws before earlier sent))
