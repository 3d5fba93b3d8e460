-- Each request with an id that is kept for rules is that of something that a rule caused.
use Rattle.std.proofs.Common.{◌≡◌, ◌⊎◌, ℕ, zero, suc, ◌+◌, ◌<◌, ◌≤◌, true, false, List, [], ◌∷◌, ◌++◌, Option, Some, None, All, map, take, length, Contains, refl, sym, ap, ◌∙◌, subst, inl, inr, arith}
use Rattle.std.specs.Prelude.{nat_eq}
use Rattle.std.proofs.lemmas.Bool.{both_ways, cases_Bool, cases_lt}
use Rattle.std.proofs.lemmas.List.{length-take}
use Rattle.std.proofs.lemmas.List.Elements.{All-contains}
use Rattle.std.proofs.lemmas.Option.{none-some, same_Some}
use Rattle.ledger_terms.specs.declared.submission.Submission.{Submission}
use Rattle.canton_model.specs.Log.{request_at}
use Rattle.canton_model.proofs.LongerLogs.{genuine_take}
use Rattle.ledger_model.proofs.Lists.{In, in_from_Contains, contains_from_In}
use Rattle.world_model.specs.Messages.{Entry, RequestMessage, Request, Tick}
use Rattle.world_model.specs.Machine.{Machine, GenuineLog, IsMachine, IsRequestFor}
use Rattle.world_model.specs.Sequencing.{AppendFault, append_fault, entry_after, sequenced, unless_refused}
use Rattle.world_model.specs.Rounds.{Round, Results, RoundAnswers, ResultHolds, ResultsHold, RoundsHold, SentHolds, SubmitResult, Sent, Why, begun, handed_in, ticked}
use Rattle.trigger_model.specs.TwoParts.{RoundParts, RunInParts, parts_of}
use Rattle.world_model.proofs.Grown.{request_grown, request_within}
use Rattle.world_model.proofs.AfterTurn.{one_more}
use Rattle.trigger_rules.specs.declared.caused.Caused.{Caused}
use Rattle.trigger_rules.specs.declared.rule.Rule.{Rule}
use Rattle.trigger_rules.specs.Ids.{is_rule_command}
use Rattle.trigger_model.specs.CausedRun.{FiredRound}
use Rattle.trigger_model.specs.CausedRequests.{AreRounds, HasOwnIds, submissions_in}

-- what holds of all holds of each
all_at : {X : Type 0} (P : X → Type 0) (xs : List X) (x : X) → All P xs → In x xs → P x
all_at P xs x all i = All-contains P xs x all (contains_from_In xs x i)

-- a request below a place
in_front : (log : List Entry) (n k : ℕ) (q : Request) → k < n → request_at log k ≡ Some q → request_at (take n log) k ≡ Some q
in_front log zero k q lt at = absurd (omega (arith, lt))
in_front [] (suc n) k q lt at = at
in_front (x ∷ log) (suc n) zero q lt at = at
in_front (x ∷ log) (suc n) (suc k) q lt at = in_front log n k q (omega (arith, lt)) at

last_one : (log : List Entry) (e : Entry) (k : ℕ) (q : Request) → length log ≤ k → request_at (log ++ e ∷ []) k ≡ Some q → request_at (e ∷ []) 0 ≡ Some q
last_one [] e zero q le at = at
last_one [] e (suc k) q le at = absurd (none-some q at)
last_one (x ∷ log) e zero q le at = absurd (omega (arith, le))
last_one (x ∷ log) e (suc k) q le at = last_one log e k q (omega (arith, le)) at

module _ (m : Machine) (now : ℕ) where
  -- a request behind one that was handed in is that one, or stood there before
  one_handed : (log : List Entry) (r : Request) (k : ℕ) (q : Request) → request_at (sequenced m now log (RequestMessage r)) k ≡ Some q
      → (request_at log k ≡ Some q) ⊎ (r ≡ q)
  one_handed log r k q at = by_fault (append_fault m log (RequestMessage r)) at
    where
      by_fault : (o : Option AppendFault) → request_at (unless_refused o log (log ++ entry_after now log (RequestMessage r) ∷ [])) k ≡ Some q
          → (request_at log k ≡ Some q) ⊎ (r ≡ q)
      by_fault (Some f) h = inl h
      by_fault None h =
          elim (cases_lt k (length log)) [
            | inl lt ↦ inl (sym (request_grown log (entry_after now log (RequestMessage r) ∷ []) k lt) ∙ h)
            | inr past ↦ inr (same_Some r q (last_one log (entry_after now log (RequestMessage r)) k q past h))
          ]

  handed : (log : List Entry) (raws : List Request) (k : ℕ) (q : Request) → request_at (handed_in m now log raws) k ≡ Some q
      → (request_at log k ≡ Some q) ⊎ In q raws
  handed log [] k q at = inl at
  handed log (r ∷ raws) k q at =
      elim (handed (sequenced m now log (RequestMessage r)) raws k q at) [
        | inl there ↦ elim (one_handed log r k q there) [ inl before ↦ inl before | inr same ↦ inr (inl same) ]
        | inr i ↦ inr (inr i)
      ]

  tick_asks_nothing : (round : Round) (before : List Entry) (k : ℕ) (q : Request) → request_at (ticked m now round before) k ≡ Some q → k < length before
  tick_asks_nothing round before k q at =
      elim (cases_Bool (nat_eq round.advance 0)) [
        | inl b ↦ request_within before k q (rw b at at)
        | inr b ↦ one_more m now before Tick k q refl (rw b at at)
      ]

  raw_here : (round : Round) (before : List Entry) (k : ℕ) (q : Request) → length before ≤ k → request_at (begun m now round before) k ≡ Some q
      → In q round.raws
  raw_here round before k q le at =
      elim (handed (ticked m now round before) round.raws k q at) [
        | inl there ↦ let lt = tick_asks_nothing round before k q there in absurd (omega (arith, lt, le))
        | inr i ↦ i
      ]

module _ {F : Type 0} (m : Machine) (why : Why F) (machine : IsMachine m) where
  one_holds : (now : ℕ) (round : Round) (raws : List Request) (log : List Entry) (start end : ℕ) (earlier results : Results F)
      → ResultsHold m why now round raws log start end earlier results → (what : Submission) (result : SubmitResult F) → In (what, result) results
      → (before : Results F) × ResultHolds m why now round raws log start end before what result
  one_holds now round raws log start end earlier [] h what result i = absurd i
  one_holds now round raws log start end earlier (x ∷ rest) h what result (inl same) =
      (earlier, subst (λ (y : Submission × SubmitResult F). ResultHolds m why now round raws log start end earlier y.0 y.1) same h.0)
  one_holds now round raws log start end earlier (x ∷ rest) h what result (inr i) =
      one_holds now round raws log start end (earlier ++ x ∷ []) rest h.1 what result i

  -- the request of a Sent result is for its submission
  is_for : (now : ℕ) (log : List Entry) (end : ℕ) (what : Submission) (k read_to : ℕ) (q : Request) → GenuineLog m log
      → SentHolds m now log end what k read_to → request_at log k ≡ Some q → IsRequestFor m.reading what q
  is_for now log end what k read_to q genuine s at =
      let same : s.request ≡ q = same_Some s.request q (sym s.there ∙ at) in
      subst (IsRequestFor m.reading what) same
      (machine.prepares what (take read_to log) now s.request (genuine_take m.reading m.params log read_to genuine) s.wanted)

  -- the submissions of results are those of the round
  of_submits : (results : Results F) (submits : List Submission) → map (λ (y : Submission × SubmitResult F). y.0) results ≡ submits
      → (what : Submission) (result : SubmitResult F) → In (what, result) results → In what submits
  of_submits results submits same what result i = subst (In what) same (in_first results i)
    where
      in_first : (xs : Results F) → In (what, result) xs → In what (map (λ (y : Submission × SubmitResult F). y.0) xs)
      in_first [] i = absurd i
      in_first (y ∷ xs) (inl e) = inl (ap (λ (z : Submission × SubmitResult F). z.0) e)
      in_first (y ∷ xs) (inr t) = inr (in_first xs t)

  abbrev IsOf : RoundAnswers F → ℕ → Request → Type 0
  IsOf x k q = In q x.round.raws ⊎ ((what : Submission) × (read_to : ℕ) × In (what, Sent k read_to) x.results × In what x.round.submits × IsRequestFor m.reading what q)

  of_part : (log : List Entry) → GenuineLog m log → (now start : ℕ) (raws : List Request) (earlier : Results F) (rounds : List (RoundAnswers F))
      → RoundsHold m why now log start raws earlier rounds → (k : ℕ) (q : Request) → start ≤ k → request_at log k ≡ Some q
      → (x : RoundAnswers F) × In x rounds × IsOf x k q
  of_part log genuine now start raws earlier [] h k q le at = let lt = request_within log k q at in absurd (omega (arith, lt, le, h))
  of_part log genuine now start raws earlier (x ∷ rest) h k q le at =
      elim (cases_lt k x.end) [
        | inr past ↦
            let r = of_part log genuine (now + x.round.advance) x.end (raws ++ x.round.raws) (earlier ++ x.results) rest h.2 k q past at in
            (r.0, inr r.1, r.2)
        | inl lt ↦ (x, inl refl, here lt)
      ]
    where
      here : k < x.end → IsOf x k q
      here lt =
          let now' = now + x.round.advance in
          let before = take start log in
          let after = take x.end log in
          let first = begun m now' x.round before in
          let part = (h.1).part in
          let at' : request_at after k ≡ Some q = in_front log x.end k q lt at in
          let long : length before ≤ k = let t = length-take start log in omega (arith, t, le) in
          elim (cases_lt k (length first)) [
            | inl begins ↦
                let there : request_at first k ≡ Some q =
                sym (request_grown first part.rest k begins) ∙ (ap (λ (xs : List Entry). request_at xs k) (sym part.is_begun) ∙ at') in
                inl (raw_here m now' x.round before k q long there)
            | inr past ↦
                let r = part.of_results k q past at' in
                let i = in_from_Contains x.results (r.0, Sent k r.1) r.2 in
                let holds = one_holds now' x.round (raws ++ x.round.raws) after (length first) (length after) earlier x.results (h.1).each r.0 (Sent k r.1) i in
                inr (
                  r.0,
                  r.1,
                  i,
                  of_submits x.results x.round.submits (h.1).submits r.0 (Sent k r.1) i,
                  is_for now' after (length after) r.0 k r.1 q (genuine_take m.reading m.params log x.end genuine) (holds.1).answer at',
                )
          ]

  -- ---- rounds of two parts
  module _ (rules : List Rule) (k : ℕ) (q : Request) (kept : is_rule_command rules q.sender q.command ≡ true) where
    abbrev IsOurs : List (RoundParts F) → List FiredRound → Type 0
    IsOurs rounds fired = (round : FiredRound) × In round fired × (one : Caused) × In one round.caused × (x : RoundParts F) × In x rounds
        × (read_to : ℕ) × In (one.submission, Sent k read_to) x.caused_results

    -- a submission of its own has no such id
    own_id : (what : Submission) → is_rule_command rules what.participant what.command ≡ false → IsRequestFor m.reading what q → ⊥
    own_id what own is =
        both_ways _ own (ap (λ (p : ℕ). is_rule_command rules p what.command) (sym is.sender)
        ∙ (ap (λ (c : List ℕ). is_rule_command rules q.sender c) (sym is.command) ∙ kept))

    in_submissions : (caused : List Caused) (what : Submission) → In what (submissions_in caused) → (one : Caused) × In one caused × (one.submission ≡ what)
    in_submissions [] what i = absurd i
    in_submissions (one ∷ caused) what (inl same) = (one, inl refl, same)
    in_submissions (one ∷ caused) what (inr i) = let r = in_submissions caused what i in (r.0, inr r.1, r.2)

    of_rounds : (number now : ℕ) (rounds : List (RoundParts F)) (fired : List FiredRound) → AreRounds number now rounds fired
        → ((x : RoundParts F) → In x rounds → HasOwnIds rules x) → (x : RoundAnswers F) → In x (parts_of rounds) → IsOf x k q → IsOurs rounds fired
    of_rounds number now [] fired same own x i is = absurd i
    of_rounds number now (r ∷ rounds) [] same own x i is = absurd same
    of_rounds number now (r ∷ rounds) (y ∷ fired) same own x (inl first) is =
        let ids = own r (inl refl) in
        let is' = subst (λ (z : RoundAnswers F). IsOf z k q) (sym first) is in
        elim is' [
          | inl raw ↦ absurd (both_ways _ (all_at (λ (request : Request). is_rule_command rules request.sender request.command ≡ false) r.round.raws q ids.raws raw) kept)
          | inr sent ↦ absurd (own_id sent.0 (all_at (λ (what : Submission). is_rule_command rules what.participant what.command ≡ false) r.round.submits sent.0 ids.submits sent.3) sent.4)
        ]
    of_rounds number now (r ∷ rounds) (y ∷ fired) same own x (inr (inl second)) is =
        let is' = subst (λ (z : RoundAnswers F). IsOf z k q) (sym second) is in
        elim is' [
          | inl raw ↦ absurd raw
          | inr sent ↦
              let i = in_submissions y.caused sent.0 (subst (In sent.0) same.1 sent.3) in
              (y, inl refl, i.0, i.1, r, inl refl, sent.1, subst (λ (what : Submission). In (what, Sent k sent.1) r.caused_results) (sym i.2) sent.2)
        ]
    of_rounds number now (r ∷ rounds) (y ∷ fired) same own x (inr (inr i)) is =
        let f = of_rounds (suc number) (now + r.round.advance) rounds fired same.2 (λ z j. own z (inr j)) x i is in
        (f.0, inr f.1, f.2, f.3, f.4, inr f.5, f.6, f.7)

  pub request_is_caused : (rules : List Rule) (log : List Entry) (rounds : List (RoundParts F)) (fired : List FiredRound) → RunInParts m why log rounds
      → AreRounds 0 0 rounds fired → All (HasOwnIds rules) rounds → (k : ℕ) (q : Request) → request_at log k ≡ Some q
      → is_rule_command rules q.sender q.command ≡ true
      → (round : FiredRound) × Contains fired round × (one : Caused) × Contains round.caused one × (x : RoundParts F) × Contains rounds x
      × (read_to : ℕ) × Contains x.caused_results (one.submission, Sent k read_to)
  request_is_caused rules log rounds fired run same own k q at kept =
      let part = of_part log (run.run).genuine 0 0 [] [] (parts_of rounds) (run.run).cut k q (omega arith) at in
      let f = of_rounds rules k q kept 0 0 rounds fired same (λ x i. all_at (HasOwnIds rules) rounds x own i) part.0 part.1 part.2 in (
        f.0,
        contains_from_In fired f.0 f.1,
        f.2,
        contains_from_In (f.0).caused f.2 f.3,
        f.4,
        contains_from_In rounds f.4 f.5,
        f.6,
        contains_from_In (f.4).caused_results ((f.2).submission, Sent k f.6) f.7,
      )
