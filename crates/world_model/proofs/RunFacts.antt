-- What one thread does round after round is what a run says of its rounds.
use Rattle.std.proofs.Common.{◌≡◌, ℕ, ◌+◌, ◌<◌, List, [], ◌∷◌, ◌++◌, take, length, Option, Some, None, refl, sym, ap, ◌∙◌, subst, inl, inr}
use Rattle.std.proofs.Common.{arith, append-nil, le_refl}
use Rattle.std.specs.Prelude.{map}
use Rattle.std.proofs.lemmas.Bool.{cases_lt}
use Rattle.std.proofs.lemmas.Option.{none-some}
use Rattle.ledger_terms.specs.declared.submission.Submission.{Submission}
use Rattle.canton_model.specs.Log.{request_at}
use Rattle.world_model.specs.Messages.{Entry, RequestMessage, Request}
use Rattle.ledger_model.proofs.Lists.{In, in_append_cases, in_append_left, in_append_right, in_from_Contains}
use Rattle.world_model.specs.Machine.{Machine, IsMachine}
use Rattle.world_model.specs.Sequencing.{AppendFault, Already, Unframed, LogFull as Full, TooLate, append_fault}
use Rattle.world_model.specs.Settled.{left}
use Rattle.world_model.specs.Rounds.{Round, SubmitResult, Sent, Results, Why, AnswerHolds, SentHolds, ResultsHold, RoundHolds, RoundAnswers}
use Rattle.world_model.specs.Rounds.{RoundsHold, RunHolds, begun, read_at, wanted_at}
use Rattle.world_model.specs.Plain.{HandedIn, AnswersWanted, Submitted, PlainPart, PlainRounds}
use Rattle.world_model.proofs.Appended.{appended_keeps, appended_within}
use Rattle.world_model.proofs.Grown.{request_grown}
use Rattle.world_model.proofs.Ends.{passes_genuine, passes_within}
use Rattle.world_model.proofs.Steps.{new_lawful}
use Rattle.world_model.proofs.BegunFacts.{Longer, longer_then, longer_length, front_of, Good, begun_good, begun_longer, AllSent, begun_sent}
use Rattle.world_model.proofs.RoundFacts.{submitted_longer, results_hold}
use Rattle.world_model.proofs.PlainFacts.{passes_add, plain_part}

module _ {F : Type 0} (m : Machine) (why : Why F) where
  abbrev SentBelow : ℕ → Results F → Type 0
  SentBelow n earlier = (what : Submission) (place read_to : ℕ) → In (what, Sent place read_to) earlier → place < n

  sent_in_part : (now : ℕ) (round : Round) (raws : List Request) (all : List Entry) (start end : ℕ) (earlier results : Results F)
      → ResultsHold m why now round raws all start end earlier results → SentBelow end results
  sent_in_part now round raws all start end earlier [] h what place read_to i = absurd i
  sent_in_part now round raws all start end earlier (x ∷ rest) h what place read_to (inl same) =
      let answer : SentHolds m now all end what place read_to =
      subst (λ (y : Submission × SubmitResult F). AnswerHolds m why now round raws all end earlier y.0 y.1) same (h.0).answer in answer.in_part
  sent_in_part now round raws all start end earlier (x ∷ rest) h what place read_to (inr there) =
      sent_in_part now round raws all start end (earlier ++ x ∷ []) rest h.1 what place read_to there

  part_longer : (now : ℕ) (round : Round) (results : Results F) (before after : List Entry) (h : PlainPart m why now round results before after)
      → Longer (begun m now round before) h.0 × Longer h.0 after
  part_longer now round results before after h =
      let p = passes_add m now round.paused round.holds_verdicts (left m.hosts h.0) h.0 in
      (submitted_longer m why now round [] [] 0 (begun m now round before) results h.0 h.1, (p.0, h.2 ∙ p.1))

  whole_part_longer : (now : ℕ) (round : Round) (results : Results F) (before after : List Entry) → PlainPart m why now round results before after
      → Longer before after
  whole_part_longer now round results before after h =
      let l = part_longer now round results before after h in
      longer_then before (begun m now round before) after (begun_longer m now round before) (longer_then (begun m now round before) h.0 after l.0 l.1)

  -- a round
  pub round_holds : (now : ℕ) (round : Round) (raws : List Request) (earlier results : Results F) (before after : List Entry)
      → SentBelow (length before) earlier → AllSent raws before earlier → map (λ (x : Submission × SubmitResult F). x.0) results ≡ round.submits
      → PlainPart m why now round results before after → RoundHolds m why now round (raws ++ round.raws) earlier results before after
  round_holds now round raws earlier results before after below sent submits h =
      let first = begun m now round before in
      let up = longer_length before first (begun_longer m now round before) in
      let l = part_longer now round results before after h in
      record {
        part = plain_part m why now round results before after h;
        submits = submits;
        each = results_hold m why now round (raws ++ round.raws) after (length first) first results earlier h.0 (le_refl (length first))
            (λ what place read_to i. let b = below what place read_to i in omega arith) (begun_sent m now round raws before earlier sent) l.1 h.1;
      }

  -- rounds
  rounds_longer : (now : ℕ) (before : List Entry) (rounds : List (RoundAnswers F)) (after : List Entry) → PlainRounds m why now before rounds after
      → Longer before after
  rounds_longer now before [] after h = ([], h ∙ sym (append-nil before))
  rounds_longer now before (x ∷ rest) after h =
      longer_then before h.0 after (whole_part_longer (now + x.round.advance) x.round x.results before h.0 h.2)
      (rounds_longer (now + x.round.advance) h.0 rest after h.4)

  pub rounds_hold : (now : ℕ) (before : List Entry) (rounds : List (RoundAnswers F)) (after : List Entry) (raws : List Request) (earlier : Results F)
      → SentBelow (length before) earlier → AllSent raws before earlier → PlainRounds m why now before rounds after
      → RoundsHold m why now after (length before) raws earlier rounds
  rounds_hold now before [] after raws earlier below sent h = sym (ap length h)
  rounds_hold now before (x ∷ rest) after raws earlier below sent h =
      let now' = now + x.round.advance in
      let next = h.0 in
      let first = begun m now' x.round before in
      let here = round_holds now' x.round raws earlier x.results before next below sent h.1 h.2 in
      let grown = whole_part_longer now' x.round x.results before next h.2 in
      let tail = rounds_longer now' next rest after h.4 in
      let up = longer_length before next grown in
      let front : take (length before) after ≡ before = front_of before after (longer_then before next after grown tail) in
      let cut : take x.end after ≡ next = ap (λ (n : ℕ). take n after) h.3 ∙ front_of next after tail in
      let below' : SentBelow (length next) (earlier ++ x.results) =
      λ what place read_to i. elim (in_append_cases earlier x.results (what, Sent place read_to) i) [
        | inl old ↦ let b = below what place read_to old in omega arith
        | inr new ↦ sent_in_part now' x.round (raws ++ x.round.raws) next (length first) (length next) earlier x.results here.each what place read_to new
      ] in
      let mid = part_longer now' x.round x.results before next h.2 in
      let whole : Longer first next = longer_then first (h.2).0 next mid.0 mid.1 in
      let sent' : AllSent (raws ++ x.round.raws) next (earlier ++ x.results) =
      λ k q at. elim (cases_lt k (length first)) [
        | inl lt ↦
            let at' : request_at first k ≡ Some q = sym (request_grown first whole.0 k lt) ∙ (ap (λ (xs : List Entry). request_at xs k) (sym whole.1) ∙ at) in
            elim (begun_sent m now' x.round raws before earlier sent k q at') [
              | inl f ↦ inl (f.0, f.1, in_append_left earlier x.results (f.0, Sent k f.1) f.2)
              | inr raw ↦ inr raw
            ]
        | inr past ↦
            let f = (here.part).of_results k q past at in
            inl (f.0, f.1, in_append_right earlier x.results (f.0, Sent k f.1) (in_from_Contains x.results (f.0, Sent k f.1) f.2))
      ] in
      let later = rounds_hold now' next rest after (raws ++ x.round.raws) (earlier ++ x.results) below' sent' h.4 in (
        (let e = h.3 in omega arith),
        subst (λ (xs : List Entry). RoundHolds m why now' x.round (raws ++ x.round.raws) earlier x.results xs (take x.end after)) (sym front)
            (subst (RoundHolds m why now' x.round (raws ++ x.round.raws) earlier x.results before) (sym cut) here),
        subst (λ (n : ℕ). RoundsHold m why now' after n (raws ++ x.round.raws) (earlier ++ x.results) rest) (sym h.3) later,
      )

  module _ (machine : IsMachine m) where
    one_good : (now : ℕ) (log : List Entry) (what : Submission) (result : SubmitResult F) (next : List Entry) (o : Option Request)
        → AnswersWanted m (why what (read_at m log what (length log)) now) now log o result next → Good m log → Good m next
    one_good now log what result next None h g = subst (Good m) (sym h.1) g
    one_good now log what result next (Some q) h g = by_fault (append_fault m log (RequestMessage q)) refl h
      where
        by_fault : (f : Option AppendFault) → append_fault m log (RequestMessage q) ≡ f → HandedIn now log q f result next → Good m next
        by_fault None e a =
            subst (Good m) (sym a.1) (appended_keeps m now log (RequestMessage q) g.0 tt e, appended_within m now log (RequestMessage q) g.1 e)
        by_fault (Some (Already place)) e a = subst (Good m) (sym a.1) g
        by_fault (Some Unframed) e a = absurd a
        by_fault (Some (Full amount need)) e a = subst (Good m) (sym a.1) g
        by_fault (Some (TooLate decision time)) e a = absurd a

    submitted_good : (now : ℕ) (round : Round) (log : List Entry) (answers : Results F) (after : List Entry)
        → Submitted m why now round log answers after → Good m log → Good m after
    submitted_good now round log [] after h g = subst (Good m) (sym h) g
    submitted_good now round log (x ∷ rest) after h g =
        submitted_good now round h.0 rest after h.2 (elim h.1 [
          | inl p ↦ subst (Good m) (sym p.4) g
          | inr a ↦ one_good now log x.0 x.1 h.0 (wanted_at m now log x.0 (length log)) a.1 g
        ])

    part_good : (now : ℕ) (round : Round) (results : Results F) (before after : List Entry) → PlainPart m why now round results before after
        → Good m before → Good m after
    part_good now round results before after h g =
        let s = submitted_good now round (begun m now round before) results h.0 h.1 (begun_good m now round before g) in
        subst (Good m) (sym h.2) (
          passes_genuine m now machine.is_reading round.paused round.holds_verdicts (left m.hosts h.0) h.0 s.0,
          passes_within m now round.paused round.holds_verdicts (left m.hosts h.0) h.0 s.1,
        )

    rounds_good : (now : ℕ) (before : List Entry) (rounds : List (RoundAnswers F)) (after : List Entry) → PlainRounds m why now before rounds after
        → Good m before → Good m after
    rounds_good now before [] after h g = subst (Good m) (sym h) g
    rounds_good now before (x ∷ rest) after h g =
        rounds_good (now + x.round.advance) h.0 rest after h.4 (part_good (now + x.round.advance) x.round x.results before h.0 h.2 g)

    pub run_holds : (rounds : List (RoundAnswers F)) (log : List Entry) → PlainRounds m why 0 [] rounds log → RunHolds m why log rounds
    run_holds rounds log h =
        let new = new_lawful m in
        let g = rounds_good 0 [] rounds log h (new.genuine, new.within_capacity) in
        record {
          genuine = g.0;
          within_capacity = g.1;
          cut = rounds_hold 0 [] rounds log [] [] (λ what place read_to i. absurd i)
              (λ k q at. absurd (none-some q at)) h;
        }
