-- Rounds with whatever numbers of workers, one after another, are a run.
use Rattle.std.proofs.Common.{◌≡◌, ℕ, ◌+◌, List, [], ◌∷◌, ◌++◌, take, length, refl, sym, ap, ◌∙◌, subst, inl, inr, arith}
use Rattle.std.proofs.lemmas.Bool.{cases_lt}
use Rattle.std.proofs.lemmas.Option.{none-some}
use mathlib.Core.List.{IsPrefix}
use Rattle.ledger_terms.specs.declared.submission.Submission.{Submission}
use Rattle.world_model.specs.Messages.{Entry, Request}
use Rattle.ledger_model.proofs.Lists.{in_append_cases, in_append_left, in_append_right, in_from_Contains}
use Rattle.canton_model.specs.Genuine.{IsReading}
use Rattle.world_model.specs.Machine.{Machine, IsMachine}
use Rattle.world_model.specs.Settled.{left}
use Rattle.world_model.specs.Rounds.{Round, SubmitResult, Sent, Results, Why, AnswerHolds, SentHolds, ResultsHold, RoundHolds, RoundAnswers}
use Rattle.world_model.specs.Rounds.{RoundsHold, RunHolds, begun}
use Rattle.world_model.proofs.Ends.{passes_genuine, passes_within}
use Rattle.world_model.proofs.Steps.{new_lawful}
use Rattle.threads_model.specs.Inputs.{submissions_in}
use Rattle.threads_model.specs.Shared.{SharedPart, SharedRounds, time_after}
use Rattle.threads_model.proofs.Begins.{begins_itself, begins_then, begins_length, front_of}
use Rattle.threads_model.proofs.Chains.{request_earlier}
use Rattle.threads_model.proofs.RoundShared.{SentBelow, begun_begins, shared_longer, shared_round}
use Rattle.world_model.proofs.BegunFacts.{Good, AllSent, begun_sent}

module _ {F : Type 0} (m : Machine) (why : Why F) where
  sent_in_part : (now : ℕ) (round : Round) (raws : List Request) (all : List Entry) (start end : ℕ) (earlier results : Results F)
      → ResultsHold m why now round raws all start end earlier results → SentBelow end results
  sent_in_part now round raws all start end earlier [] h what place read_to i = absurd i
  sent_in_part now round raws all start end earlier (x ∷ rest) h what place read_to (inl same) =
      let answer : SentHolds m now all end what place read_to =
      subst (λ (y : Submission × SubmitResult F). AnswerHolds m why now round raws all end earlier y.0 y.1) same (h.0).answer in answer.in_part
  sent_in_part now round raws all start end earlier (x ∷ rest) h what place read_to (inr there) =
      sent_in_part now round raws all start end (earlier ++ x ∷ []) rest h.1 what place read_to there

  part_longer : (now : ℕ) (round : Round) (results : Results F) (before after : List Entry) → SharedPart m why now round results before after
      → IsPrefix before after
  part_longer now round results before after h =
      begins_then before (begun m now round before) after (begun_begins m now round before) (shared_longer m why now round results before after h)

  pub part_good : (now : ℕ) (round : Round) (results : Results F) (before after : List Entry) → IsReading m.reading
      → SharedPart m why now round results before after → Good m after
  part_good now round results before after is h =
      subst (Good m) (sym h.2) (
        passes_genuine m now is round.paused round.holds_verdicts (left m.hosts h.0) h.0 (h.1).genuine,
        passes_within m now round.paused round.holds_verdicts (left m.hosts h.0) h.0 (h.1).within_capacity,
      )

  rounds_longer : (now : ℕ) (before : List Entry) (rounds : List (RoundAnswers F)) (after : List Entry) → SharedRounds m why now before rounds after
      → IsPrefix before after
  rounds_longer now before [] after h = subst (IsPrefix before) (sym h) (begins_itself before)
  rounds_longer now before (x ∷ rest) after h =
      begins_then before h.0 after (part_longer (now + x.round.advance) x.round x.results before h.0 h.2)
      (rounds_longer (now + x.round.advance) h.0 rest after h.4)

  rounds_good : (now : ℕ) (before : List Entry) (rounds : List (RoundAnswers F)) (after : List Entry) → IsReading m.reading
      → SharedRounds m why now before rounds after → Good m before → Good m after
  rounds_good now before [] after is h g = subst (Good m) (sym h) g
  rounds_good now before (x ∷ rest) after is h g =
      rounds_good (now + x.round.advance) h.0 rest after is h.4 (part_good (now + x.round.advance) x.round x.results before h.0 is h.2)

  -- one round more
  pub rounds_more : (now : ℕ) (before : List Entry) (rounds : List (RoundAnswers F)) (mid : List Entry) (x : RoundAnswers F) (after : List Entry)
      → SharedRounds m why now before rounds mid → submissions_in x.results ≡ (x.round).submits
      → SharedPart m why (time_after now rounds + (x.round).advance) x.round x.results mid after → x.end ≡ length after
      → SharedRounds m why now before (rounds ++ x ∷ []) after
  rounds_more now before [] mid x after h submits part end =
      (after, submits, subst (λ (xs : List Entry). SharedPart m why (now + (x.round).advance) x.round x.results xs after) h part, end, refl)
  rounds_more now before (y ∷ rounds) mid x after h submits part end =
      (h.0, h.1, h.2, h.3, rounds_more (now + (y.round).advance) h.0 rounds mid x after h.4 submits part end)

  module _ (machine : IsMachine m) where
    pub rounds_hold : (now : ℕ) (before : List Entry) (rounds : List (RoundAnswers F)) (after : List Entry) (raws : List Request) (earlier : Results F)
        → SentBelow (length before) earlier → AllSent raws before earlier → SharedRounds m why now before rounds after
        → RoundsHold m why now after (length before) raws earlier rounds
    rounds_hold now before [] after raws earlier below sent h = sym (ap length h)
    rounds_hold now before (x ∷ rest) after raws earlier below sent h =
        let now' = now + x.round.advance in
        let next = h.0 in
        let first = begun m now' x.round before in
        let here = shared_round m why now' x.round x.results before next machine raws earlier below sent h.1 h.2 in
        let grown = part_longer now' x.round x.results before next h.2 in
        let tail = rounds_longer now' next rest after h.4 in
        let up = begins_length before next grown in
        let front : take (length before) after ≡ before = front_of before after (begins_then before next after grown tail) in
        let cut : take x.end after ≡ next = ap (λ (n : ℕ). take n after) h.3 ∙ front_of next after tail in
        let below' : SentBelow (length next) (earlier ++ x.results) =
        λ what place read_to i. elim (in_append_cases earlier x.results (what, Sent place read_to) i) [
          | inl old ↦ let b = below what place read_to old in omega arith
          | inr new ↦ sent_in_part now' x.round (raws ++ x.round.raws) next (length first) (length next) earlier x.results here.each what place read_to new
        ] in
        let whole = shared_longer m why now' x.round x.results before next h.2 in
        let sent' : AllSent (raws ++ x.round.raws) next (earlier ++ x.results) =
        λ k q at. elim (cases_lt k (length first)) [
          | inl lt ↦
              elim (begun_sent m now' x.round raws before earlier sent k q (request_earlier first next k q whole lt at)) [
                | inl f ↦ inl (f.0, f.1, in_append_left earlier x.results (f.0, Sent k f.1) f.2)
                | inr raw ↦ inr raw
              ]
          | inr past ↦
              let f = (here.part).of_results k q past at in
              inl (f.0, f.1, in_append_right earlier x.results (f.0, Sent k f.1) (in_from_Contains x.results (f.0, Sent k f.1) f.2))
        ] in
        let later = rounds_hold now' next rest after (raws ++ x.round.raws) (earlier ++ x.results) below' sent' h.4 in (
          (let e = h.3 in omega arith),
          subst (λ (xs : List Entry). RoundHolds m why now' x.round (raws ++ x.round.raws) earlier x.results xs (take x.end after)) (sym front)
              (subst (RoundHolds m why now' x.round (raws ++ x.round.raws) earlier x.results before) (sym cut) here),
          subst (λ (n : ℕ). RoundsHold m why now' after n (raws ++ x.round.raws) (earlier ++ x.results) rest) (sym h.3) later,
        )

    pub run_holds : (rounds : List (RoundAnswers F)) (log : List Entry) → SharedRounds m why 0 [] rounds log → RunHolds m why log rounds
    run_holds rounds log h =
        let new = new_lawful m in
        let g = rounds_good 0 [] rounds log machine.is_reading h (new.genuine, new.within_capacity) in
        record {
          genuine = g.0;
          within_capacity = g.1;
          cut = rounds_hold 0 [] rounds log [] [] (λ what place read_to i. absurd i)
              (λ k q at. absurd (none-some q at)) h;
        }
