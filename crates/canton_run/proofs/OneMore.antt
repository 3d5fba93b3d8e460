-- One more round, with its results and its end.
use Rattle.std.proofs.Common.{◌≡◌, ℕ, ◌+◌, ◌≤◌, List, [], ◌∷◌, ◌++◌, length, take, drop, map, refl, sym, ap, ◌∙◌, subst, arith}
use Rattle.std.proofs.lemmas.List.{length-drop, take_all, take-append-le, drop-append-le}
use Rattle.std.proofs.lemmas.List.Sums.{sum_by-cons}
use Rattle.ledger_terms.specs.declared.submission.Submission.{Submission}
use Rattle.node_core.specs.declared.submit_result.SubmitResult.{SubmitResult}
use Rattle.prepare_request.specs.declared.submit_fault.SubmitFault.{SubmitFault}
use Rattle.script_read.specs.declared.round.Round.{Round}
use Rattle.run_model.specs.Workers.{PartBy, RoundsBy}
use Rattle.world_model.specs.Messages.{Entry}
use Rattle.world_model.specs.Machine.{Machine}
use Rattle.world_model.specs.Rounds as w
use Rattle.world_play.specs.Results.{results_of}
use Rattle.canton_run.specs.Answered.{answered, answered_round, round_of}
use Rattle.canton_run.specs.Between.{time_in}
use Rattle.canton_run.specs.Run.{submissions_in}

-- the submissions of results are those that they answer
submitted : (submits : List Submission) (results : List SubmitResult) → length results ≡ length submits
    → map (λ (y : Submission × w.SubmitResult SubmitFault). y.0) (results_of submits results) ≡ submits
submitted [] results h = refl
submitted (s ∷ submits) [] h = absurd (omega (arith, h))
submitted (s ∷ submits) (r ∷ results) h = ap (λ (xs : List Submission). s ∷ xs) (submitted submits results (omega (arith, h)))

pub answers_are_as_many : (rounds : List Round) (results : List SubmitResult) (ends : List ℕ) → length (answered rounds results ends) ≤ length rounds
answers_are_as_many [] results ends = omega arith
answers_are_as_many (round ∷ rounds) results [] = omega arith
answers_are_as_many (round ∷ rounds) results (end ∷ ends) =
    let r = answers_are_as_many rounds (drop (length round.submits) results) ends in omega (arith, r)

module _ (workers : ℕ) (m : Machine) (why : w.Why SubmitFault) (round : Round) (answers : List SubmitResult)
    (many : length answers ≡ length round.submits) (end : ℕ) (middle after : List Entry) (ends_at : end ≡ length after) (time : ℕ)
    (part : PartBy workers m why (time + round.advance) (round_of round) (results_of round.submits answers) middle after) where
  first_round : (now : ℕ) (log : List Entry) → time ≡ now → middle ≡ log
      → RoundsBy workers m why now log (answered_round round (take (length round.submits) answers) end ∷ []) after
  first_round now log same_time same =
      let part' =
      subst (λ (n : ℕ). PartBy workers m why (n + round.advance) (round_of round) (results_of round.submits answers) log after) same_time
      (subst
      (λ (xs : List Entry). PartBy workers m why (time + round.advance) (round_of round) (results_of round.submits answers) xs after) same part) in
      let all : take (length round.submits) answers ≡ answers = take_all (length round.submits) answers (omega (arith, many)) in
      subst (λ (xs : List SubmitResult). RoundsBy workers m why now log (answered_round round xs end ∷ []) after) (sym all)
      (after, submitted round.submits answers many, part', ends_at, refl)

  pub one_more : (rounds : List Round) (results : List SubmitResult) (ends : List ℕ) (now : ℕ) (log : List Entry)
      → length results ≡ submissions_in rounds → length ends ≡ length rounds → time ≡ now + time_in rounds
      → RoundsBy workers m why now log (answered rounds results ends) middle
      → RoundsBy workers m why now log (answered (rounds ++ round ∷ []) (results ++ answers) (ends ++ end ∷ [])) after
  one_more [] [] [] now log each each_end times played = first_round now log (omega (arith, times)) played
  one_more [] (r ∷ results) ends now log each each_end times played = absurd (omega (arith, each))
  one_more [] [] (e ∷ ends) now log each each_end times played = absurd (omega (arith, each_end))
  one_more (x ∷ rounds) results [] now log each each_end times played = absurd (omega (arith, each_end))
  one_more (x ∷ rounds) results (e ∷ ends) now log each each_end times played =
      let n = length x.submits in
      let sum : submissions_in (x ∷ rounds) ≡ n + submissions_in rounds = sum_by-cons (λ (r : Round). length r.submits) x rounds in
      let time_sum : time_in (x ∷ rounds) ≡ x.advance + time_in rounds = sum_by-cons (λ (r : Round). r.advance) x rounds in
      let few : n ≤ length results = omega (arith, each, sum) in
      let left : length (drop n results) ≡ submissions_in rounds = length-drop n results ∙ omega (arith, each, sum) in
      let rest =
      one_more rounds (drop n results) ends (now + x.advance) played.0 left (omega (arith, each_end)) (omega (arith, times, time_sum)) played.4 in
      subst
      (λ (xs : List SubmitResult). RoundsBy workers m why now log
      (answered_round x xs e ∷ answered (rounds ++ round ∷ []) (drop n (results ++ answers)) (ends ++ end ∷ [])) after)
      (sym (take-append-le n results answers few))
      (subst
      (λ (xs : List SubmitResult). RoundsBy workers m why now log
      (answered_round x (take n results) e ∷ answered (rounds ++ round ∷ []) xs (ends ++ end ∷ [])) after)
      (sym (drop-append-le n results answers few))
      (played.0, played.1, played.2, played.3, rest))
