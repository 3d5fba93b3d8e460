-- What one thread does in rounds of two parts is a run in parts.
use Rattle.std.proofs.Common.{◌≡◌, ◌⊎◌, ℕ, suc, ◌+◌, List, [], ◌∷◌, length, Option, Some, None, refl, sym, ap, ◌∙◌, subst, inl, inr, arith}
use Rattle.std.proofs.lemmas.List.{length-append}
use Rattle.world_model.specs.Messages.{Entry, RequestMessage, Request}
use Rattle.world_model.specs.Machine.{Machine, IsMachine}
use Rattle.world_model.specs.Sequencing.{AppendFault, Already, LogFull as Full, TooLate, Unframed, append_fault, entry_after}
use Rattle.world_model.specs.Rounds.{Round, SubmitResult, SubmitFault, Refused, Results, Why, read_at, wanted_at}
use Rattle.world_model.specs.Plain.{HandedIn, AnswersWanted, IsPausedAnswer, IsAwakeAnswer, Submitted, PlainRounds}
use Rattle.world_model.proofs.RunFacts.{run_holds}
use Rattle.trigger_model.specs.TwoParts.{RoundParts, RunInParts, CausedStandFirst, StandInOrder, parts_of, second_round}

module _ {F : Type 0} (m : Machine) (why : Why F) (now : ℕ) (round : Round) where
  pub stand_in_order : (log : List Entry) (answers : Results F) (after : List Entry) → Submitted m why now round log answers after
      → StandInOrder (length log) answers
  stand_in_order log [] after h = tt
  stand_in_order log (x ∷ rest) after h = by_answer h.1 (stand_in_order h.0 rest after h.2)
    where
      as_refused : (fault : SubmitFault F) (n : ℕ) → x.1 ≡ Refused fault n → h.0 ≡ log → StandInOrder (length h.0) rest → StandInOrder (length log) (x ∷ rest)
      as_refused fault n is same r =
          subst (λ (y : SubmitResult F). StandInOrder (length log) ((x.0, y) ∷ rest)) (sym is)
          (subst (λ (xs : List Entry). StandInOrder (length xs) rest) same r)

      by_handed : (q : Request) (o : Option AppendFault) → HandedIn now log q o x.1 h.0 → StandInOrder (length h.0) rest
          → StandInOrder (length log) (x ∷ rest)
      by_handed q None a r =
          let long : length h.0 ≡ suc (length log) =
          ap length a.1 ∙ (length-append log (entry_after now log (RequestMessage q) ∷ []) ∙ omega arith) in
          subst (λ (y : SubmitResult F). StandInOrder (length log) ((x.0, y) ∷ rest)) (sym a.0)
          (refl, subst (λ (n : ℕ). StandInOrder n rest) long r)
      by_handed q (Some (Already place)) a r = as_refused _ _ a.0 a.1 r
      by_handed q (Some Unframed) a r = absurd a
      by_handed q (Some (Full amount need)) a r = as_refused _ _ a.0 a.1 r
      by_handed q (Some (TooLate decision time)) a r = absurd a

      by_wanted : (o : Option Request) → AnswersWanted m (why x.0 (read_at m log x.0 (length log)) now) now log o x.1 h.0
          → StandInOrder (length h.0) rest → StandInOrder (length log) (x ∷ rest)
      by_wanted None a r = as_refused _ (length log) a.0 a.1 r
      by_wanted (Some q) a r = by_handed q (append_fault m log (RequestMessage q)) a r

      by_answer : IsPausedAnswer round log x.0 x.1 h.0 ⊎ IsAwakeAnswer m why now round log x.0 x.1 h.0 → StandInOrder (length h.0) rest
          → StandInOrder (length log) (x ∷ rest)
      by_answer (inl p) r = as_refused _ p.1 p.3 p.4 r
      by_answer (inr a) r = by_wanted (wanted_at m now log x.0 (length log)) a.1 r

module _ {F : Type 0} (m : Machine) (why : Why F) where
  caused_first : (now : ℕ) (before : List Entry) (rounds : List (RoundParts F)) (after : List Entry) → PlainRounds m why now before (parts_of rounds) after
      → CausedStandFirst rounds
  caused_first now before [] after h = tt
  caused_first now before (x ∷ rest) after h =
      let second = h.4 in
      let part = second.2 in
      let order = stand_in_order m why (now + x.round.advance + 0) (second_round x.round x.caused) h.0 x.caused_results part.0 part.1 in (
        subst (λ (n : ℕ). StandInOrder n x.caused_results) (sym h.3) order,
        caused_first (now + x.round.advance + 0) second.0 rest after second.4,
      )

  pub run_in_parts : IsMachine m → (rounds : List (RoundParts F)) (log : List Entry) → PlainRounds m why 0 [] (parts_of rounds) log
      → RunInParts m why log rounds
  run_in_parts machine rounds log h = record { run = run_holds m why machine (parts_of rounds) log h; first = caused_first 0 [] rounds log h }
