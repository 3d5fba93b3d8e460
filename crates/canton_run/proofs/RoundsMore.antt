-- What holds of rounds in their parts holds with one round more.
use Rattle.std.proofs.Common.{◌≡◌, ℕ, suc, ◌+◌, List, [], ◌∷◌, ◌++◌, length, take, subst, arith}
use Rattle.world_model.specs.Machine.{Machine}
use Rattle.world_model.specs.Messages.{Entry}
use Rattle.world_model.specs.Plain.{PlainPart}
use Rattle.world_model.specs.Rounds.{Why}
use Rattle.trigger_model.specs.CausedRequests.{AreRounds, fired_round, submissions_in}
use Rattle.trigger_model.specs.CausedRun.{FiredRound}
use Rattle.trigger_model.specs.TwoParts.{CausedStandFirst, RoundParts, StandInOrder, second_round}
use Rattle.canton_run.specs.Run.{SecondPartsArePlain}
use Rattle.canton_run.proofs.PartsMore.{time_from}

module _ {F : Type 0} (x : RoundParts F) where
  pub first_more : (rounds : List (RoundParts F)) → CausedStandFirst rounds → StandInOrder x.end x.caused_results → CausedStandFirst (rounds ++ x ∷ [])
  first_more [] h order = (order, tt)
  first_more (y ∷ rounds) h order = (h.0, first_more rounds h.1 order)

  pub same_more : (number now : ℕ) (rounds : List (RoundParts F)) (fired : List FiredRound) (y : FiredRound) → AreRounds number now rounds fired
      → y ≡ fired_round (number + length rounds) (time_from now rounds + x.round.advance) x y.caused → x.caused ≡ submissions_in y.caused
      → AreRounds number now (rounds ++ x ∷ []) (fired ++ y ∷ [])
  same_more number now [] [] y h is caused =
      let zeroth : number + 0 ≡ number = omega arith in
      (subst (λ (n : ℕ). y ≡ fired_round n (now + x.round.advance) x y.caused) zeroth is, caused, tt)
  same_more number now [] (z ∷ fired) y h is caused = absurd h
  same_more number now (w ∷ rounds) [] y h is caused = absurd h
  same_more number now (w ∷ rounds) (z ∷ fired) y h is caused =
      let later : number + suc (length rounds) ≡ suc number + length rounds = omega arith in (
        h.0,
        h.1,
        same_more (suc number) (now + w.round.advance) rounds fired y h.2
            (subst (λ (n : ℕ). y ≡ fired_round n (time_from (now + w.round.advance) rounds + x.round.advance) x y.caused) later is) caused,
      )

  module _ (m : Machine) (why : Why F) (log : List Entry) where
    pub second_more : (now : ℕ) (rounds : List (RoundParts F)) → SecondPartsArePlain m why now log rounds
        → PlainPart m why (time_from now rounds + x.round.advance) (second_round x.round x.caused) x.caused_results (take x.end log) (take x.caused_end log)
        → SecondPartsArePlain m why now log (rounds ++ x ∷ [])
    second_more now [] h part = (part, tt)
    second_more now (y ∷ rounds) h part = (h.0, second_more (now + y.round.advance) rounds h.1 part)
