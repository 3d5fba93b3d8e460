-- Rounds by any number of workers are shared ones, and those by none are one thread's.
use Rattle.std.proofs.Common.{◌≡◌, ℕ, zero, suc, ◌+◌, List, [], ◌∷◌, ◌++◌, length, refl, subst}
use Rattle.world_model.specs.Messages.{Entry}
use Rattle.world_model.specs.Machine.{Machine, IsMachine}
use Rattle.world_model.specs.Plain.{PlainRounds}
use Rattle.world_model.specs.Rounds.{Round, Results, Why, RoundAnswers}
use Rattle.threads_model.specs.Inputs.{submissions_in}
use Rattle.threads_model.specs.Shared.{SharedPart, SharedRounds, time_after}
use Rattle.run_model.specs.Workers.{PartBy, RoundsBy}
use Rattle.threads_model.proofs.PlainShared.{plain_is_shared}
use Rattle.world_model.proofs.BegunFacts.{Good}
use Rattle.threads_model.proofs.RunShared.{part_good}

module _ {F : Type 0} (m : Machine) (why : Why F) where
  part_is_shared : (workers now : ℕ) (round : Round) → IsMachine m → (results : Results F) (before after : List Entry) → Good m before
      → PartBy workers m why now round results before after → SharedPart m why now round results before after
  part_is_shared zero now round machine results before after g h = plain_is_shared m why now round machine results before after g h
  part_is_shared (suc others) now round machine results before after g h = h

  -- some workers' part is a shared one
  pub part_by_some : (workers : ℕ) → (workers ≡ 0 → ⊥) → (now : ℕ) (round : Round) (results : Results F) (before after : List Entry)
      → SharedPart m why now round results before after → PartBy workers m why now round results before after
  part_by_some zero some now round results before after h = absurd (some refl)
  part_by_some (suc others) some now round results before after h = h

  pub rounds_are_shared : (workers : ℕ) → IsMachine m → (now : ℕ) (before : List Entry) (rounds : List (RoundAnswers F)) (after : List Entry)
      → Good m before → RoundsBy workers m why now before rounds after → SharedRounds m why now before rounds after
  rounds_are_shared workers machine now before [] after g h = h
  rounds_are_shared workers machine now before (x ∷ rest) after g h =
      let now' = now + x.round.advance in
      let part = part_is_shared workers now' x.round machine x.results before h.0 g h.2 in
      let good = part_good m why now' x.round x.results before h.0 machine.is_reading part in
      (h.0, h.1, part, h.3, rounds_are_shared workers machine now' h.0 rest after good h.4)

  pub rounds_are_plain : (now : ℕ) (before : List Entry) (rounds : List (RoundAnswers F)) (after : List Entry)
      → RoundsBy 0 m why now before rounds after → PlainRounds m why now before rounds after
  rounds_are_plain now before [] after h = h
  rounds_are_plain now before (x ∷ rest) after h =
      (h.0, h.1, h.2, h.3, rounds_are_plain (now + x.round.advance) h.0 rest after h.4)

  pub rounds_go_on : (workers now : ℕ) (before : List Entry) (rounds : List (RoundAnswers F)) (mid : List Entry) (x : RoundAnswers F)
      (after : List Entry) → RoundsBy workers m why now before rounds mid → submissions_in x.results ≡ (x.round).submits
      → PartBy workers m why (time_after now rounds + (x.round).advance) x.round x.results mid after → x.end ≡ length after
      → RoundsBy workers m why now before (rounds ++ x ∷ []) after
  rounds_go_on workers now before [] mid x after h submits part end =
      (after, submits, subst (λ (xs : List Entry). PartBy workers m why (now + (x.round).advance) x.round x.results xs after) h part, end, refl)
  rounds_go_on workers now before (y ∷ rounds) mid x after h submits part end =
      (h.0, h.1, h.2, h.3, rounds_go_on workers (now + (y.round).advance) h.0 rounds mid x after h.4 submits part end)
