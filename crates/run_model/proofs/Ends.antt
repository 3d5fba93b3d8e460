-- Where each part of a run ends, how long its log is, and what it approves.
use Rattle.std.proofs.Common.{ℕ, ◌+◌, ◌≤◌, List, [], ◌∷◌, ◌++◌, length, refl, subst, inl, inr, arith}
use Rattle.ledger_model.proofs.Lists.{In}
use Rattle.canton_model.specs.Genuine.{IsReading}
use Rattle.world_model.specs.Messages.{Entry, Request}
use Rattle.world_model.specs.Machine.{Machine}
use Rattle.world_model.specs.Rounds.{Results, Why, RoundAnswers, RoundsHold, RunHolds}
use Rattle.world_model.specs.Complete.{RoundsApprove}
use Rattle.world_model.proofs.RunApproves.{run_approves}
use Rattle.run_model.specs.Approving.{AllRoundsApprove}
use Rattle.run_model.proofs.Room.{within_reserved}
use Rattle.run_model.proofs.Ticks.{few_ticks}

module _ {F : Type 0} (m : Machine) (why : Why F) (log : List Entry) where
  start_within : (now start : ℕ) (raws : List Request) (earlier : Results F) (rounds : List (RoundAnswers F))
      → RoundsHold m why now log start raws earlier rounds → start ≤ length log
  start_within now start raws earlier [] h = omega (arith, h)
  start_within now start raws earlier (x ∷ rest) h =
      let r = start_within (now + x.round.advance) x.end (raws ++ x.round.raws) (earlier ++ x.results) rest h.2 in omega (arith, r, h.0)

  ends_within : (now start : ℕ) (raws : List Request) (earlier : Results F) (rounds : List (RoundAnswers F))
      → RoundsHold m why now log start raws earlier rounds → (x : RoundAnswers F) → In x rounds → x.end ≤ length log
  ends_within now start raws earlier [] h x i = absurd i
  ends_within now start raws earlier (y ∷ rest) h x (inl same) =
      subst (λ (z : RoundAnswers F). z.end ≤ length log) same
      (start_within (now + y.round.advance) y.end (raws ++ y.round.raws) (earlier ++ y.results) rest h.2)
  ends_within now start raws earlier (y ∷ rest) h x (inr there) =
      ends_within (now + y.round.advance) y.end (raws ++ y.round.raws) (earlier ++ y.results) rest h.2 x there

  pub run_ends : (rounds : List (RoundAnswers F)) → RunHolds m why log rounds → (x : RoundAnswers F) → In x rounds → x.end ≤ length log
  run_ends rounds h = ends_within 0 0 [] [] rounds h.cut

  pub run_is_short : (rounds : List (RoundAnswers F)) → RunHolds m why log rounds → length log ≤ m.capacity + length rounds
  run_is_short rounds h =
      let places = within_reserved m.reading m.params log h.genuine in
      let ticks = few_ticks m why log rounds h in
      let room = h.within_capacity in omega (arith, places, ticks, room)

  all_approve : (start : ℕ) (rounds : List (RoundAnswers F)) → ((x : RoundAnswers F) → In x rounds → x.end ≤ m.params.response_timeout)
      → RoundsApprove m log start rounds → AllRoundsApprove m log start rounds
  all_approve start [] within h = tt
  all_approve start (x ∷ rest) within h = (
    λ k le open' a. let short = within x (inl refl) in h.0 k le open' (omega (arith, short)) a,
    all_approve x.end rest (λ y i. within y (inr i)) h.1,
  )

  pub run_approves_all : (rounds : List (RoundAnswers F)) → IsReading m.reading → RunHolds m why log rounds
      → m.capacity + length rounds ≤ m.params.response_timeout → AllRoundsApprove m log 0 rounds
  run_approves_all rounds is h le =
      let short = run_is_short rounds h in
      all_approve 0 rounds (λ x i. let end = run_ends rounds h x i in omega (arith, end, short, le)) (run_approves m why log rounds is h)
