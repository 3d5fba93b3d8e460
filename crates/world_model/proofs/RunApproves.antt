-- In a run the requests that all approve, in short parts whose verdicts aren't held, are approved.
use Rattle.std.proofs.Common.{◌≡◌, ℕ, ◌+◌, ◌≤◌, List, [], ◌∷◌, ◌++◌, take, drop, length, subst, arith, length-take, take-append-drop}
use Rattle.canton_model.specs.Log.{decision_time_of}
use Rattle.world_model.specs.Messages.{Entry, Request, Approved}
use Rattle.canton_model.specs.Genuine.{IsReading}
use Rattle.canton_model.specs.Timeline.{Decided, outcome_of, timeline_of}
use Rattle.world_model.specs.Machine.{Machine, GenuineLog}
use Rattle.world_model.specs.Rounds.{Results, Why, RoundAnswers, RoundsHold, RunHolds}
use Rattle.world_model.specs.Complete.{RoundsApprove}
use Rattle.canton_model.proofs.LongerLogs.{genuine_take}
use Rattle.world_model.proofs.PartFacts.{part_approves}
use Rattle.world_model.proofs.Growing.{outcome_stays}

module _ {F : Type 0} (m : Machine) (why : Why F) (log : List Entry) (is : IsReading m.reading) (genuine : GenuineLog m log) where
  rounds_approve : (now start : ℕ) (raws : List Request) (earlier : Results F) (rounds : List (RoundAnswers F))
      → RoundsHold m why now log start raws earlier rounds → RoundsApprove m log start rounds
  rounds_approve now start raws earlier [] h = tt
  rounds_approve now start raws earlier (x ∷ rest) h = (
    λ k le open' short a.
        let now' = now + x.round.advance in
        let part = (h.1).part in
        let within : length (take x.end log) ≤ k + m.params.response_timeout = omega (arith, short, length-take x.end log) in
        let here =
        part_approves m now' x.round x.results (take start log) (take x.end log) k is (genuine_take m.reading m.params log x.end genuine) part open'
        (let long = length-take start log in omega (arith, le, long)) within a in
        let whole =
        outcome_stays (take x.end log) (drop x.end log) k (decision_time_of m.params (take x.end log) k) (decision_time_of m.params log k) Approved here in
        subst (λ (xs : List Entry). outcome_of (timeline_of xs) k (decision_time_of m.params log k) ≡ Decided Approved) (take-append-drop x.end log) whole,
    rounds_approve (now + x.round.advance) x.end (raws ++ x.round.raws) (earlier ++ x.results) rest h.2,
  )

pub run_approves : {F : Type 0} (m : Machine) (why : Why F) (log : List Entry) (rounds : List (RoundAnswers F)) → IsReading m.reading
    → RunHolds m why log rounds → RoundsApprove m log 0 rounds
run_approves m why log rounds is h = rounds_approve m why log is h.genuine 0 0 [] [] rounds h.cut
