-- The parts of rounds are rounds one after another.
use Rattle.std.proofs.Common.{◌≡◌, ℕ, ◌+◌, ◌*◌, List, [], ◌∷◌, length, take, drop, refl, ap, arith}
use Rattle.node_core.specs.declared.submit_result.SubmitResult.{SubmitResult}
use Rattle.prepare_request.specs.declared.submit_fault.SubmitFault.{SubmitFault}
use Rattle.script_read.specs.declared.round.Round.{Round}
use Rattle.trigger_model.specs.TwoParts.{parts_of}
use Rattle.trigger_rules.specs.declared.caused.Caused.{Caused}
use Rattle.world_model.specs.Rounds.{RoundAnswers}
use Rattle.canton_run.specs.Answered.{answered, answered_round}
use Rattle.canton_run.specs.Parts.{caused_submits, parts_in, round_parts, second_of}

pub parts_are_rounds : (number : ℕ) (rounds : List Round) (caused : List Caused) (results : List SubmitResult) (ends : List ℕ)
    → length ends ≡ 2 * length rounds → parts_of (round_parts number rounds caused results ends) ≡ answered (parts_in number rounds caused) results ends
parts_are_rounds number [] caused results ends many = refl
parts_are_rounds number (round ∷ rounds) caused results [] many = absurd (omega (arith, many))
parts_are_rounds number (round ∷ rounds) caused results (end ∷ []) many = absurd (omega (arith, many))
parts_are_rounds number (round ∷ rounds) caused results (end ∷ second_end ∷ ends) many =
    let own = caused_submits number caused in
    let rest = drop (length round.submits) results in
    ap
    (λ (others : List (RoundAnswers SubmitFault)).
    answered_round round (take (length round.submits) results) end ∷ answered_round (second_of round own) (take (length own) rest) second_end ∷ others)
    (parts_are_rounds (number + 1) rounds caused (drop (length own) rest) ends (omega (arith, many)))
