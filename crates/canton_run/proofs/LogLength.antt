-- How long the log of a run is.
use Rattle.std.proofs.Common.{ℕ, ◌+◌, ◌*◌, ◌≤◌, List, [], ◌∷◌, drop, length, arith}
use Rattle.canton_model.specs.declared.entry.Entry.{Entry}
use Rattle.node_core.specs.declared.submit_result.SubmitResult.{SubmitResult}
use Rattle.run_model.proofs.Ends.{run_is_short}
use Rattle.script_read.specs.Kept.{IsAccepted}
use Rattle.script_read.specs.declared.round.Round.{Round}
use Rattle.script_read.specs.declared.script.Script.{Script}
use Rattle.trigger_model.specs.TwoParts.{parts_of}
use Rattle.trigger_rules.specs.Answers.{Answers}
use Rattle.trigger_rules.specs.declared.caused.Caused.{Caused}
use Rattle.canton_run.specs.Parts.{caused_submits, round_parts}
use Rattle.canton_run.specs.Run.{IsRun, machine_for, parts_of_run, why_for}

few_parts : (number : ℕ) (rounds : List Round) (caused : List Caused) (results : List SubmitResult) (ends : List ℕ)
    → length (parts_of (round_parts number rounds caused results ends)) ≤ 2 * length rounds
few_parts number [] caused results ends = omega arith
few_parts number (round ∷ rounds) caused results [] = omega arith
few_parts number (round ∷ rounds) caused results (end ∷ []) = omega arith
few_parts number (round ∷ rounds) caused results (end ∷ second_end ∷ ends) =
    let later = drop (length (caused_submits number caused)) (drop (length round.submits) results) in
    let rest = few_parts (number + 1) rounds caused later ends in omega (arith, rest)

-- at most 20,480 places, and one Tick for each part of 2,048 rounds
pub log_is_short : (may : Answers) (script : Script) (capacity workers : ℕ) (log : List Entry) (results : List SubmitResult) (ends : List ℕ)
    (caused : List Caused) → IsRun may script capacity workers log results ends caused → IsAccepted script → capacity ≤ 20480 → length log ≤ 24576
log_is_short may script capacity workers log results ends caused run accepted room =
    let short = run_is_short (machine_for script capacity) (why_for script) log (parts_of (parts_of_run script results ends caused)) (run.cut).run in
    let parts = few_parts 0 script.rounds caused results ends in
    let few : length script.rounds ≤ 2048 = (accepted.rounds).few in
    omega (arith, short, parts, few, room)
