-- The rounds of a generated script are within their limits, and name participants and parties of its topology.
use Rattle.std.proofs.Common.{ℕ, zero, suc, ◌+◌, ◌*◌, ◌<◌, ◌≤◌, ◌^◌, true, List, [], ◌∷◌, refl, arith}
use Rattle.std.specs.Prelude.{map, pos, codes}
use Rattle.std.specs.List.{AllByRecursion, range_with_len}
use Rattle.std.proofs.lemmas.Bool.{and_from}
use Rattle.std.proofs.lemmas.List.Elements.{All-nil}
use Rattle.std.proofs.lemmas.List.FromFn.{length-map-range_with_len}
use Rattle.std.proofs.lemmas.Nat.{mod_below}
use Rattle.ledger_terms.specs.Names.{IsName}
use Rattle.ledger_terms.specs.declared.command.Command.{Command}
use Rattle.ledger_terms.specs.declared.command.Command.TheVariants.{Create, Exercise}
use Rattle.ledger_terms.specs.declared.arg.Arg.TheVariants.{Plain}
use Rattle.ledger_terms.specs.declared.value.Value.TheVariants.{Int}
use Rattle.ledger_terms.specs.declared.submission.Submission.{Submission}
use Rattle.lang_eval.specs.Named.{AreKnown}
use Rattle.lang_eval.specs.HandedIn.{parties_in_commands}
use Rattle.lang_read.specs.Parties.{is_hosted}
use Rattle.script_read.specs.Accepted.{IsTemplate, IsReference, IsArg, IsCommand, AreCommands}
use Rattle.script_read.specs.Kept.{AreRules, IsRule, IsSubmission, IsRaw, IsRound, AreRounds, IsAccepted}
use Rattle.script_read.proofs.Lists.{all_of}
use Rattle.load_gen.specs.Generated.{round_of, generated}
use Rattle.load_gen.specs.Iou.{iou_template_name, transfer_name}
use Rattle.load_gen.specs.Numbers.{number, amount_by, numbered, party_at}
use Rattle.load_gen.specs.Scripts.{hosts}
use Rattle.load_gen.specs.Submissions.{in_turn, submission_of, party_arg, debt_by, debt_label, transfer_of, debts, transfers}
use Rattle.load_gen.proofs.AcceptedHosts.{party_is_hosted, participant_is_there, topology_is_valid}
use Rattle.load_gen.proofs.AcceptedPackages.{packages_are_accepted}
use Rattle.load_gen.proofs.Named.{numbered_is_name}

-- ---- submissions

turn_below : (i step : ℕ) → in_turn i step < 4
turn_below i step = mod_below (i + step) 4 (omega arith)

one_hosted : (k : ℕ) → k < 4 → AreKnown (is_hosted hosts) (party_at k ∷ [])
one_hosted k below = and_from (is_hosted hosts (party_at k)) true (party_is_hosted k below) refl

submission_is : (i step : ℕ) (name : List ℕ) (c : Command) → IsName name → AreCommands hosts (c ∷ []) → IsSubmission hosts [] (submission_of (in_turn i step) name c)
submission_is i step name c named are =
    record {
      participant = turn_below i step;
      command = named;
      own = refl;
      someone = omega arith;
      few = omega arith;
      hosted = one_hosted (in_turn i step) (turn_below i step);
      time = tt;
      what = are;
    }

one_command : (c : Command) → IsCommand hosts c → AreKnown (is_hosted hosts) (parties_in_commands (c ∷ [])) → AreCommands hosts (c ∷ [])
one_command c is hosted = record { some = omega arith; few = omega arith; each = all_of (IsCommand hosts) (c ∷ []) (is, tt); hosted = hosted }

iou_is_named : IsTemplate iou_template_name
iou_is_named = record { «package» = refl; name = refl }

debt_is : (i x : ℕ) → i < 2 ^ 32 → IsSubmission hosts [] (debt_by i x)
debt_is i x few =
    let fields = party_arg (in_turn i 0) ∷ party_arg (in_turn i 1) ∷ Plain (Int (pos (amount_by x))) ∷ [] in
    let owes = party_is_hosted (in_turn i 0) (turn_below i 0) in
    let owed = one_hosted (in_turn i 1) (turn_below i 1) in
    submission_is i 0 (numbered (codes "c") i) (Create iou_template_name fields) (numbered_is_name (codes "c") i refl few)
    (one_command (Create iou_template_name fields)
    (iou_is_named, record { few = omega arith; each = all_of (IsArg hosts) fields (tt, (tt, (tt, tt))) })
    (and_from (is_hosted hosts (party_at (in_turn i 0))) _ owes owed))

label_is : (i : ℕ) → i < 2 ^ 32 → IsReference hosts (debt_label i)
label_is i few =
    record {
      participant = participant_is_there (in_turn i 0) (turn_below i 0);
      command = numbered_is_name (codes "c") i refl few;
      some = omega arith;
      few = omega arith;
      low = all_of (λ (step : ℕ). step ≤ 63) (0 ∷ []) (omega arith, tt);
    }

transfer_is : (i : ℕ) → i < 2 ^ 32 → IsSubmission hosts [] (transfer_of i)
transfer_is i few =
    let args = party_arg (in_turn i 2) ∷ [] in
    let command = Exercise iou_template_name (debt_label i) transfer_name args in
    submission_is i 1 (numbered (codes "t") i) command (numbered_is_name (codes "t") i refl few)
    (one_command command
    (iou_is_named, label_is i few, refl, record { few = omega arith; each = all_of (IsArg hosts) args (tt, tt) })
    (one_hosted (in_turn i 2) (turn_below i 2)))

-- ---- rounds

each_in_range : {X : Type 0} (P : X → Type 0) (f : ℕ → X) (most : ℕ) → ((i : ℕ) → i < most → P (f i)) → (a n : ℕ) → a + n ≤ most
    → AllByRecursion P (map f (range_with_len a n))
each_in_range P f most each a zero h = tt
each_in_range P f most each a (suc n) h = (each a (omega (arith, h)), each_in_range P f most each (a + 1) n (omega (arith, h)))

round_is : (submits : List Submission) → AllByRecursion (IsSubmission hosts []) submits → IsRound hosts [] (round_of submits)
round_is submits each =
    record {
      advance = omega arith;
      paused = all_of (λ (p : ℕ). p < 4) [] tt;
      submits = all_of (IsSubmission hosts []) submits each;
      few_raws = omega arith;
      raws = all_of (IsRaw hosts []) [] tt;
      restarts = all_of (λ (p : ℕ). p < 4) [] tt;
    }

debts_are : (seed count : ℕ) → 2 * count ≤ 2048 → IsRound hosts [] (round_of (debts seed count))
debts_are seed count few =
    round_is (debts seed count)
    (each_in_range (IsSubmission hosts []) (λ i. debt_by i (number seed (i + 1))) count (λ i below. debt_is i (number seed (i + 1)) (omega (arith, below, few))) 0 count (omega arith))

transfers_are : (count : ℕ) → 2 * count ≤ 2048 → IsRound hosts [] (round_of (transfers count))
transfers_are count few =
    round_is (transfers count)
    (each_in_range (IsSubmission hosts []) transfer_of count (λ i below. transfer_is i (omega (arith, below, few))) 0 count (omega arith))

rounds_are : (seed count : ℕ) → 2 * count ≤ 2048 → AreRounds (generated seed count)
rounds_are seed count few =
    let first = length-map-range_with_len (λ i. debt_by i (number seed (i + 1))) 0 count in
    let second = length-map-range_with_len transfer_of 0 count in
    record {
      few = omega arith;
      submits = omega (arith, first, second, few);
      each = all_of (IsRound hosts []) (round_of (debts seed count) ∷ round_of (transfers count) ∷ []) (debts_are seed count few, (transfers_are count few, tt));
    }

no_rules : AreRules hosts []
no_rules = record { few = omega arith; each = All-nil (IsRule hosts); named = λ i j d lt within. absurd (omega (arith, within)) }

pub generated_is_accepted : (seed count : ℕ) → 2 * count ≤ 2048 → IsAccepted (generated seed count)
generated_is_accepted seed count few = record { topology = topology_is_valid; packages = packages_are_accepted; triggers = no_rules; rounds = rounds_are seed count few }
