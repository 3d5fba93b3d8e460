-- What is submitted: debts, and their transfers. Participants are indices in the topology, 0 to 3, and debts are counted from 0.
use Rattle.std.specs.Prelude.{ℕ, ◌+◌, ◌%◌, pos, List, [], ◌∷◌, None, map, codes}
use Rattle.std.specs.List.{range_with_len}
use Rattle.ledger_terms.specs.declared.arg.Arg.{Arg}
use Rattle.ledger_terms.specs.declared.arg.Arg.TheVariants.{Plain}
use Rattle.ledger_terms.specs.declared.command.Command.{Command}
use Rattle.ledger_terms.specs.declared.command.Command.TheVariants.{Create, Exercise}
use Rattle.ledger_terms.specs.declared.contract_ref.ContractRef.{ContractRef}
use Rattle.ledger_terms.specs.declared.contract_ref.ContractRef.TheVariants.{Label}
use Rattle.ledger_terms.specs.declared.submission.Submission.{Submission}
use Rattle.ledger_terms.specs.declared.value.Value.TheVariants.{Party, Int}
use Rattle.ledger_terms.specs.declared.what.What.TheVariants.{Commands}
use Rattle.load_gen.specs.Iou.{iou_template_name, transfer_name}
use Rattle.load_gen.specs.Numbers.{number, amount_by, numbered, participant_at, party_at}
use Rattle.load_gen.specs.declared.topology.TheConstants.{PARTICIPANTS}

-- The participant that has part `step` in debt i: part 0 owes it, part 1 is owed it, and part 2 is owed it after the transfer.
abbrev pub in_turn : ℕ → ℕ → ℕ
in_turn i step = (i + step) % PARTICIPANTS

-- The submission of one command by the participant `place`, which acts as the party that it confirms for. `name` is the id of the command; the ledger
-- time is left out, so it is that of the round.
abbrev pub submission_of : ℕ → List ℕ → Command → Submission
submission_of place name command =
    record {
      participant = place;
      command = name;
      act_as = party_at place ∷ [];
      ledger_time = None;
      what = Commands (command ∷ []);
    }

-- the party of the participant `place` as an argument
abbrev pub party_arg : ℕ → Arg
party_arg place = Plain (Party (party_at place))

-- The submission that creates debt i, whose amount the number x of the generator gives; the id of its command is `c` with i behind it.
abbrev pub debt_by : ℕ → ℕ → Submission
debt_by i x =
    submission_of (in_turn i 0) (numbered (codes "c") i)
    (Create iou_template_name (party_arg (in_turn i 0) ∷ party_arg (in_turn i 1) ∷ Plain (Int (pos (amount_by x))) ∷ []))

-- the label of the contract of debt i, by which its transfer names it: its creator's name, the creation's command and the first root
abbrev pub debt_label : ℕ → ContractRef
debt_label i = Label (record { participant = participant_at (in_turn i 0); command = numbered (codes "c") i; path = 0 ∷ [] })

-- the submission by which the owner of debt i transfers it to the next participant; the id of its command is `t` with i behind it
abbrev pub transfer_of : ℕ → Submission
transfer_of i =
    submission_of (in_turn i 1) (numbered (codes "t") i) (Exercise iou_template_name (debt_label i) transfer_name (party_arg (in_turn i 2) ∷ []))

-- The submissions that create `count` debts, of which debt i has the amount by number i + 1 of the seed.
abbrev pub debts : ℕ → ℕ → List Submission
debts seed count = map (λ i. debt_by i (number seed (i + 1))) (range_with_len 0 count)

-- the submissions that transfer `count` debts, in order
abbrev pub transfers : ℕ → List Submission
transfers count = map transfer_of (range_with_len 0 count)
