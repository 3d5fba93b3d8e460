-- References to contracts: ids, which are hashes, and labels as `#P1:c1:0.1`. Texts are lists of bytes. `hosts` is the topology, `at` the place of what
-- is read. A fault Shape says that a value has another form than it should.
use Rattle.std.specs.Prelude.{ℕ, ◌+◌, ◌-◌, ◌*◌, Bool, ◌==◌, ◌&&◌, List, [], ◌∷◌, ◌++◌}
use Rattle.std.specs.Prelude.{length, nat_le, Option, Some, None, option_and_then, if◌then◌else◌, Result, Ok, ok_or}
use Rattle.std.specs.List.{slice_split}
use Rattle.std.specs.Result.{result_ok}
use Rattle.hex.specs.Hex.{decode_sized}
use Rattle.serde_json.specs.Data.{Data}
use Rattle.serde_json.specs.Find.{as_str}
use Rattle.ledger_terms.specs.Names.{is_name}
use Rattle.ledger_terms.specs.declared.host.Host.{Host}
use Rattle.ledger_terms.specs.declared.label.Label.{Label}
use Rattle.ledger_terms.specs.declared.contract_ref.ContractRef.{ContractRef}
use Rattle.ledger_terms.specs.declared.contract_ref.ContractRef.TheVariants as reference
use Rattle.ledger_terms.specs.Answers.{◌>>=◌, check}
use Rattle.json_walk.specs.declared.limits.TheConstants.{LABEL_STEPS}
use Rattle.json_walk.specs.Walk.{within_limit, Place}
use Rattle.json_walk.specs.Texts.{parts_round}
use Rattle.json_walk.specs.declared.walk_fault.WalkFault.{WalkFault}
use Rattle.json_walk.specs.declared.walk_fault.WalkFault.TheVariants.{Shape, Unknown}
use Rattle.script_read.specs.Hosts.{is_participant}

-- ---- ids

-- the 32 bytes that 64 hexadecimal digits of either case spell; None of any other text
abbrev pub hash_named : List ℕ → Option (List ℕ)
hash_named s = result_ok (decode_sized s 32)

-- the 32 bytes that the value `d` spells; Shape where it is no text of 64 hexadecimal digits
unfoldable pub hash_of : Place → Data → Result (List ℕ) WalkFault
hash_of at d = do
  s ← ok_or (as_str d) (Shape at)
  ok_or (hash_named s) (Shape at)

-- ---- labels

-- whether a byte is a decimal digit
abbrev pub is_digit : ℕ → Bool
is_digit b = nat_le 48 b && nat_le b 57

-- the step of a label's path that a word spells, 0 to 63 in decimal with no zero before it; None of any other word
abbrev pub step_named : List ℕ → Option ℕ
step_named (b ∷ []) = if is_digit b then Some (b - 48) else None
step_named (b ∷ c ∷ []) =
    if nat_le 49 b && (is_digit b && (is_digit c && nat_le ((b - 48) * 10 + (c - 48)) 63))
    then Some ((b - 48) * 10 + (c - 48))
    else None
step_named [] = None
step_named (b ∷ c ∷ e ∷ more) = None

-- the steps that the words spell, in order, behind those in `before`; None where one of the words spells none
abbrev pub steps_from : List ℕ → List (List ℕ) → Option (List ℕ)
steps_from before [] = Some before
steps_from before (w ∷ ws) = option_and_then (λ n. steps_from (before ++ n ∷ []) ws) (step_named w)

-- the path of a label that a text spells, steps with dots (byte 46) between them; None where one of them is no step
unfoldable pub path_named : List ℕ → Option (List ℕ)
path_named s = steps_from [] (slice_split (λ b. b == 46) s)

-- the label with a participant's name, a command's id and a path; None where one of the first two is no name
abbrev pub label_with : List ℕ → List ℕ → List ℕ → Option Label
label_with participant command path =
    if is_name participant && is_name command
    then Some (record { participant = participant; command = command; path = path })
    else None

-- the label that a text `participant:command:path` spells; None of any other text
unfoldable pub label_named : List ℕ → Option Label
label_named s =
    option_and_then (λ p. option_and_then (λ q. option_and_then (label_with p.0 q.0) (path_named q.1)) (parts_round 58 p.1)) (parts_round 58 s)

-- the label that the text `s` spells: Shape where it spells none, Limit where its path has too many steps, Unknown where no participant has its
-- name
unfoldable pub label_of : List Host → Place → List ℕ → Result Label WalkFault
label_of hosts at s = do
  label ← ok_or (label_named s) (Shape at)
  _ ← within_limit at LABEL_STEPS (length label.path)
  _ ← check (is_participant hosts label.participant) (Unknown at label.participant)
  Ok label

-- the rest of a text behind the `#` with which it begins; None where it begins with none
abbrev pub behind_mark : List ℕ → Option (List ℕ)
behind_mark [] = None
behind_mark (b ∷ bs) = if b == 35 then Some bs else None

-- The reference that the text `s` spells, by what `behind_mark` gives of it: Some is the text behind a `#`, which has to be a label as `label_of` reads
-- it; with None, where there is no `#`, `s` has to be an id of 64 hexadecimal digits, else Shape.
abbrev pub reference_by : List Host → Place → List ℕ → Option (List ℕ) → Result ContractRef WalkFault
reference_by hosts at s (Some label) = label_of hosts at label >>= (λ l. Ok (reference.Label l))
reference_by hosts at s None = ok_or (hash_named s) (Shape at) >>= (λ h. Ok (reference.Id h))

-- the reference that the value `d` spells, a label behind a `#` or an id of 64 hexadecimal digits; Shape where it is neither, Limit or Unknown of a
-- label as `label_of` has them
unfoldable pub reference_of : List Host → Place → Data → Result ContractRef WalkFault
reference_of hosts at d = do
  s ← ok_or (as_str d) (Shape at)
  reference_by hosts at s (behind_mark s)
