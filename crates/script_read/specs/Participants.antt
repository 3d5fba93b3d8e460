-- Names of participants, which are read as indices in the topology `hosts`. `at` is the place of the JSON value `d` that is read. An Err is the first
-- fault: Shape says that a value has another form than it should or that a member is absent, Unknown that no participant has a name.
use Rattle.std.specs.Prelude.{ℕ, suc, List, [], ◌∷◌, Option, Some, None, option_map, if◌then◌else◌, Result, ok_or, codes}
use Rattle.serde_json.specs.Data.{Data}
use Rattle.ledger_terms.specs.Parties.{same_name}
use Rattle.ledger_terms.specs.Pointers.{at_member}
use Rattle.ledger_terms.specs.declared.host.Host.{Host}
use Rattle.ledger_terms.specs.Answers.{◌>>=◌}
use Rattle.json_walk.specs.Walk.{Place, name_of, member_of}
use Rattle.json_walk.specs.declared.walk_fault.WalkFault.{WalkFault}
use Rattle.json_walk.specs.declared.walk_fault.WalkFault.TheVariants.{Unknown}

-- the index of the first participant of that name; None where no participant has it
abbrev pub participant_named : List Host → List ℕ → Option ℕ
participant_named [] name = None
participant_named (h ∷ hs) name = if same_name h.name name then Some 0 else option_map suc (participant_named hs name)

-- the participant whose name a value spells: Shape where it is no name, Unknown where no participant has it
unfoldable pub participant_of : List Host → Place → Data → Result ℕ WalkFault
participant_of hosts at d = do
  name ← name_of at d
  ok_or (participant_named hosts name) (Unknown at name)

-- the participant whose name stands in the member `k` of an object; Shape where that member is absent
unfoldable pub participant_member : List Host → Place → List ℕ → Data → Result ℕ WalkFault
participant_member hosts at k d = do
  m ← member_of at k d
  participant_of hosts (at_member at k) m

-- the participant whose name stands in the member `participant` of an object; Shape where that member is absent or no name, Unknown where no
-- participant has it
unfoldable pub participant_in : List Host → Place → Data → Result ℕ WalkFault
participant_in hosts at d = participant_member hosts at (codes "participant") d
