-- Names of parties, for each of which a participant confirms.
use Rattle.std.specs.Prelude.{ℕ, Bool, List, Result, Ok}
use Rattle.std.specs.List.{list_any}
use Rattle.serde_json.specs.Data.{Data}
use Rattle.ledger_terms.specs.Hosting.{lists_party}
use Rattle.ledger_terms.specs.Parties.{set_of}
use Rattle.ledger_terms.specs.declared.host.Host.{Host}
use Rattle.ledger_terms.specs.Answers.{◌>>=◌, check}
use Rattle.json_walk.specs.Lists.{list_of}
use Rattle.json_walk.specs.Walk.{Place, name_of}
use Rattle.json_walk.specs.declared.walk_fault.WalkFault.{WalkFault}
use Rattle.json_walk.specs.declared.walk_fault.WalkFault.TheVariants.{Unknown}

-- whether some participant of the topology confirms for the party, so that a text may name it; that one observes it isn't enough
abbrev pub is_hosted : List Host → List ℕ → Bool
is_hosted hosts party = list_any (lists_party party) hosts

-- the name that the value at the place `at` spells, where it is that of a party of the topology; else Unknown, or Shape where it is no name
unfoldable pub party_of : List Host → Place → Data → Result (List ℕ) WalkFault
party_of hosts at d = do
  name ← name_of at d
  _ ← check (is_hosted hosts name) (Unknown at name)
  Ok name

-- the set of the parties of the topology whose names a list spells, in any order and more than once; the first fault otherwise
unfoldable pub parties_of : List Host → Place → Data → Result (List (List ℕ)) WalkFault
parties_of hosts at d = do
  names ← list_of (party_of hosts) at d
  Ok (set_of names)
