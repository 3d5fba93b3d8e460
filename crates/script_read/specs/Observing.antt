-- What the participants observe: parties for which another participant confirms. `hosts` are all participants, `own` the parties for which the one that
-- is read confirms, `at` is the place of the JSON value `d` that is read. An Err is the first fault: Shape says that a value is no list or no name.
use Rattle.std.specs.Prelude.{ℕ, ◌||◌, not, List, [], ◌∷◌, ◌++◌, Option, Some, None, slice_get, Result, Ok, codes}
use Rattle.serde_json.specs.Data.{Data}
use Rattle.serde_json.specs.Find.{get}
use Rattle.ledger_terms.specs.Parties.{set_of, has_party}
use Rattle.ledger_terms.specs.Pointers.{at_item, at_member}
use Rattle.ledger_terms.specs.declared.host.Host.{Host}
use Rattle.ledger_terms.specs.Answers.{◌>>=◌, check}
use Rattle.json_walk.specs.Lists.{list_of}
use Rattle.json_walk.specs.Walk.{Place, name_of, items_of, walk_items}
use Rattle.lang_read.specs.Parties.{is_hosted}
use Rattle.json_walk.specs.declared.walk_fault.WalkFault.{WalkFault}
use Rattle.json_walk.specs.declared.walk_fault.WalkFault.TheVariants.{Repeated, Unknown}

-- ---- names, whatever they name

-- the names of a list at the place `at`, in order; None, where the member is absent, gives none
abbrev pub observing_names_if : Place → Option Data → Result (List (List ℕ)) WalkFault
observing_names_if at None = Ok []
observing_names_if at (Some d) = list_of name_of at d

-- the names in the member `observing` of a participant, none where it is absent, before it can be told whether they are those of parties
unfoldable pub observing_names_in : Place → Data → Result (List (List ℕ)) WalkFault
observing_names_in at d = observing_names_if (at_member at (codes "observing")) (get (codes "observing") d)

-- ---- parties, once all participants are known

-- Puts the party that the value `d` names behind `before`, the parties that the participant observes so far. Unknown where nobody confirms for it,
-- Repeated where the participant itself does or it stands in `before`.
unfoldable pub observed_party : List Host → List (List ℕ) → Place → List (List ℕ) → Data → Result (List (List ℕ)) WalkFault
observed_party hosts own at before d = do
  name ← name_of at d
  _ ← check (is_hosted hosts name) (Unknown at name)
  _ ← check (not (has_party own name || has_party before name)) (Repeated at)
  Ok (before ++ name ∷ [])

-- One step of a walk through the list at the place `at`: `observed_party` for the item `d` at index i.
abbrev pub observed_step : List Host → List (List ℕ) → Place → ℕ → List (List ℕ) → Data → Result (List (List ℕ)) WalkFault
observed_step hosts own at i before d = observed_party hosts own (at_item at i) before d

-- the parties that a list of any length names, in its order, or the first fault: Shape where it is no list, else that of an item, as `observed_party`
-- has it
unfoldable pub observed_of : List Host → List (List ℕ) → Place → Data → Result (List (List ℕ)) WalkFault
observed_of hosts own at d = do
  items ← items_of at d
  walk_items (observed_step hosts own at) 0 [] items

-- the parties that a participant observes, as its member at the place `at` names them; None, where that is absent, gives none
abbrev pub observed_if : List Host → List (List ℕ) → Place → Option Data → Result (List (List ℕ)) WalkFault
observed_if hosts own at None = Ok []
observed_if hosts own at (Some d) = observed_of hosts own at d

-- the parties in the member `observing` of a participant, none where that is absent
unfoldable pub observed_in : List Host → List (List ℕ) → Place → Data → Result (List (List ℕ)) WalkFault
observed_in hosts own at d = observed_if hosts own (at_member at (codes "observing")) (get (codes "observing") d)

-- ---- participants

-- the participant `host` with what it observes, as its JSON value `d` at the place `at` says it; what it has vetted is left empty, since that is read
-- later
unfoldable pub observing_host : List Host → Host → Place → Data → Result Host WalkFault
observing_host hosts host at d = do
  observed ← observed_in hosts host.parties at d
  Ok (record { name = host.name; parties = host.parties; observing = set_of observed; vetted = [] })

-- Puts a participant, with what it observes as its JSON value `d` at the place `at` says it, behind `before`. None stands for a value without a
-- participant, which doesn't come where a script is read; it leaves `before` as it is.
abbrev pub with_observing : List Host → Place → List Host → Option Host → Data → Result (List Host) WalkFault
with_observing hosts at before None d = Ok before
with_observing hosts at before (Some host) d = observing_host hosts host at d >>= (λ one. Ok (before ++ one ∷ []))

-- One step of the second walk through the participants, a list at the place `at`: puts the one at index i, with what it observes, behind `before`.
abbrev pub observing_step : List Host → Place → ℕ → List Host → Data → Result (List Host) WalkFault
observing_step hosts at i before d = with_observing hosts (at_item at i) before (slice_get hosts i) d

-- The participants with what they observe, in a second walk through the list at the place `at`: only when all of them are known can be told who
-- confirms for a party.
unfoldable pub observing_of : List Host → Place → Data → Result (List Host) WalkFault
observing_of hosts at d = do
  items ← items_of at d
  walk_items (observing_step hosts at) 0 [] items
