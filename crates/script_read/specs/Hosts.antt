-- The participants, the times, and what each participant has vetted. `at` is the place of the JSON value `d` that is read; where a definition takes no
-- place, `d` is the whole script. An Err is the first fault: Shape says that a value has another form than it should or that a member is absent,
-- NotInteger that a number isn't whole, Limit that a count or a number is outside its limit.
use Rattle.std.specs.Prelude.{ℕ, ◌+◌, Bool, ◌||◌, not, List, [], ◌∷◌, ◌++◌, map, Option, Some, None, slice_get, Result, Ok, codes}
use Rattle.std.specs.List.{list_any}
use Rattle.serde_json.specs.Data.{Data, Items}
use Rattle.serde_json.specs.Find.{get}
use Rattle.ledger_terms.specs.Parties.{set_of, has_party, same_name}
use Rattle.ledger_terms.specs.Pointers.{at_item, at_member}
use Rattle.ledger_terms.specs.Packages.{PackageForm}
use Rattle.ledger_terms.specs.declared.host.Host.{Host}
use Rattle.ledger_terms.specs.declared.params.Params.{Params}
use Rattle.ledger_terms.specs.Answers.{◌>>=◌, check}
use Rattle.json_walk.specs.declared.limits.TheConstants.{PARTICIPANTS, PARTIES, TIMEOUT}
use Rattle.json_walk.specs.Lists.{list_of}
use Rattle.json_walk.specs.Walk.{within_limit, few_items_of, Place, name_of, name_in, integer_of, has_members, items_of, walk_items, item_count, member_of}
use Rattle.lang_read.specs.Parties.{is_hosted}
use Rattle.script_read.specs.Observing.{observing_names_in, observing_of}
use Rattle.json_walk.specs.declared.walk_fault.WalkFault.{WalkFault}
use Rattle.json_walk.specs.declared.walk_fault.WalkFault.TheVariants.{Shape, Repeated, Unknown}

-- ---- participants

-- whether one of the participants has the name
abbrev pub is_participant : List Host → List ℕ → Bool
is_participant hosts name = list_any (λ (h : Host). same_name h.name name) hosts

-- One step of a walk through the parties of a participant, a list at the place `at`: puts the name `d` at index i behind `before`, its parties so far.
-- Repeated where the name is among these or one of `hosts`, the participants before, confirms for it.
unfoldable pub new_party_step : List Host → Place → ℕ → List (List ℕ) → Data → Result (List (List ℕ)) WalkFault
new_party_step hosts at i before d = do
  name ← name_of (at_item at i) d
  _ ← check (not (is_hosted hosts name || has_party before name)) (Repeated (at_item at i))
  Ok (before ++ name ∷ [])

-- the items of the list in the member `parties` of a participant, where the participants before confirm for `count` parties; Limit where there are
-- too many with these
unfoldable pub party_items_in : ℕ → Place → Data → Result Items WalkFault
party_items_in count at d = do
  m ← member_of at (codes "parties") d
  items ← items_of (at_member at (codes "parties")) m
  _ ← within_limit (at_member at (codes "parties")) PARTIES (count + item_count items)
  Ok items

-- the name in the member `name` of a participant; Repeated where one of `hosts`, the participants before, has it
unfoldable pub new_name_in : List Host → Place → Data → Result (List ℕ) WalkFault
new_name_in hosts at d = do
  name ← name_in at (codes "name") d
  _ ← check (not (is_participant hosts name)) (Repeated (at_member at (codes "name")))
  Ok name

-- whether a value is an object with the members that a participant must have, and no others than it may have
unfoldable pub has_host_members : Data → Bool
has_host_members d = has_members (codes "name" ∷ codes "parties" ∷ []) (codes "observing" ∷ codes "vetted" ∷ []) d

-- `before` has the participants before and for how many parties they confirm, and the result has both with the participant that `d` spells. What it has
-- vetted isn't read here, and what it observes is only tried to be names, since a later participant may confirm for a party that it names.
unfoldable pub host_of : List Host × ℕ → Place → Data → Result (List Host × ℕ) WalkFault
host_of before at d = do
  _ ← check (has_host_members d) (Shape at)
  name ← new_name_in before.0 at d
  items ← party_items_in before.1 at d
  parties ← walk_items (new_party_step before.0 (at_member at (codes "parties"))) 0 [] items
  _ ← observing_names_in at d
  Ok (before.0 ++ record { name = name; parties = set_of parties; observing = []; vetted = [] } ∷ [], before.1 + item_count items)

-- One step of the first walk through the participants, a list at the place `at`: `host_of` for the item `d` at index i.
abbrev pub host_step : Place → ℕ → List Host × ℕ → Data → Result (List Host × ℕ) WalkFault
host_step at i before d = host_of before (at_item at i) d

-- the participants of a list, with nothing yet in what they observe and have vetted, and the number of parties for which they confirm in all; Shape
-- where it is no list, Limit where it has none or more than 8, else the first fault of one
unfoldable pub hosts_of : Place → Data → Result (List Host × ℕ) WalkFault
hosts_of at d = do
  items ← few_items_of at PARTICIPANTS d
  walk_items (host_step at) 0 ([], 0) items

-- the place of the member `participants` of a script
abbrev pub participants_at : Place
participants_at = at_member [] (codes "participants")

-- the value of the member `k` of a script; Shape where it is absent
unfoldable pub root_member : List ℕ → Data → Result Data WalkFault
root_member k d = member_of [] k d

-- the value of the member `participants` of a script, whatever it is; Shape where that member is absent
unfoldable pub participants_of : Data → Result Data WalkFault
participants_of d = root_member (codes "participants") d

-- the participants of a script with what they observe, but for what they have vetted
unfoldable pub hosts_in : Data → Result (List Host) WalkFault
hosts_in d = do
  m ← participants_of d
  hosts ← hosts_of participants_at m
  observing_of hosts.0 participants_at m

-- ---- times, in microseconds

-- a time to wait in microseconds, as the member at the place `at` says it; None, where that is absent, gives `default`
abbrev pub wait_if : Place → ℕ → Option Data → Result ℕ WalkFault
wait_if at default None = Ok default
wait_if at default (Some d) = integer_of at TIMEOUT d

-- the time in the member `k` of a script, or `default` where that is absent; Limit where it is outside the limit on waits
unfoldable pub wait_in : List ℕ → ℕ → Data → Result ℕ WalkFault
wait_in k default d = wait_if (at_member [] k) default (get k d)

-- how long responses are awaited, in microseconds: the member `response_timeout`, or 30 seconds where that is absent
unfoldable pub response_in : Data → Result ℕ WalkFault
response_in d = wait_in (codes "response_timeout") 30000000 d

-- how long the mediator's verdict is awaited after that, in microseconds: the member `reaction_timeout`, or 30 seconds where that is absent
unfoldable pub reaction_in : Data → Result ℕ WalkFault
reaction_in d = wait_in (codes "reaction_timeout") 30000000 d

-- how far ledger time and the time of an entry may differ, in microseconds: the member `skew`, or 60 seconds where that is absent
unfoldable pub skew_in : Data → Result ℕ WalkFault
skew_in d = wait_in (codes "skew") 60000000 d

-- the three times of a script, in microseconds
unfoldable pub params_of : Data → Result Params WalkFault
params_of d = do
  response ← response_in d
  reaction ← reaction_in d
  skew ← skew_in d
  Ok (record { response_timeout = response; reaction_timeout = reaction; skew = skew })

-- ---- vetted packages

-- whether one of the packages has the name
abbrev pub is_package : List PackageForm → List ℕ → Bool
is_package packages name = list_any (λ (p : PackageForm). same_name p.name name) packages

-- the names of the packages, in order, which a participant has vetted whose member `vetted` is absent
abbrev pub package_names : List PackageForm → List (List ℕ)
package_names packages = map (λ (p : PackageForm). p.name) packages

-- the name that a value spells: Shape where it is no name, Unknown where no package has it
unfoldable pub package_name_of : List PackageForm → Place → Data → Result (List ℕ) WalkFault
package_name_of packages at d = do
  name ← name_of at d
  _ ← check (is_package packages name) (Unknown at name)
  Ok name

-- the names of the packages that a participant has vetted, as its member at the place `at` lists them; None, where that is absent, gives all
-- packages
abbrev pub vetted_if : List PackageForm → Place → Option Data → Result (List (List ℕ)) WalkFault
vetted_if packages at None = Ok (package_names packages)
vetted_if packages at (Some d) = list_of (package_name_of packages) at d

-- the names of packages in the member `vetted` of a participant, all packages where that is absent
unfoldable pub vetted_in : List PackageForm → Place → Data → Result (List (List ℕ)) WalkFault
vetted_in packages at d = vetted_if packages (at_member at (codes "vetted")) (get (codes "vetted") d)

-- Puts a participant, with the names of packages that it has vetted, behind `before`. None stands for an item without a participant, which doesn't come
-- where a script is read; it leaves `before` as it is.
abbrev pub with_vetted : List Host → Option Host → List (List ℕ) → List Host
with_vetted before None vetted = before
with_vetted before (Some h) vetted = before ++ record { name = h.name; parties = h.parties; observing = h.observing; vetted = vetted } ∷ []

-- One step of the last walk through the participants `hosts`, a list at the place `at`: puts the one at index i, with what it has vetted, behind
-- `before`.
unfoldable pub vetting_step : List PackageForm → List Host → Place → ℕ → List Host → Data → Result (List Host) WalkFault
vetting_step packages hosts at i before d = do
  vetted ← vetted_in packages (at_item at i) d
  Ok (with_vetted before (slice_get hosts i) vetted)

-- the participants `hosts` with what they have vetted, as the script `d` says it, read in a walk of its own once the packages are checked; Unknown
-- where a name is that of none of `packages`
unfoldable pub vetting_in : List PackageForm → List Host → Data → Result (List Host) WalkFault
vetting_in packages hosts d = do
  m ← participants_of d
  items ← items_of participants_at m
  walk_items (vetting_step packages hosts participants_at) 0 [] items
