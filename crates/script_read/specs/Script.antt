-- Scripts: the script that bytes spell, or its first fault. `hosts` is the topology, and `d` the JSON value of the script, but in `counted_package`
-- that of one package and in `packages_if` that of the list of packages, each at the place `at`.
use Rattle.std.specs.Prelude.{ℕ, ◌+◌, Bool, List, [], ◌∷◌, length, Option, Some, None, Result, Ok, Err, codes}
use Rattle.serde_json.specs.Data.{Data}
use Rattle.serde_json.specs.Find.{get}
use Rattle.ledger_terms.specs.Pointers.{at_member}
use Rattle.ledger_terms.specs.Packages.{PackageForm}
use Rattle.ledger_terms.specs.declared.host.Host.{Host}
use Rattle.ledger_terms.specs.declared.topology.Topology.{Topology}
use Rattle.lang_check.specs.Packages.{checked_or_fault}
use Rattle.lang_check.specs.declared.check_fault.CheckFault.{CheckFault}
use Rattle.ledger_terms.specs.Answers.{◌>>=◌, check}
use Rattle.json_walk.specs.declared.limits.TheConstants.{PACKAGES}
use Rattle.json_walk.specs.Lists.{counted_of}
use Rattle.json_walk.specs.Walk.{Place, has_members, json_of}
use Rattle.lang_read.specs.Packages.{package_of}
use Rattle.json_walk.specs.declared.walk_fault.WalkFault.{WalkFault}
use Rattle.script_read.specs.declared.script_fault.ScriptFault.{ScriptFault}
use Rattle.script_read.specs.declared.script_fault.ScriptFault.TheVariants.{Shape, Package}
use Rattle.script_read.specs.Faults.{from_walk}
use Rattle.script_read.specs.Hosts.{hosts_in, params_of, vetting_in}
use Rattle.script_read.specs.Rounds.{rounds_in}
use Rattle.script_read.specs.Triggers.{triggers_in}
use Rattle.script_read.specs.declared.script.Script.{Script}

-- ---- packages

-- the package at the place `at`, and `before`, the number of templates in the packages before it, with the number of its own added
unfoldable pub counted_package : List Host → ℕ → Place → Data → Result (PackageForm × ℕ) WalkFault
counted_package hosts before at d = do
  one ← package_of hosts before at d
  Ok (one, before + length one.templates)

-- the packages of a list at the place `at`, in order, and how many templates they have in all; None, where the member is absent, gives no package
abbrev pub packages_if : List Host → Place → Option Data → Result (List PackageForm × ℕ) WalkFault
packages_if hosts at None = Ok ([], 0)
packages_if hosts at (Some d) = counted_of (counted_package hosts) at PACKAGES d

-- the packages in the member `packages` of a script, none where it is absent, as they are read and before they are checked
unfoldable pub packages_in : List Host → Data → Result (List PackageForm) WalkFault
packages_in hosts d = packages_if hosts (at_member [] (codes "packages")) (get (codes "packages") d) >>= (λ s. Ok s.0)

-- the result of a check of packages, with an Err as the fault Package of a script
abbrev pub as_package : Result (List PackageForm) CheckFault → Result (List PackageForm) ScriptFault
as_package (Ok packages) = Ok packages
as_package (Err fault) = Err (Package fault)

-- the packages with what is built in, where they pass the check of kinds and names (`lang_check`); else the fault Package
unfoldable pub checked_of : List PackageForm → Result (List PackageForm) ScriptFault
checked_of packages = as_package (checked_or_fault packages)

-- the checked packages of a script with what is built in, or its packages' first fault
unfoldable pub checked_in : List Host → Data → Result (List PackageForm) ScriptFault
checked_in hosts d = do
  packages ← from_walk (packages_in hosts d)
  checked_of packages

-- ---- the whole

-- whether a value is an object with the members that a script must have, and no others than it may have
unfoldable pub has_script_members : Data → Bool
has_script_members d =
    has_members (codes "participants" ∷ codes "rounds" ∷ [])
    (codes "response_timeout" ∷ codes "reaction_timeout" ∷ codes "skew" ∷ codes "packages" ∷ codes "triggers" ∷ []) d

-- the topology of a script, its participants and its times, where nobody has vetted anything yet
unfoldable pub topology_in : Data → Result Topology WalkFault
topology_in d = do
  hosts ← hosts_in d
  params ← params_of d
  Ok (record { hosts = hosts; params = params })

-- The script that a value spells, or the first fault. Read are, in this order, the participants, the times, the packages, which then are checked,
-- what is vetted, the rules, and the rounds.
unfoldable pub script_of : Data → Result Script ScriptFault
script_of d = do
  _ ← check (has_script_members d) (Shape [])
  known ← from_walk (topology_in d)
  checked ← checked_in known.hosts d
  hosts ← from_walk (vetting_in checked known.hosts d)
  triggers ← from_walk (triggers_in known.hosts d)
  rounds ← from_walk (rounds_in known.hosts triggers d)
  Ok (record { topology = record { hosts = hosts; params = known.params }; checked = checked; triggers = triggers; rounds = rounds })

-- the script that bytes spell, or its first fault
unfoldable pub script_in : List ℕ → Result Script ScriptFault
script_in bytes = do
  d ← from_walk (json_of bytes)
  script_of d
