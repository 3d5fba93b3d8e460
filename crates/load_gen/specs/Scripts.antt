-- The participants and the packages of a generated script.
use Rattle.std.specs.Prelude.{ℕ, List, [], ◌∷◌, map, codes}
use Rattle.std.specs.List.{range_with_len}
use Rattle.ledger_terms.specs.Packages.{PackageForm}
use Rattle.ledger_terms.specs.declared.host.Host.{Host}
use Rattle.ledger_terms.specs.declared.params.Params.{Params}
use Rattle.lang_eval.specs.Builtin.{checked_packages}
use Rattle.load_gen.specs.Iou.{iou_package}
use Rattle.load_gen.specs.Numbers.{participant_at, party_at}
use Rattle.load_gen.specs.declared.topology.TheConstants.{PARTICIPANTS, RESPONSE_TIMEOUT, REACTION_TIMEOUT, SKEW}

-- the names of all packages of a generated script, which each of its participants has vetted
abbrev pub vetted_packages : List (List ℕ)
vetted_packages = codes "Note" ∷ codes "Iou" ∷ []

-- The participant with this index, from 0, which confirms for one party and observes none.
abbrev pub host_at : ℕ → Host
host_at place = record { name = participant_at place; parties = party_at place ∷ []; observing = []; vetted = vetted_packages }

-- the four participants of a generated script
abbrev pub hosts : List Host
hosts = map host_at (range_with_len 0 PARTICIPANTS)

-- the times of a generated script, the defaults of a script that says none: 30 seconds for responses, 30 for verdicts, and 60 of skew
abbrev pub params : Params
params = record { response_timeout = RESPONSE_TIMEOUT; reaction_timeout = REACTION_TIMEOUT; skew = SKEW }

-- the packages of a generated script: Iou, and what is built in
abbrev pub packages : List PackageForm
packages = checked_packages (iou_package ∷ [])
