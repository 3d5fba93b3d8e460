-- Which packages participants have vetted.
use Rattle.std.specs.Prelude.{Bool, false, List, ℕ, Option, Some, None}
use Rattle.ledger_terms.specs.Parties.{has_party}
use Rattle.ledger_terms.specs.declared.host.Host.{Host}

-- whether a host, where there is one, has vetted the package of this name; false of None
abbrev pub vets : Option Host → List ℕ → Bool
vets None name = false
vets (Some host) name = has_party host.vetted name
