-- What a participant goes by where it checks views.
use Rattle.std.specs.Prelude.{Bool, false, List, Option, Some, None, ℕ, slice_get}
use Rattle.ledger_terms.specs.Forest.{NoRoots}
use Rattle.ledger_terms.specs.Hosting.{confirms_at, hosts_at}
use Rattle.ledger_terms.specs.Parties.{same_name}
use Rattle.ledger_terms.specs.Vetting.{vets}
use Rattle.ledger_terms.specs.declared.host.Host.{Host}
use Rattle.ledger_terms.specs.declared.topology.Topology.{Topology}
use Rattle.canton_model.specs.Reading.{Reading, Missing}
use Rattle.lang_eval.specs.Found.{Packages}
use Rattle.interpret.specs.Ids.{is_authentic}
use Rattle.interpret.specs.Language.{the_language}
use Rattle.interpret.specs.Conforming.{conforms}

-- whether a host, where there is one, has this name; false of None
abbrev pub has_name : Option Host → List ℕ → Bool
has_name None name = false
has_name (Some host) name = same_name host.name name

-- whether the participant at an index (second argument) has this name; false where none stands there
abbrev pub is_named_at : List Host → ℕ → List ℕ → Bool
is_named_at hosts p name = has_name (slice_get hosts p) name

-- The part of a reading on which verdicts on views hang: whom participants host, their names, what they have vetted, and what the
-- packages say. What requests show is no part of it.
abbrev pub local_reading : Topology → Packages → Reading
local_reading topology packages =
    record {
      outline = λ request. NoRoots;
      offered = λ p request. Missing;
      whole = λ request. None;
      is_framed = λ request. false;
      is_authentic = is_authentic;
      language = the_language packages;
      conforms = conforms packages;
      is_named = is_named_at topology.hosts;
      hosts = hosts_at topology.hosts;
      confirms = confirms_at topology.hosts;
      has_vetted = λ p name. vets (slice_get topology.hosts p) name;
    }
