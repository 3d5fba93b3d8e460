-- How the definitions of the ledger model read requests, whoever sent them.
use Rattle.std.specs.Prelude.{Bool, option_map, slice_get}
use Rattle.ledger_terms.specs.Hosting.{confirms_at, hosts_at}
use Rattle.ledger_terms.specs.Vetting.{vets}
use Rattle.ledger_terms.specs.declared.act.Act.{Act}
use Rattle.ledger_terms.specs.Forest.{Forest}
use Rattle.ledger_terms.specs.declared.topology.Topology.{Topology}
use Rattle.ledger_model.specs.Language.{Language}
use Rattle.canton_model.specs.Reading.{Offer, Outlined, Reading}
use Rattle.canton_model.specs.Reading as reading
use Rattle.lang_eval.specs.Found.{Packages}
use Rattle.interpret.specs.Conforming.{conforms}
use Rattle.interpret.specs.Ids.{is_authentic}
use Rattle.interpret.specs.Language.{the_language}
use Rattle.view_split.specs.Numbered.{map_forest}
use Rattle.view_split.specs.Placed.{shown_by}
use Rattle.blind_tree.specs.Blind.{is_host_named}
use Rattle.blind_tree.specs.Leaves.{Sets}
use Rattle.blind_tree.specs.declared.shown_for.OpenedFor.{OpenedFor}
use Rattle.blind_tree.specs.declared.shown_for.OpenedFor.TheVariants.{Mismatch, Missing, Open}
use Rattle.framed_form.specs.Framed.{is_framed}
use Rattle.framed_form.specs.FramedForm.{offered, outline_of, transaction_of, whole_of}

-- what the mediator's tree states of a view
abbrev pub stated : Sets → Outlined
stated sets = record { informees = sets.0; confirmers = sets.1 }

-- what an envelope offers, as the protocol's definitions have it
abbrev pub offer_of : OpenedFor → Offer
offer_of Mismatch = reading.Mismatch
offer_of Missing = reading.Missing
offer_of (Open opened) = reading.Open (shown_by opened)

-- The reading of a synchroniser with this topology, over a contract language, a test of what conforms to it and one of which ids are authentic.
abbrev pub framed_reading_over : Topology → Language → (conforms : Forest Act → Bool) → (is_authentic : Act → Bool) → Reading
framed_reading_over topology language conforms is_authentic =
    record {
      outline = λ request. map_forest stated (outline_of request);
      offered = λ p request. offer_of (offered topology p request);
      whole = λ request. option_map transaction_of (whole_of topology request);
      is_framed = λ request. is_framed topology request;
      is_authentic = is_authentic;
      language = language;
      conforms = conforms;
      is_named = λ p name. is_host_named topology.hosts p name;
      hosts = hosts_at topology.hosts;
      confirms = confirms_at topology.hosts;
      has_vetted = λ p name. vets (slice_get topology.hosts p) name;
    }

-- the reading of a synchroniser with this topology and these packages
abbrev pub framed_reading : Topology → Packages → Reading
framed_reading topology packages = framed_reading_over topology (the_language packages) (conforms packages) is_authentic
