-- What holds of the reading of framed requests.
use Rattle.std.proofs.Common.{List}
use Rattle.ledger_terms.specs.declared.topology.Topology.{Topology}
use Rattle.canton_model.specs.Genuine.{Genuine, IsReading}
use Rattle.canton_model.specs.declared.entry.Entry.{Entry}
use Rattle.canton_model.proofs.Fits.{is_framed_at}
use Rattle.lang_eval.specs.Found.{Packages}
use Rattle.interpret.specs.Conforming.{conforms}
use Rattle.interpret.specs.Ids.{is_authentic}
use Rattle.interpret.specs.Language.{the_language}
use Rattle.sealed_form.proofs.Hosts.{confirmer_hosts}
use Rattle.framed_form.specs.Collisions.{AreFramed}
use Rattle.framed_form.specs.FramedReading.{framed_reading}
use Rattle.framed_form.proofs.Conforming.{decides}
use Rattle.framed_form.proofs.Decided.{framed_decides}
use Rattle.framed_form.proofs.FramedFacts.{framed_facts}

pub lawful : (topology : Topology) (packages : Packages) → IsReading (framed_reading topology packages)
lawful topology packages =
    record {
      confirms_hosted = λ p name h. confirmer_hosts topology.hosts p name h;
      conforms_is = λ roots. decides packages roots;
      framed_facts = λ request passes.
          framed_facts topology (the_language packages) (conforms packages) is_authentic request ((framed_decides topology request).0 passes);
    }

-- the requests of a genuine log are framed
pub are_framed : (topology : Topology) (packages : Packages) (log : List Entry) → Genuine (framed_reading topology packages) topology.params log
    → AreFramed topology log
are_framed topology packages log genuine k request there =
    (framed_decides topology request).0 (is_framed_at (framed_reading topology packages) topology.params log genuine k request there)
