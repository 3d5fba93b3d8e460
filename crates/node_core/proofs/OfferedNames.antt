-- What a participant offers over its inbox of a genuine log names only parties of the topology.
use Rattle.std.proofs.Common.{List, length}
use Rattle.ledger_terms.specs.declared.topology.Topology.{Topology}
use Rattle.ledger_model.specs.Terms.{ParticipantId}
use Rattle.canton_model.specs.Genuine.{Genuine}
use Rattle.canton_model.specs.Inbox.{inbox}
use Rattle.canton_model.specs.declared.entry.Entry.{Entry}
use Rattle.lang_eval.specs.Found.{Packages}
use Rattle.lang_eval.specs.Named.{AreKnown}
use Rattle.interpret.specs.NamedParties.{parties_in_contracts}
use Rattle.framed_form.specs.FramedReading.{framed_reading}
use Rattle.sealed_form.specs.Within.{is_hosted}
use Rattle.prepare_request.proofs.Offers.{offers_name_parties}
use Rattle.node_core.specs.Preparing.{offered}

pub offers_named : (topology : Topology) (packages : Packages) (log : List Entry) (p : ParticipantId)
    → Genuine (framed_reading topology packages) topology.params log
    → AreKnown (is_hosted topology) (parties_in_contracts (offered (framed_reading topology packages) p (inbox (framed_reading topology packages) p log)))
offers_named topology packages log p genuine =
    offers_name_parties topology packages log genuine p (length (inbox (framed_reading topology packages) p log))
