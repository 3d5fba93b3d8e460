-- Whether a participant hosts a stakeholder of a contract.
use Rattle.std.specs.Prelude.{◌≡◌, Bool, true, false, not, ◌&&◌, List, [], ◌∷◌, Option, Some, None}
use Rattle.ledger_terms.specs.contracts.instance.InstancePartialEq.TheImpl as instance_eq
use Rattle.ledger_terms.specs.declared.active_row.ActiveRow.{ActiveRow}
use Rattle.ledger_terms.specs.declared.known.Known.{Known}
use Rattle.ledger_terms.specs.declared.topology.Topology.{Topology}
use Rattle.ledger_model.specs.Terms.{ParticipantId}
use Rattle.canton_model.specs.Inbox.{is_stakeholder_hosted}
use Rattle.canton_model.specs.Reading.{Reading}
use Rattle.lang_eval.specs.Found.{Packages}
use Rattle.pruned_inbox.specs.Start.{Start, is_gone}
use Rattle.framed_form.specs.FramedReading.{framed_reading}

-- What contracts see of a `Hosting`: the participants, the packages, which participant it is, and what its inbox left at its base. It is another
-- thing than a host of the topology.
pub record Host : Type 0 where
  pub topology : Topology
  pub packages : Packages
  pub me : ParticipantId
  pub start : Start

-- The `Host` of participant `me` with this topology, these packages and what its inbox left at its base.
abbrev pub host_of : Topology → Packages → ParticipantId → Start → Host
host_of topology packages me start = record { topology = topology; packages = packages; me = me; start = start }

-- How requests are read with the participants and the packages of a host.
abbrev pub reading_by : Host → Reading
reading_by host = framed_reading host.topology host.packages

-- Whether the participant offers the contract of a row to its submissions: the contract isn't gone, and the participant hosts a stakeholder of it.
abbrev pub offers : Host → ActiveRow → Bool
offers host row = not (is_gone host.start row.known.id) && is_stakeholder_hosted (reading_by host) host.me row.known.instance

-- Participant p hosts a stakeholder of each of these contracts.
abbrev pub AreHosted : Reading → ParticipantId → List Known → Type 0
AreHosted reading p [] = Unit {0}
AreHosted reading p (known ∷ rest) = (is_stakeholder_hosted reading p known.instance ≡ true) × AreHosted reading p rest

-- Whether a contract was found and has the same instance as the given one. Where none was found (None) it is false. Of a contract of which the found
-- one says the same, `Hosting` needn't work out whether a stakeholder is hosted.
abbrev pub says_same : Option Known → Known → Bool
says_same None known = false
says_same (Some found) known = instance_eq.ghosts.eq found.instance known.instance
