-- What a request opens whose sender keeps the rules.
use Rattle.std.specs.Prelude.{◌≡◌, true, Some, nat_eq}
use Rattle.ledger_terms.specs.Hosting.{hosts_at}
use Rattle.ledger_terms.specs.declared.topology.Topology.{Topology}
use Rattle.ledger_model.specs.Forest.{project}
use Rattle.ledger_model.specs.Opening.{Shown, roots_in, shown_of}
use Rattle.ledger_model.specs.Terms.{ParticipantId}
use Rattle.canton_model.specs.Inbox.{is_informed}
use Rattle.canton_model.specs.Reading.{Open, is_recipient, shown_to}
use Rattle.canton_model.specs.declared.request.Request.{Request}
use Rattle.lang_eval.specs.Found.{Packages}
use Rattle.interpret.specs.Language.{the_language}
use Rattle.sealed_form.specs.SealedForm.{IsSealedForm}
use Rattle.framed_form.specs.FramedReading.{framed_reading}

-- A request opens what the rules ask for: it is the sealed form of a transaction, as which its envelopes are read back, each recipient's envelope is
-- complete, and to each participant they open the views of which it hosts an informee, with all below them, and nothing else.
pub record OpensByRules (topology : Topology) (packages : Packages) (request : Request) : Type 0 where
  pub sealed : IsSealedForm topology packages request
  pub whole : (framed_reading topology packages).whole request ≡ Some (sealed.whole).transaction
  pub complete : (p : ParticipantId) → is_recipient (framed_reading topology packages) p request ≡ true
      → (shown : Shown) × ((framed_reading topology packages).offered p request ≡ Open shown)
  pub shown : (p : ParticipantId) → shown_to (framed_reading topology packages) p request
      ≡ shown_of (the_language packages) (hosts_at topology.hosts p) (nat_eq p request.sender) (sealed.whole).sender (sealed.whole).transaction
  -- so what is opened is the projection to the parties that it hosts
  pub opened : (p : ParticipantId) → roots_in (shown_to (framed_reading topology packages) p request)
      ≡ project (is_informed (framed_reading topology packages) p) ((sealed.whole).transaction).roots
