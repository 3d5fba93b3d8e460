-- What comes of an entry before it is read.
use Rattle.std.specs.Prelude.{◌≡◌, Bool, true, false, List, Option, Some, None, if◌then◌else◌, is_some, map}
use Rattle.ledger_terms.specs.declared.topology.Topology.{Topology}
use Rattle.ledger_model.specs.Forest.{acts}
use Rattle.ledger_model.specs.Terms.{ParticipantId}
use Rattle.canton_model.specs.declared.request.Request.{Request}
use Rattle.canton_model.specs.declared.verdict.Verdict.{Verdict}
use Rattle.canton_model.specs.declared.outcome.Outcome.{Outcome as Kind}
use Rattle.canton_model.specs.declared.outcome.Outcome.TheVariants as kind
use Rattle.canton_model.specs.Inbox.{Item, moments, notice_at}
use Rattle.canton_model.specs.Timeline.{Decided, kind_of, verdict_on}
use Rattle.canton_model.specs.Reading.{Reading}
use Rattle.lang_eval.specs.Found.{Packages}
use Rattle.confirm_reply.specs.declared.id_facts.IdFacts.{IdFacts}
use Rattle.inbox_registry.specs.ChangeLists.{changes_of, id_in}
use Rattle.inbox_registry.specs.Changes.{acts_of_verdict}
use Rattle.inbox_registry.specs.declared.change.Change.{Change}
use Rattle.sealed_form.specs.SealedForm.{envelope_to}
use Rattle.proto_model.specs.declared.notice.Notice.{Notice}
use Rattle.node_inbox.specs.Acts.{blank_fact}
use Rattle.node_inbox.specs.Kept.{Came}
use Rattle.node_inbox.specs.Offers.{as_offered, opened_changes, roots_offered}
use Rattle.node_inbox.specs.declared.coming.ComingRequest.{ComingRequest}
use Rattle.node_inbox.specs.declared.kept_item.KeptRequest.{KeptRequest}
use Rattle.node_inbox.specs.declared.kept_offer.KeptOffer.{KeptOffer}
use Rattle.node_inbox.specs.declared.telling.ComingVerdict.{ComingVerdict}

-- What is made of a kept offer before its request is read. The facts are on the contracts of the opened actions, and blank, since nothing is known
-- yet. The changes are those of the authentic ones among these actions.
pub record AreParts (offer : KeptOffer) (facts : List IdFacts) (changes : List Change) : Type 0 where
  pub facts_are : facts ≡ map blank_fact (acts (roots_offered offer))
  pub changes_are : changes ≡ opened_changes offer

-- What participant `me` keeps of a request: sender and command of the request, the envelope in it that is addressed to `me`, and of the notice that was
-- read of it the hash of the mediator's tree, the paths of the views seen and of those confirmed, and what the envelope offers.
pub record IsKeptOf (me : ParticipantId) (request : Request) (notice : Notice) (kept : KeptRequest) : Type 0 where
  pub sender : kept.sender ≡ request.sender
  pub command : kept.command ≡ request.command
  pub root : kept.root ≡ notice.root
  pub seen : kept.seen ≡ notice.seen
  pub confirmed : kept.confirmed ≡ notice.confirmed
  pub envelope : kept.envelope ≡ envelope_to me request.envelopes
  pub offer : as_offered kept.offer ≡ notice.offered

-- What is kept of a request of which the participant is a recipient, before it is put into the inbox: its facts are still blank, and beside it are
-- the ids of the contracts of its changes, which it will hold.
pub record IsComing (topology : Topology) (packages : Packages) (me : ParticipantId) (coming : ComingRequest) : Type 0 where
  pub came : Came topology packages me coming.kept
  pub parts : AreParts (coming.kept).offer (coming.kept).facts ((coming.kept).changes).items
  pub ids : coming.ids ≡ map id_in ((coming.kept).changes).items

-- The outcome that a verdict gives its request, and None where a verdict on that request stands among the items already.
abbrev pub first_outcome : List Item → Verdict → Option Kind
first_outcome items verdict = if is_some (verdict_on verdict.request (moments items)) then None else Some (kind_of (Decided verdict.decision))

-- Whether a verdict gave this outcome, so that a verdict that comes now isn't the first on its request. It is false of None, where no request was
-- received, and of the outcomes Undecided and Expired.
abbrev pub is_told : Option Kind → Bool
is_told None = false
is_told (Some kind.Undecided) = false
is_told (Some kind.Approved) = true
is_told (Some kind.Rejected) = true
is_told (Some kind.TimedOut) = true
is_told (Some kind.Expired) = false

-- What comes of a verdict on a request that was received, before it is put into the inbox: the outcome that it gives, where it is the first on its
-- request, and the changes that it makes. Only a first verdict that approves makes any.
pub record IsTelling (reading : Reading) (items : List Item) (verdict : Verdict) (coming : ComingVerdict) : Type 0 where
  pub received : is_some (notice_at items verdict.request) ≡ true
  pub verdict_is : coming.verdict ≡ verdict
  pub first_is : coming.first ≡ first_outcome items verdict
  pub changes_are : coming.changes.items ≡ changes_of (acts_of_verdict reading items verdict)
