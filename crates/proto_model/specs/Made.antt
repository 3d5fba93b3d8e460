-- A request as it is made of views, from the participants of the topology.
use Rattle.std.specs.Prelude.{ℕ, Bool, All, List, map, filter}
use Rattle.std.specs.List.{list_any}
use Rattle.sha2.specs.Sha256.{sha256}
use Rattle.ledger_terms.specs.Forest.{Forest, preorder}
use Rattle.ledger_terms.specs.Hosting.{confirms_at}
use Rattle.ledger_terms.specs.declared.host.Host.{Host}
use Rattle.ledger_terms.specs.declared.topology.Topology.{Topology}
use Rattle.ledger_terms.specs.declared.tx.Tx.{Tx}
use Rattle.canton_model.specs.declared.envelope.Envelope.{Envelope}
use Rattle.canton_model.specs.declared.request.Request.{Request}
use Rattle.lang_eval.specs.Found.{Packages}
use Rattle.view_split.specs.declared.split_view.SplitView.{SplitView}
use Rattle.view_split.specs.declared.views.Views.{Views}
use Rattle.blind_tree.specs.Blind.{blind_for, salts_of}
use Rattle.blind_tree.specs.Kept.{cut_tree}
use Rattle.blind_tree.specs.Recipients.{is_recipient}
use Rattle.blind_tree.specs.Spelling.{spell_tree}
use Rattle.blind_tree.specs.declared.kept_tree.KeptTree.{KeptTree}
use Rattle.blind_tree.specs.declared.recipient.Recipient.TheVariants.{Mediator, Participant}
use Rattle.framed_form.specs.Framed.{AreBytes}
use Rattle.sealed_form.specs.SealedForm.{confirming_by, request_of}
use Rattle.sealed_form.specs.Submission.{whole_with_seed}

-- the request that the sender makes of a transaction: its index, its name, the command's name and the transaction, whose seed gives the salts of the
-- leaves
abbrev pub request_of_tx : Topology → Packages → (sender : ℕ) (name command : List ℕ) → Tx → Request
request_of_tx topology packages sender name command tx =
    request_of topology packages sender name command (salts_of sha256 tx.seed) (whole_with_seed name tx).transaction

-- ---- in the order in which it is made

-- whether a participant confirms one of these views: `confirms` tells for which parties it confirms
abbrev pub confirms_any_view : (confirms : List ℕ → Bool) → Forest SplitView → Bool
confirms_any_view confirms views = list_any (λ (view : SplitView). list_any confirms view.confirmers) (preorder views)

-- The envelope to participant p, cut from the request's tree in which every hash is kept (first argument); the name is the sender's. For a tree of the
-- same views it is the envelope of `envelope_by`, and the code that makes it so hashes nothing again.
abbrev pub envelope_cut : KeptTree → (name : List ℕ) → List Host → ℕ → Envelope
envelope_cut kept name hosts p = record { to = p; bytes = spell_tree (cut_tree kept name hosts (Participant p)) }

-- the envelope to participant p: the tree of the views as it is blinded for p; the name is the sender's
abbrev pub envelope_by : List Host → (name : List ℕ) → Views → ℕ → Envelope
envelope_by hosts name views p = record { to = p; bytes = spell_tree (blind_for sha256 views name hosts (Participant p)) }

-- The request of these views, in the order in which it is made. `participants` are all who may be asked or get an envelope, and the name is the
-- sender's.
abbrev pub request_by : Topology → (participants : List ℕ) (sender : ℕ) (name command : List ℕ) → Views → Request
request_by topology participants sender name command views =
    record {
      sender = sender;
      command = command;
      confirming = confirming_by (confirms_at topology.hosts) participants views.roots;
      mediator = spell_tree (blind_for sha256 views name topology.hosts Mediator);
      envelopes = map (envelope_by topology.hosts name views) (filter (is_recipient topology.hosts views.roots sender) participants);
    }

-- ---- what is sent

-- the numbers of an envelope are bytes, each below 256
abbrev pub HasBytes : Envelope → Type 0
HasBytes envelope = AreBytes envelope.bytes

-- All that is sent of a request, to the mediator and to the recipients, are bytes, each below 256.
pub record SendsBytes (request : Request) : Type 0 where
  pub mediator : AreBytes request.mediator
  pub envelopes : All HasBytes request.envelopes
