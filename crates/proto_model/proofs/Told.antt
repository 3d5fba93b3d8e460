-- What the mediator reads of a request, and what is opened where there is no envelope.
use Rattle.std.proofs.Common.{◌≡◌, ℕ, true, false, List, [], Option, Some, None, Ok, refl, sym, ap, ◌∙◌, subst}
use Rattle.std.specs.Prelude.{option_and_then}
use Rattle.std.proofs.lemmas.Option.{same_Some}
use Rattle.sha2.specs.Sha256.{sha256}
use Rattle.ledger_terms.specs.Forest.{Forest}
use Rattle.ledger_terms.specs.declared.topology.Topology.{Topology}
use Rattle.ledger_model.specs.Opening.{Transaction}
use Rattle.canton_model.specs.declared.request.Request.{Request}
use Rattle.lang_eval.specs.Found.{Packages}
use Rattle.view_split.specs.declared.split_view.SplitView.{SplitView}
use Rattle.blind_tree.specs.Blind.{Salts, is_host_named, tree_to_mediator}
use Rattle.blind_tree.specs.Opening.{informee_tree_of}
use Rattle.blind_tree.specs.Recipients.{is_recipient, recipients_of}
use Rattle.blind_tree.specs.ShownViews.{roles_of_all}
use Rattle.blind_tree.specs.Spelling.{spell_tree}
use Rattle.blind_tree.specs.declared.tree.Tree.{Tree}
use Rattle.blind_tree.proofs.Blinded.{mediator_sees_none}
use Rattle.blind_tree.proofs.OpensLaws.{tree_tells}
use Rattle.framed_form.specs.FramedForm.{complete_in, offered_in, opened_to}
use Rattle.sealed_form.specs.SealedForm.{CanBeSealed, Whole, envelope_to, found, request_of, split_as, tree_for, tree_in, views_by}
use Rattle.sealed_form.proofs.Recipients.{are_reached, first_to}
use Rattle.sealed_form.proofs.Trees.{mediators_is_tree, tree_again}
use Rattle.proto_model.specs.RequestedViews.{ShowsNoContents, requested_views}

-- ---- no envelope

pub none_opened : (topology : Topology) (request : Request) (p : ℕ) → envelope_to p request.envelopes ≡ None → opened_to topology p request ≡ None
none_opened topology request p none = ap (λ (bytes : Option (List ℕ)). complete_in (offered_in topology p request bytes)) none

module _ (topology : Topology) (packages : Packages) (sender : ℕ) (name command : List ℕ) (salts : Salts) (t : Transaction)
    (sends : is_host_named topology.hosts sender name ≡ true) where
  pub none_made : (p : ℕ) → is_recipient topology.hosts (views_by packages t) sender p ≡ false
      → envelope_to p (request_of topology packages sender name command salts t).envelopes ≡ None
  none_made p unseen =
      first_to (λ (q : ℕ). spell_tree (tree_for topology packages sender name salts t q)) p (recipients_of topology.hosts (views_by packages t) sender)
      ∙ (rw (are_reached topology.hosts (views_by packages t) sender name sends p, unseen) refl)

-- ---- the mediator

module _ (topology : Topology) (packages : Packages) (sender : ℕ) (command : List ℕ) (whole : Whole) (can : CanBeSealed topology packages sender whole) where
  abbrev t : Transaction
  t = whole.transaction

  abbrev views : Forest SplitView
  views = views_by packages t

  abbrev tree : Tree
  tree = tree_to_mediator sha256 whole.salts whole.sender t views

  abbrev request : Request
  request = request_of topology packages sender whole.sender command whole.salts t

  again : tree_in request.mediator ≡ Some tree
  again = tree_again tree (mediators_is_tree topology packages sender whole can)

  tells : informee_tree_of tree ≡ Ok (record { sender = whole.sender; views = roles_of_all [] 0 views })
  tells = tree_tells sha256 (split_as t views) whole.sender can.in_range

  pub roles_are_told : requested_views request ≡ Some (record { sender = whole.sender; views = roles_of_all [] 0 views })
  roles_are_told = ap (option_and_then (λ (tree : Tree). found (informee_tree_of tree))) again ∙ ap found tells

  pub no_contents : (read : Tree) → tree_in request.mediator ≡ Some read → ShowsNoContents read
  no_contents read is =
      subst ShowsNoContents (same_Some tree read (sym again ∙ is))
      (record { requesters_hidden = refl; no_contents = mediator_sees_none sha256 [] 0 views })
