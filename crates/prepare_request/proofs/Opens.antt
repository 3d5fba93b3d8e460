-- Sealed requests that are framed open by the rules.
use Rattle.std.proofs.Common.{◌≡◌, Bool, true, List, sym, ap, ◌∙◌}
use Rattle.std.specs.Prelude.{◌||◌, nat_eq}
use Rattle.ledger_terms.specs.Hosting.{hosts_at}
use Rattle.ledger_terms.specs.declared.topology.Topology.{Topology}
use Rattle.ledger_model.specs.Opening.{Shown, Transaction, roots_in}
use Rattle.ledger_model.specs.Terms.{ParticipantId, Path}
use Rattle.ledger_model.proofs.Openings.{opens_projection}
use Rattle.canton_model.specs.Reading.{Open, Reading, is_recipient, is_some_path}
use Rattle.canton_model.specs.declared.request.Request.{Request}
use Rattle.lang_eval.specs.Found.{Packages}
use Rattle.interpret.specs.Language.{the_language}
use Rattle.view_split.specs.Placed.{shown_by}
use Rattle.blind_tree.specs.Recipients as trees
use Rattle.blind_tree.proofs.Sights.{some_paths}
use Rattle.sealed_form.specs.SealedForm.{IsSealedForm, roles_by, views_by}
use Rattle.framed_form.specs.Framed.{is_framed}
use Rattle.framed_form.specs.FramedReading.{framed_reading, offer_of}
use Rattle.framed_form.proofs.Decided.{framed_decides}
use Rattle.framed_form.proofs.Places.{seen_are}
use Rattle.framed_form.proofs.SealedOpens.{complete, opened_of, shown_by_rules, told}
use Rattle.framed_form.proofs.SealedWhole.{read_back}
use Rattle.prepare_request.specs.Opens.{OpensByRules}

module _ (topology : Topology) (packages : Packages) (request : Request) (sealed : IsSealedForm topology packages request) where
  abbrev reading : Reading
  reading = framed_reading topology packages

  abbrev t : Transaction
  t = (sealed.whole).transaction

  -- who gets an envelope by the views of the transaction is who is a recipient by the mediator's tree
  gets : (p : ParticipantId) → is_recipient reading p request ≡ trees.is_recipient topology.hosts (views_by packages (sealed.whole).transaction) request.sender p
  gets p =
      ap (λ (paths : List Path). nat_eq p request.sender || is_some_path paths) (seen_are reading request t (told topology packages request sealed) p)
      ∙ ap (λ (b : Bool). nat_eq p request.sender || b) (some_paths (roles_by packages) (hosts_at topology.hosts p) t.roots)

  complete_for : (p : ParticipantId) → is_recipient reading p request ≡ true → (shown : Shown) × (reading.offered p request ≡ Open shown)
  complete_for p is_to =
      (shown_by (opened_of topology packages request sealed p), ap offer_of (complete topology packages request sealed p (sym (gets p) ∙ is_to)))

  pub opens_by_rules : is_framed topology request ≡ true → OpensByRules topology packages request
  opens_by_rules framed =
      record {
        sealed = sealed;
        whole = read_back topology packages request sealed ((framed_decides topology request).0 framed);
        complete = complete_for;
        shown = shown_by_rules topology packages request sealed;
        opened = λ p.
            ap roots_in (shown_by_rules topology packages request sealed p)
            ∙ opens_projection (the_language packages) (hosts_at topology.hosts p) (nat_eq p request.sender) (sealed.whole).sender t;
      }
