-- Who is told by the mediator's tree to receive a framed request is a recipient of it.
use Rattle.std.proofs.Common.{◌≡◌, ℕ, Bool, true, List, [], ◌∷◌, Option, Some, None, refl, sym, ap, ◌∙◌, inl, inr}
use Rattle.std.specs.Prelude.{◌||◌, nat_eq, option_and_then, slice_get}
use Rattle.std.specs.List.{list_any}
use Rattle.std.proofs.lemmas.Bool.{cases_Bool}
use Rattle.ledger_terms.specs.Forest.{Forest}
use Rattle.ledger_terms.specs.Hosting.{host_keeps, hosts_at}
use Rattle.ledger_terms.specs.declared.host.Host.{Host}
use Rattle.ledger_terms.specs.declared.topology.Topology.{Topology}
use Rattle.ledger_model.specs.Terms.{Name}
use Rattle.canton_model.specs.Reading.{is_some_path}
use Rattle.canton_model.specs.Reading as reading
use Rattle.canton_model.specs.declared.request.Request.{Request}
use Rattle.lang_eval.specs.Found.{Packages}
use Rattle.blind_tree.specs.Leaves.{Sets}
use Rattle.blind_tree.specs.Opening.{informee_tree_of}
use Rattle.blind_tree.specs.declared.tree.Tree.{Tree}
use Rattle.blind_tree.specs.declared.view_roles.ViewRoles.{ViewRoles}
use Rattle.sealed_form.specs.SealedForm.{found}
use Rattle.framed_form.specs.Framed.{IsFramed, is_framed}
use Rattle.framed_form.specs.FramedForm.{forest_in, outline_in, outline_of, paths_seen}
use Rattle.framed_form.specs.FramedReading.{framed_reading}
use Rattle.framed_form.proofs.Decided.{framed_decides}
use Rattle.framed_form.proofs.Facts.{told}
use Rattle.framed_form.specs.Outlines.{listed_views}
use Rattle.proto_model.proofs.Noticed.{recipient_is}
use Rattle.proto_model.proofs.Seen.{all_seen, seen_after}
use Rattle.report_text.specs.Entries.{is_recipient, views_in, views_told}

-- some view has an informee who is hosted
abbrev sees_any : (hosts : Name → Bool) → List ViewRoles → Bool
sees_any hosts views = list_any (λ (view : ViewRoles). list_any hosts view.informees) views

-- a view is seen exactly where one has an informee who is hosted
seen_any : (hosts : Name → Bool) (views : List ViewRoles) → is_some_path (seen_after hosts None views) ≡ sees_any hosts views
seen_any hosts [] = refl
seen_any hosts (view ∷ views) =
    elim (cases_Bool (list_any hosts view.informees)) [ inl is ↦ rw is refl | inr out ↦ rw out (seen_any hosts views) ]

module _ (topology : Topology) (packages : Packages) (request : Request) (framed : IsFramed topology request) where
  -- the mediator is told of the views of the request
  views_are : views_told request ≡ listed_views (outline_of request)
  views_are =
      let t = told topology request framed in
      ap (λ (tree : Option Tree). views_in (option_and_then (λ (x : Tree). found (informee_tree_of x)) tree)) framed.spells
      ∙ (ap views_in framed.tells
      ∙ (t.views
      ∙ ap (λ (views : Forest Sets). listed_views views) (sym (ap outline_in framed.spells ∙ ap forest_in t.outline_read))))

  module _ (p : ℕ) (host : Host) (there : slice_get topology.hosts p ≡ Some host) where
    seen_is : is_recipient request.sender (views_told request) p host ≡ (nat_eq p request.sender || is_some_path (paths_seen topology p request))
    seen_is =
        ap (λ (b : Bool). nat_eq p request.sender || b)
        (ap (λ (h : Option Host). sees_any (λ party. host_keeps h party) (views_told request)) (sym there)
        ∙ (ap (sees_any (hosts_at topology.hosts p)) views_are
        ∙ (sym (seen_any (hosts_at topology.hosts p) (listed_views (outline_of request)))
        ∙ ap is_some_path (all_seen (hosts_at topology.hosts p) (outline_of request)))))

    recipient_told : is_recipient request.sender (views_told request) p host ≡ reading.is_recipient (framed_reading topology packages) p request
    recipient_told =
        sym (recipient_is topology packages p request (paths_seen topology p request) refl (is_recipient request.sender (views_told request) p host) seen_is)

pub told_to : (topology : Topology) (packages : Packages) (request : Request) (p : ℕ) (host : Host) → is_framed topology request ≡ true
    → slice_get topology.hosts p ≡ Some host
    → is_recipient request.sender (views_told request) p host ≡ reading.is_recipient (framed_reading topology packages) p request
told_to topology packages request p host framed there =
    recipient_told topology packages request ((framed_decides topology request).0 framed) p host there
