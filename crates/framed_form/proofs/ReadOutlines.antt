-- What the mediator's bytes tell, and that those of a framed request tell something.
use Rattle.std.proofs.Common.{◌≡◌, length, false, Some, None, Result, Err, sym, ap, ◌∙◌}
use Rattle.std.specs.Prelude.{◌&&◌, not, nat_lt}
use Rattle.std.proofs.lemmas.Bool.{and_right}
use Rattle.sha2.specs.Sha256.{sha256}
use Rattle.ledger_terms.specs.Forest.{Forest}
use Rattle.ledger_terms.specs.declared.topology.Topology.{Topology}
use Rattle.canton_model.specs.declared.request.Request.{Request}
use Rattle.wire_form.specs.declared.wire_fault.WireFault.{WireFault}
use Rattle.blind_tree.specs.InRange.{IsTree}
use Rattle.blind_tree.specs.Leaves.{Sets}
use Rattle.blind_tree.specs.Opening.{informee_tree_of}
use Rattle.blind_tree.specs.ShownViews.{is_plain}
use Rattle.blind_tree.specs.TreeHashes.{hash_of_root}
use Rattle.blind_tree.specs.Vertices.{IsNarrow}
use Rattle.blind_tree.specs.declared.roles_tree.RolesTree.{RolesTree}
use Rattle.blind_tree.specs.declared.tree.Tree.{Tree}
use Rattle.blind_tree.proofs.Fitting.{narrow_tree}
use Rattle.blind_tree.proofs.TreeLaws.{spellable_tree}
use Rattle.sealed_form.specs.SealedForm.{found, tree_in}
use Rattle.framed_form.specs.Framed.{are_envelopes_framed, are_views_framed, hides_contents, is_framed, is_short, is_tree_framed}
use Rattle.framed_form.specs.FramedForm.{forest_in, outline_in, root_in}
use Rattle.framed_form.proofs.Outlined.{outlined}
use Rattle.framed_form.specs.Outlines.{IsOutline, IsTold, listed_views}
use Rattle.framed_form.specs.declared.outline.Outline.{Outline}
use Rattle.framed_form.specs.declared.told_tree.ToldTree.{ToldTree}

pub narrow_of : (tree : Tree) → IsTree tree → IsNarrow tree.views
narrow_of tree is = narrow_tree tree (spellable_tree tree is)

module _ (request : Request) where
  -- what a tree that can be read tells
  pub outline_is : (told : ToldTree) (outline : Outline) → IsTold request told → outline.root ≡ hash_of_root sha256 told.tree
      → outline.views ≡ told.roles.views → IsOutline request outline
  outline_is told outline is root views =
      let o = outlined told.tree told.roles is.tells in
      record {
        root = root ∙ sym (ap root_in is.spells);
        views =
            views
            ∙ (o.views
            ∙ ap (λ (f : Forest Sets). listed_views f)
            (sym (ap outline_in is.spells ∙ ap (λ (r : Result (Forest Sets) WireFault). forest_in r) o.outline_read)));
      }

  module _ (topology : Topology) where
    not_framed : is_tree_framed topology request.confirming (tree_in request.mediator) ≡ false → is_framed topology request ≡ false
    unfolding is_framed
    not_framed e =
        let told = is_tree_framed topology request.confirming (tree_in request.mediator) in
        let sent = are_envelopes_framed 0 (length topology.hosts) request.envelopes in
        and_right (nat_lt request.sender (length topology.hosts)) (is_short request.mediator && (sent && told))
        (and_right (is_short request.mediator) (sent && told) (and_right sent told e))

    -- a request whose mediator's bytes can't be read isn't framed
    pub unread : tree_in request.mediator ≡ None → is_framed topology request ≡ false
    unread none = not_framed (ap (is_tree_framed topology request.confirming) none)

    pub untold : (tree : Tree) (fault : WireFault) → tree_in request.mediator ≡ Some tree → informee_tree_of tree ≡ Err fault → is_framed topology request ≡ false
    untold tree fault is tells =
        not_framed (ap (is_tree_framed topology request.confirming) is
        ∙ and_right (not (is_plain tree.requesters)) (hides_contents tree.views && are_views_framed topology request.confirming (found (informee_tree_of tree)))
        (and_right (hides_contents tree.views) (are_views_framed topology request.confirming (found (informee_tree_of tree)))
        (ap (λ (r : Result RolesTree WireFault). are_views_framed topology request.confirming (found r)) tells)))
