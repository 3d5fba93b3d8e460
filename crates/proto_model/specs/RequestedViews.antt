-- What the mediator reads of a request.
use Rattle.std.specs.Prelude.{◌≡◌, false, [], Option, option_and_then}
use Rattle.canton_model.specs.declared.request.Request.{Request}
use Rattle.blind_tree.specs.Opening.{informee_tree_of}
use Rattle.blind_tree.specs.ShownViews.{contents_shown, is_plain}
use Rattle.blind_tree.specs.declared.roles_tree.RolesTree.{RolesTree}
use Rattle.blind_tree.specs.declared.tree.Tree.{Tree}
use Rattle.sealed_form.specs.SealedForm.{found, tree_in}

-- the sender's name and the views with their informees and confirmers, by the mediator's bytes alone; None where these can't be read
abbrev pub requested_views : Request → Option RolesTree
requested_views request = option_and_then (λ (tree : Tree). found (informee_tree_of tree)) (tree_in request.mediator)

-- A tree, which is the mediator's, doesn't tell the requesters and shows the contents of no view.
pub record ShowsNoContents (tree : Tree) : Type 0 where
  pub requesters_hidden : is_plain tree.requesters ≡ false
  pub no_contents : contents_shown [] 0 tree.views ≡ []
