-- What stands at a number, and what it shows.
use Rattle.std.proofs.Common.{◌≡◌, ℕ, false, List, [], ◌∷◌, length, take, Option, Some, None, refl, sym, ap, ◌∙◌}
use Rattle.std.specs.Prelude.{◌&&◌, option_map, slice_get}
use Rattle.std.specs.Borrow.{Bor}
use Rattle.std.proofs.lemmas.List.{length-map}
use Rattle.std.proofs.lemmas.Option.{slice_get-map}
use Rattle.ledger_terms.specs.declared.act.Act.{Act}
use Rattle.ledger_terms.specs.Trees.{ActionNode, Actions}
use Rattle.ledger_terms.specs.Forest.{size}
use Rattle.ledger_model.specs.Forest.{trees_of}
use Rattle.canton_model.specs.declared.reason.Reason.{Reason}
use Rattle.confirm_reply.specs.Fit.{IsCheckableAt, matter_of}
use Rattle.confirm_reply.specs.Nodes.{acts_of, trees_in}
use Rattle.confirm_reply.specs.Opened.{IsCheckable}
use Rattle.confirm_reply.specs.Tried.{acts_in, is_first, shows, shows_at, tree_shows}
use Rattle.confirm_reply.specs.declared.trial.Trial.{Trial}
use Rattle.lang_eval.specs.Found.{Packages}
use Rattle.confirm_reply.proofs.Placed.{trees_counted}

abbrev tree_in : Bor ActionNode → Act × Actions
tree_in node = (node.now.root, node.now.below)

tree_at : (nodes : List (Bor ActionNode)) (n : ℕ) (found : Option (Bor ActionNode)) → found ≡ slice_get nodes n → slice_get (trees_in nodes) n ≡ option_map tree_in found
tree_at nodes n found at = slice_get-map tree_in nodes n ∙ ap (option_map tree_in) (sym at)

pub acts_are : (nodes : List (Bor ActionNode)) → acts_in (trees_in nodes) ≡ acts_of nodes
acts_are [] = refl
acts_are (node ∷ nodes) = ap (λ (acts : List Act). node.now.root ∷ acts) (acts_are nodes)

pub node_checkable : (packages : Packages) (nodes : List (Bor ActionNode)) (n : ℕ) (node : Bor ActionNode) → Some node ≡ slice_get nodes n → IsCheckableAt packages (trees_in nodes) n
    → IsCheckable packages node.now.root node.now.below
node_checkable packages nodes n node at checkable = checkable (tree_in node) (tree_at nodes n (Some node) at)

module _ {N : Type 0} {T : N → Type 0} (trial : Trial N T) (reason : Reason) (n : ℕ) where
  pub node_shows : (node : Bor ActionNode) → Some node ≡ slice_get trial.nodes.now n → trial.earlier.now ≡ acts_of trial.nodes.now
      → shows trial.input.now reason node.now.root node.now.below (take n trial.earlier.now) (trial.is_root && is_first trial.core.now n)
      ≡ shows_at trial.input.now (matter_of trial) reason n
  node_shows node at earlier =
      (λ i. shows trial.input.now reason node.now.root node.now.below (take n ((earlier ∙ sym (acts_are trial.nodes.now)) i)) (trial.is_root && is_first trial.core.now n))
      ∙ ap (tree_shows trial.input.now (matter_of trial) reason n) (sym (tree_at trial.nodes.now n (Some node) at))

  pub none_shows : None ≡ slice_get trial.nodes.now n → false ≡ shows_at trial.input.now (matter_of trial) reason n
  none_shows at = ap (tree_shows trial.input.now (matter_of trial) reason n) (sym (tree_at trial.nodes.now n None at))

-- as many nodes as stand in the trees
pub nodes_counted : (nodes : List (Bor ActionNode)) (roots : Actions) → trees_in nodes ≡ trees_of roots → length nodes ≡ size roots
nodes_counted nodes roots gathered = sym (length-map nodes tree_in) ∙ (ap (λ (trees : List (Act × Actions)). length trees) gathered ∙ trees_counted roots)
