-- Authority over lists of nodes and over trees.
use Rattle.std.proofs.Common.{◌≡◌, ℕ, zero, suc, ◌+◌, ◌<◌, ◌≤◌, Bool, true, false, List, [], ◌∷◌, ◌++◌, length, get_or, drop, refl, arith, All}
use Rattle.std.specs.Prelude.{◌&&◌}
use Rattle.std.specs.List.{list_all, AllByRecursion}
use Rattle.std.proofs.lemmas.List.{drop_more}
use Rattle.std.proofs.lemmas.List.Folds.{list_all-append}
use Rattle.std.proofs.lemmas.List.Elements.{recursion_from_All}
use Rattle.std.proofs.Math.ListN.{drop_of_length-le}
use Rattle.ledger_terms.specs.declared.action.Action.{Action}
use Rattle.ledger_terms.specs.declared.act.Act.{Act}
use Rattle.ledger_terms.specs.Forest.{Forest, NoRoots, Root, roots_of}
use Rattle.ledger_terms.specs.Grown.{forest_of}
use Rattle.ledger_terms.specs.Trees.{ActionNode}
use Rattle.ledger_model.specs.Terms.{PartySet}
use Rattle.ledger_model.specs.Forest.{trees_of}
use Rattle.ledger_model.specs.declared.roles.Roles.{Roles}
use Rattle.ledger_model.specs.Authority.{is_authorised, is_forest_authorised, authorisers_below}
use Rattle.authorise.specs.Below.{are_authorised_below}

node_by_recursion : (P : Act → Type 0) (ns : List ActionNode) (i : ℕ) (d : ActionNode) → i < length ns → AllByRecursion P (roots_of (forest_of ns)) → P (get_or ns i d).root
node_by_recursion P [] i d h all = absurd (omega arith)
node_by_recursion P (n ∷ ns) zero d h all = all.0
node_by_recursion P (n ∷ ns) (suc i) d h all = node_by_recursion P ns i d (omega arith) all.1

-- what holds of the roots of a list of nodes holds of each node
pub node_at : (P : Act → Type 0) (ns : List ActionNode) (i : ℕ) (n : ActionNode) → i < length ns → n ≡ get_or ns i n → All P (roots_of (forest_of ns)) → P n.root
node_at P ns i n h e all = rw e (node_by_recursion P ns i n h (recursion_from_All P _ all))

-- where a fact follows from what holds of the nodes left, and it holds of the next, it follows from what holds of the rest
pub roots_step : (P : Act → Type 0) (ns : List ActionNode) (i : ℕ) (n : ActionNode) (W : Type 0) → i < length ns → n ≡ get_or ns i n → P n.root
    → (AllByRecursion P (roots_of (forest_of (drop i ns))) → W) → AllByRecursion P (roots_of (forest_of (drop (i + 1) ns))) → W
roots_step P ns i n W h e p f rest = f (rw (drop_more ns i n h, ← e) (p, rest))

pub roots_end : (P : Act → Type 0) (ns : List ActionNode) (i : ℕ) (W : Type 0) → length ns ≤ i → (AllByRecursion P (roots_of (forest_of (drop i ns))) → W) → W
roots_end P ns i W past f = f (rw (drop_of_length-le ns past) tt)

swapped : (a x y z w : Bool) → (a && ((x && y) && (z && w))) ≡ ((a && z) && (x && (y && w)))
swapped true true y true w = refl
swapped true true true false w = refl
swapped true true false false w = refl
swapped true false y true w = refl
swapped true false y false w = refl
swapped false x y z w = refl

-- a whole forest is authorised where each root is, and the consequences of each action
pub local : (roles : Action → Roles) (by : PartySet) (roots : Forest Act) → is_forest_authorised roles by roots ≡ (list_all (λ (root : Act). is_authorised roles by root.action) (roots_of roots) && list_all (λ (tree : Act × Forest Act). are_authorised_below roles (tree.0).action tree.1) (trees_of roots))
local roles by NoRoots = refl
local roles by (Root act below others) =
    let rest : list_all (λ (tree : Act × Forest Act). are_authorised_below roles (tree.0).action tree.1) (trees_of below ++ trees_of others)
    ≡ (list_all (λ (tree : Act × Forest Act). are_authorised_below roles (tree.0).action tree.1) (trees_of below) && list_all (λ (tree : Act × Forest Act). are_authorised_below roles (tree.0).action tree.1) (trees_of others)) =
    list_all-append (λ (tree : Act × Forest Act). are_authorised_below roles (tree.0).action tree.1) (trees_of below) (trees_of others) in
    rw (local roles (authorisers_below roles act.action) below, local roles by others, rest)
    (swapped (is_authorised roles by act.action) (are_authorised_below roles act.action below)
    (list_all (λ (tree : Act × Forest Act). are_authorised_below roles (tree.0).action tree.1) (trees_of below))
    (list_all (λ (root : Act). is_authorised roles by root.action) (roots_of others))
    (list_all (λ (tree : Act × Forest Act). are_authorised_below roles (tree.0).action tree.1) (trees_of others)))
