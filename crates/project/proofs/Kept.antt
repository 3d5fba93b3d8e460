-- What is kept of a list of nodes, one node at a time.
use Rattle.std.proofs.Common.{◌≡◌, ℕ, zero, suc, ◌+◌, ◌<◌, ◌≤◌, Bool, true, false, List, [], ◌∷◌, ◌++◌, length, get_or, drop, refl, sym, ◌∙◌, ap, arith, All, inl, inr}
use Rattle.std.specs.Prelude.{if◌then◌else◌}
use Rattle.std.specs.List.{AllByRecursion}
use Rattle.std.proofs.lemmas.List.Elements.{recursion_from_All, All-from_recursion}
use Rattle.std.proofs.lemmas.List.{drop_more}
use Rattle.std.proofs.lemmas.Bool.{cases_Bool}
use Rattle.std.proofs.Math.ListN.{drop_of_length-le}
use Rattle.ledger_terms.specs.Forest.{Forest, NoRoots, Root, join, project, preorder}
use Rattle.ledger_terms.specs.declared.act.Act.{Act}
use Rattle.ledger_terms.specs.Trees.{Actions}
use Rattle.ledger_terms.specs.Grown.{forest_of, tree_of}
use Rattle.ledger_terms.specs.Trees.{ActionNode}
use Rattle.ledger_terms.proofs.Grow.{join-assoc, join-end}

-- what is kept of one node
abbrev pub kept_of : (Act → Bool) → ActionNode → Actions
kept_of keeps n = if keeps n.root then tree_of n else project keeps n.below

pub kept_yes : (keeps : Act → Bool) (n : ActionNode) (b : Bool) → b ≡ keeps n.root → b ≡ true → kept_of keeps n ≡ tree_of n
kept_yes keeps n b is h = rw (sym is ∙ h) refl

pub kept_no : (keeps : Act → Bool) (n : ActionNode) (b : Bool) → b ≡ keeps n.root → b ≡ false → kept_of keeps n ≡ project keeps n.below
kept_no keeps n b is h = rw (sym is ∙ h) refl

one_more : {A : Type 0} → (b : Bool) (a : A) (below kept more : Forest A) → (if b then Root a below more else join kept more) ≡ join (if b then Root a below NoRoots else kept) more
one_more true a below kept more = refl
one_more false a below kept more = refl

pub kept_step : (keeps : Act → Bool) (all out new : Actions) (ns : List ActionNode) (i : ℕ) (n : ActionNode) → i < length ns → n ≡ get_or ns i n → new ≡ join out (kept_of keeps n) → join out (project keeps (forest_of (drop i ns))) ≡ all → join new (project keeps (forest_of (drop (i + 1) ns))) ≡ all
kept_step keeps all out new ns i n within at grown before =
    let next : project keeps (forest_of (drop i ns)) ≡ join (kept_of keeps n) (project keeps (forest_of (drop (i + 1) ns))) =
    rw (drop_more ns i n within, ← at) (one_more (keeps n.root) n.root n.below (project keeps n.below) (project keeps (forest_of (drop (i + 1) ns)))) in
    rw (grown, join-assoc, ← next) before

pub kept_end : (keeps : Act → Bool) (all out : Actions) (ns : List ActionNode) (i : ℕ) → length ns ≤ i → join out (project keeps (forest_of (drop i ns))) ≡ all → out ≡ all
kept_end keeps all out ns i past before = sym (join-end out) ∙ (rw (drop_of_length-le ns past) at before)

all_left : (P : Act → Type 0) (xs ys : List Act) → AllByRecursion P (xs ++ ys) → AllByRecursion P xs
all_left P [] ys h = tt
all_left P (x ∷ xs) ys h = (h.0, all_left P xs ys h.1)

all_right : (P : Act → Type 0) (xs ys : List Act) → AllByRecursion P (xs ++ ys) → AllByRecursion P ys
all_right P [] ys h = h
all_right P (x ∷ xs) ys h = all_right P xs ys h.1

node_by_recursion : (P : Act → Type 0) (ns : List ActionNode) (i : ℕ) (d : ActionNode) → i < length ns → AllByRecursion P (preorder (forest_of ns)) → P (get_or ns i d).root × AllByRecursion P (preorder (get_or ns i d).below)
node_by_recursion P [] i d h all = absurd (omega arith)
node_by_recursion P (n ∷ ns) zero d h all = (all.0, all_left P (preorder n.below) (preorder (forest_of ns)) all.1)
node_by_recursion P (n ∷ ns) (suc i) d h all = node_by_recursion P ns i d (omega arith) (all_right P (preorder n.below) (preorder (forest_of ns)) all.1)

-- what holds of all actions of a list of nodes holds of each node's action, and of all below it
pub node_action : (P : Act → Type 0) (ns : List ActionNode) (i : ℕ) (n : ActionNode) → i < length ns → n ≡ get_or ns i n → All P (preorder (forest_of ns)) → P n.root
node_action P ns i n h e all = rw e (node_by_recursion P ns i n h (recursion_from_All P _ all)).0

pub node_below : (P : Act → Type 0) (ns : List ActionNode) (i : ℕ) (n : ActionNode) → i < length ns → n ≡ get_or ns i n → All P (preorder (forest_of ns)) → All P (preorder n.below)
node_below P ns i n h e all = rw e (All-from_recursion P _ (node_by_recursion P ns i n h (recursion_from_All P _ all)).1)

project-join : {A : Type 0} → (keeps : A → Bool) (f g : Forest A) → project keeps (join f g) ≡ join (project keeps f) (project keeps g)
project-join keeps NoRoots g = refl
project-join keeps (Root a below others) g =
    elim (cases_Bool (keeps a)) [
      | inl b ↦ rw b (ap (λ f. Root a below f) (project-join keeps others g))
      | inr b ↦ rw b (ap (join (project keeps below)) (project-join keeps others g) ∙ sym (join-assoc (project keeps below) (project keeps others) (project keeps g)))
    ]

-- what is kept of what is kept is all of it
pub project_again : {A : Type 0} → (keeps : A → Bool) (f : Forest A) → project keeps (project keeps f) ≡ project keeps f
project_again keeps NoRoots = refl
project_again keeps (Root a below others) =
    elim (cases_Bool (keeps a)) [
      | inl b ↦ rw b (rw b (ap (λ f. Root a below f) (project_again keeps others)))
      | inr b ↦ rw b (project-join keeps (project keeps below) (project keeps others) ∙ (ap (λ f. join f (project keeps (project keeps others))) (project_again keeps below) ∙ ap (join (project keeps below)) (project_again keeps others)))
    ]

all_both : (P : Act → Type 0) (xs ys : List Act) → AllByRecursion P xs → AllByRecursion P ys → AllByRecursion P (xs ++ ys)
all_both P [] ys h k = k
all_both P (x ∷ xs) ys h k = (h.0, all_both P xs ys h.1 k)

-- where a fact follows from what holds of the actions left, and it holds of the next tree, it follows from what holds of the rest
pub all_step : (P : Act → Type 0) (ns : List ActionNode) (i : ℕ) (n : ActionNode) (W : Type 0) → i < length ns → n ≡ get_or ns i n → P n.root → AllByRecursion P (preorder n.below)
    → (AllByRecursion P (preorder (forest_of (drop i ns))) → W) → AllByRecursion P (preorder (forest_of (drop (i + 1) ns))) → W
all_step P ns i n W h e here below f rest = f (rw (drop_more ns i n h, ← e) (here, all_both P (preorder n.below) (preorder (forest_of (drop (i + 1) ns))) below rest))

pub all_end : (P : Act → Type 0) (ns : List ActionNode) (i : ℕ) (W : Type 0) → length ns ≤ i → (AllByRecursion P (preorder (forest_of (drop i ns))) → W) → W
all_end P ns i W past f = f (rw (drop_of_length-le ns past) tt)
