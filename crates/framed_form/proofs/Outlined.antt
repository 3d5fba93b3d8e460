-- The views that the mediator is told of, as a list and as a forest.
use Rattle.std.proofs.Common.{◌≡◌, ℕ, suc, List, [], ◌∷◌, ◌++◌, map, Ok, refl, sym, ap, ◌∙◌}
use Rattle.ledger_terms.specs.Forest.{Forest, NoRoots, Root, paths_from, preorder}
use Rattle.view_split.proofs.Fitting.{map-append}
use Rattle.blind_tree.specs.Leaves.{Sets}
use Rattle.blind_tree.specs.Opening.{head_at, informee_tree_of, read_leaf, roles_at, roles_listed, view_roles}
use Rattle.blind_tree.specs.Vertices.{Vertices, NoVertices, BlindVertex, InnerVertex}
use Rattle.blind_tree.specs.declared.leaf.Leaf.{Leaf}
use Rattle.blind_tree.specs.declared.roles_tree.RolesTree.{RolesTree}
use Rattle.blind_tree.specs.declared.tree.Tree.{Tree}
use Rattle.blind_tree.specs.declared.view_roles.ViewRoles.{ViewRoles}
use Rattle.framed_form.specs.Frames.{roles_read}
use Rattle.framed_form.proofs.Lying.{read_ok, same_ok}

-- the views of a forest, each with its path and before those below it
abbrev pub told_in : List ℕ → ℕ → Forest Sets → List ViewRoles
told_in above k f = map (λ (v : List ℕ × Sets). view_roles v.0 v.1) (preorder (paths_from above k f))

told_root : (above : List ℕ) (k : ℕ) (sets : Sets) (below rest : Forest Sets)
    → told_in above k (Root sets below rest) ≡ view_roles (above ++ k ∷ []) sets ∷ (told_in (above ++ k ∷ []) 0 below ++ told_in above (suc k) rest)
told_root above k sets below rest =
    ap (λ (vs : List ViewRoles). view_roles (above ++ k ∷ []) sets ∷ vs)
    (map-append (λ (v : List ℕ × Sets). view_roles v.0 v.1) (preorder (paths_from (above ++ k ∷ []) 0 below)) (preorder (paths_from above (suc k) rest)))

roles_made : (i c : Leaf) (s o : Vertices) (sets : Sets) (below rest : Forest Sets) → read_leaf roles_at i ≡ Ok sets → roles_read s ≡ Ok below → roles_read o ≡ Ok rest
    → roles_read (InnerVertex i c s o) ≡ Ok (Root sets below rest)
roles_made i c s o sets below rest e f g = rw (e, f, g) refl

-- the list that the mediator reads is that of the forest
pub listed_as_forest : (above : List ℕ) (k : ℕ) (v : Vertices) (views : List ViewRoles) → roles_listed above k v ≡ Ok views
    → (f : Forest Sets) × (roles_read v ≡ Ok f) × (views ≡ told_in above k f)
listed_as_forest above k NoVertices views e = (NoRoots, refl, sym (same_ok [] views e))
listed_as_forest above k (BlindVertex hash others) views e = absurd cc
listed_as_forest above k (InnerVertex informees contents subviews others) views e =
    let path = above ++ k ∷ [] in
    let sets = read_ok (read_leaf roles_at informees) _ views e in
    let below = read_ok (roles_listed path 0 subviews) _ views sets.2 in
    let rest = read_ok (roles_listed above (suc k) others) _ views below.2 in
    let b = listed_as_forest path 0 subviews below.0 below.1 in
    let r = listed_as_forest above (suc k) others rest.0 rest.1 in (
      Root sets.0 b.0 r.0,
      roles_made informees contents subviews others sets.0 b.0 r.0 sets.1 b.1 r.1,
      sym (same_ok (view_roles path sets.0 ∷ (below.0 ++ rest.0)) views rest.2)
          ∙ ((λ i. view_roles path sets.0 ∷ (b.2 i ++ r.2 i)) ∙ sym (told_root above k sets.0 b.0 r.0)),
    )

-- what the mediator reads of a tree: sender and ledger time, and the views
pub record Outlined (tree : Tree) (roles : RolesTree) : Type 0 where
  pub head : List ℕ × ℕ
  pub head_read : read_leaf head_at tree.common ≡ Ok head
  pub sender : roles.sender ≡ head.0
  pub outline : Forest Sets
  pub outline_read : roles_read tree.views ≡ Ok outline
  pub views : roles.views ≡ told_in [] 0 outline

pub outlined : (tree : Tree) (roles : RolesTree) → informee_tree_of tree ≡ Ok roles → Outlined tree roles
outlined tree roles e =
    let head = read_ok (read_leaf head_at tree.common) _ roles e in
    let views = read_ok (roles_listed [] 0 tree.views) _ roles head.2 in
    let same = same_ok (record { sender = (head.0).0; views = views.0 }) roles views.2 in
    let f = listed_as_forest [] 0 tree.views views.0 views.1 in
    record {
      head = head.0;
      head_read = head.1;
      sender = sym (ap (λ (r : RolesTree). r.sender) same);
      outline = f.0;
      outline_read = f.1;
      views = sym (ap (λ (r : RolesTree). r.views) same) ∙ f.2;
    }
