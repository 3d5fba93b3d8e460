-- What is told of vertices one after another is what is told of all.
use Rattle.std.proofs.Common.{◌≡◌, ℕ, suc, ◌+◌, ◌<◌, List, [], ◌∷◌, ◌++◌, length, get_or, drop, Result, Ok, Err, refl, sym, ap, subst, ◌∙◌, append_assoc, append-nil, arith}
use Rattle.wire_form.specs.declared.wire_fault.WireFault.{WireFault}
use Rattle.blind_tree.specs.Vertices.{Vertices, NoVertices, BlindVertex, InnerVertex, AreNarrow}
use Rattle.blind_tree.specs.VertexLists.{vertices_of, with_vertex, one_vertex}
use Rattle.blind_tree.specs.Opening.{with_read, read_leaf, head_at, roles_at, view_roles, roles_listed, informee_tree_of}
use Rattle.blind_tree.specs.RolesAfter.{roles_after, view_roles_after}
use Rattle.blind_tree.specs.declared.leaf.Leaf.{Leaf}
use Rattle.blind_tree.specs.declared.vertex.Vertex.{Vertex}
use Rattle.blind_tree.specs.declared.vertex.Vertex.TheVariants.{Blind, Inner}
use Rattle.blind_tree.specs.declared.tree.Tree.{Tree}
use Rattle.blind_tree.specs.declared.view_roles.ViewRoles.{ViewRoles}
use Rattle.blind_tree.proofs.Grow.{next_vertex}

pub read_same : {A B : Type 0} (r : Result A WireFault) (f g : A → Result B WireFault) → ((x : A) → f x ≡ g x) → with_read r f ≡ with_read r g
read_same (Ok x) f g same = same x
read_same (Err e) f g same = refl

pub read_then : {A B C : Type 0} (r : Result A WireFault) (f : A → Result B WireFault) (g : B → Result C WireFault) → with_read (with_read r f) g ≡ with_read r (λ x. with_read (f x) g)
read_then (Ok x) f g = refl
read_then (Err e) f g = refl

pub read_on : {A : Type 0} (r : Result A WireFault) → with_read r (λ x. Ok x) ≡ r
read_on (Ok x) = refl
read_on (Err e) = refl

-- an item, those below it and those after it, behind those before it
pub appended : {X : Type 0} (so_far : List X) (x : X) (p q : Result (List X) WireFault)
    → with_read (with_read p (λ ys. Ok ((so_far ++ x ∷ []) ++ ys))) (λ more. with_read q (λ zs. Ok (more ++ zs)))
    ≡ with_read (with_read p (λ ys. with_read q (λ zs. Ok (x ∷ (ys ++ zs))))) (λ xs. Ok (so_far ++ xs))
appended so_far x (Err e) q = refl
appended so_far x (Ok ys) (Err e) = refl
appended {X} so_far x (Ok ys) (Ok zs) =
    ap (λ (k : List X). Ok k) (append_assoc (so_far ++ x ∷ []) ys zs ∙ append_assoc so_far (x ∷ []) (ys ++ zs))

pub told_behind : (above : List ℕ) (k : ℕ) (v : Vertices) (so_far : List ViewRoles) → roles_after above k v so_far ≡ with_read (roles_listed above k v) (λ xs. Ok (so_far ++ xs))
told_behind above k NoVertices so_far = ap (λ (xs : List ViewRoles). Ok xs) (sym (append-nil so_far))
told_behind above k (BlindVertex hash others) so_far = refl
told_behind above k (InnerVertex informees contents subviews others) so_far =
    let path = above ++ k ∷ [] in
    read_same (read_leaf roles_at informees) _ _ (λ roles.
    (ap (λ (p : Result (List ViewRoles) WireFault). with_read p (λ more. roles_after above (suc k) others more)) (told_behind path 0 subviews (so_far ++ view_roles path roles ∷ []))
    ∙ read_same (with_read (roles_listed path 0 subviews) (λ ys. Ok ((so_far ++ view_roles path roles ∷ []) ++ ys))) _ _ (λ more. told_behind above (suc k) others more))
    ∙ appended so_far (view_roles path roles) (roles_listed path 0 subviews) (roles_listed above (suc k) others))
    ∙ sym (read_then (read_leaf roles_at informees) _ _)

-- a vertex by itself
pub told_one : (above : List ℕ) (k : ℕ) (informees contents : Leaf) (subviews : Vertices) (so_far : List ViewRoles) → roles_after above k (one_vertex (Inner informees contents subviews)) so_far ≡ view_roles_after above k informees subviews so_far
told_one above k informees contents subviews so_far =
    read_same (read_leaf roles_at informees) _ _ (λ roles. read_on (roles_after (above ++ k ∷ []) 0 subviews (so_far ++ view_roles (above ++ k ∷ []) roles ∷ [])))

-- one vertex, and then those after it
told_with : (above : List ℕ) (k : ℕ) (v : Vertex) (rest : Vertices) (so_far : List ViewRoles)
    → roles_after above k (with_vertex v rest) so_far ≡ with_read (roles_after above k (one_vertex v) so_far) (λ more. roles_after above (suc k) rest more)
told_with above k (Blind hash) rest so_far = refl
told_with above k (Inner informees contents subviews) rest so_far =
    let path = above ++ k ∷ [] in
    read_same (read_leaf roles_at informees) _ _ (λ roles.
    ap (λ (p : Result (List ViewRoles) WireFault). with_read p (λ more. roles_after above (suc k) rest more)) (sym (read_on (roles_after path 0 subviews (so_far ++ view_roles path roles ∷ [])))))
    ∙ sym (read_then (read_leaf roles_at informees) _ _)

narrow_with : (v : Vertex) (rest : Vertices) → AreNarrow (with_vertex v rest) → AreNarrow (one_vertex v) × AreNarrow rest
narrow_with (Blind hash) rest n = (tt, n)
narrow_with (Inner informees contents subviews) rest n = ((n.0, n.1, tt), n.2)

pub narrow_one : (vs : List Vertex) (i : ℕ) (v : Vertex) → i < length vs → v ≡ get_or vs i v → AreNarrow (vertices_of (drop i vs)) → AreNarrow (one_vertex v) × AreNarrow (vertices_of (drop (i + 1) vs))
narrow_one vs i v h at n = narrow_with v (vertices_of (drop (i + 1) vs)) (subst AreNarrow (next_vertex vs i v h at) n)

told_at : (vs : List Vertex) (above : List ℕ) (i : ℕ) (v : Vertex) (so_far : List ViewRoles) → i < length vs → v ≡ get_or vs i v
    → roles_after above i (vertices_of (drop i vs)) so_far ≡ with_read (roles_after above i (one_vertex v) so_far) (λ more. roles_after above (suc i) (vertices_of (drop (i + 1) vs)) more)
told_at vs above i v so_far h at = ap (λ (w : Vertices). roles_after above i w so_far) (next_vertex vs i v h at) ∙ told_with above i v (vertices_of (drop (i + 1) vs)) so_far

pub told_step : (vs : List Vertex) (above : List ℕ) (i : ℕ) (v : Vertex) (so_far new : List ViewRoles) (all : Result (List ViewRoles) WireFault) → i < length vs → v ≡ get_or vs i v
    → roles_after above i (one_vertex v) so_far ≡ Ok new → roles_after above i (vertices_of (drop i vs)) so_far ≡ all → roles_after above (i + 1) (vertices_of (drop (i + 1) vs)) new ≡ all
told_step vs above i v so_far new all h at one before =
    let k : i + 1 ≡ suc i = omega arith in
    ap (λ (n : ℕ). roles_after above n (vertices_of (drop (i + 1) vs)) new) k
    ∙ (sym (told_at vs above i v so_far h at ∙ ap (λ (p : Result (List ViewRoles) WireFault). with_read p (λ more. roles_after above (suc i) (vertices_of (drop (i + 1) vs)) more)) one) ∙ before)

pub told_fault : (vs : List Vertex) (above : List ℕ) (i : ℕ) (v : Vertex) (so_far : List ViewRoles) (all : Result (List ViewRoles) WireFault) (e : WireFault) → i < length vs → v ≡ get_or vs i v
    → roles_after above i (one_vertex v) so_far ≡ Err e → roles_after above i (vertices_of (drop i vs)) so_far ≡ all → all ≡ Err e
told_fault vs above i v so_far all e h at one before =
    sym before ∙ (told_at vs above i v so_far h at ∙ ap (λ (p : Result (List ViewRoles) WireFault). with_read p (λ more. roles_after above (suc i) (vertices_of (drop (i + 1) vs)) more)) one)

-- a fault of the vertices is the tree's
pub told_tree_fault : (tree : Tree) (head : List ℕ × ℕ) (e : WireFault) → read_leaf head_at tree.common ≡ Ok head → roles_after [] 0 tree.views [] ≡ Err e → informee_tree_of tree ≡ Err e
told_tree_fault tree head e first fault =
    let listed : with_read (roles_listed [] 0 tree.views) (λ xs. Ok xs) ≡ Err e = sym (told_behind [] 0 tree.views []) ∙ fault in
    rw first (ap (λ (p : Result (List ViewRoles) WireFault). with_read p (λ (xs : List ViewRoles). Ok (record { sender = head.0; views = xs }))) (sym (read_on (roles_listed [] 0 tree.views)) ∙ listed))

pub told_tree : (tree : Tree) (head : List ℕ × ℕ) (views : List ViewRoles) → read_leaf head_at tree.common ≡ Ok head → roles_after [] 0 tree.views [] ≡ Ok views → informee_tree_of tree ≡ Ok (record { sender = head.0; views = views })
told_tree tree head views first all =
    let listed : with_read (roles_listed [] 0 tree.views) (λ xs. Ok xs) ≡ Ok views = sym (told_behind [] 0 tree.views []) ∙ all in
    rw first (ap (λ (p : Result (List ViewRoles) WireFault). with_read p (λ (xs : List ViewRoles). Ok (record { sender = head.0; views = xs }))) (sym (read_on (roles_listed [] 0 tree.views)) ∙ listed))
