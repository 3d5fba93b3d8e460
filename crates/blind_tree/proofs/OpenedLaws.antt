-- What is opened of vertices one after another is what is opened of all.
use Rattle.std.proofs.Common.{◌≡◌, ℕ, suc, ◌+◌, ◌<◌, ◌≤◌, Bool, true, false, List, [], ◌∷◌, ◌++◌, length, get_or, drop, Option, Result, Ok, Err, refl, sym, ap, ◌∙◌, append_assoc, append-nil, arith, inl, inr}
use Rattle.std.specs.Prelude.{◌^◌, nat_eq, if◌then◌else◌}
use Rattle.std.proofs.lemmas.Bool.Decides.{Decides-eqb}
use Rattle.std.proofs.lemmas.Bool.{cases_Bool}
use Rattle.std.proofs.Math.ListN.{drop_of_length-le}
use Rattle.ledger_terms.specs.Forest.{Forest, NoRoots, join}
use Rattle.ledger_terms.proofs.Grow.{join-assoc, join-end}
use Rattle.wire_form.specs.Lengths.{capped}
use Rattle.wire_form.specs.Reading.{set_at}
use Rattle.wire_form.specs.declared.wire_fault.WireFault.{WireFault}
use Rattle.view_split.specs.Holed.{holes}
use Rattle.view_split.specs.declared.split_view.SplitView.{SplitView}
use Rattle.ledger_terms.specs.Grown.{tree_of}
use Rattle.view_split.specs.declared.core_node.CoreNode.{CoreNode}
use Rattle.view_split.specs.ViewTrees.{View}
use Rattle.view_split.specs.declared.placed_view.PlacedView.{PlacedView}
use Rattle.view_split.specs.declared.opened_tree.OpenedTree.{OpenedTree}
use Rattle.blind_tree.specs.Vertices.{Vertices, NoVertices, BlindVertex, InnerVertex, count}
use Rattle.blind_tree.specs.VertexLists.{vertices_of, with_vertex, one_vertex}
use Rattle.blind_tree.specs.CoreReading.{core_at}
use Rattle.blind_tree.specs.Opening.{with_read, read_leaf, head_at, roles_at, read_if_plain, is_open, ViewParts, own_view, own_view_read, view_of, parts_read, views_read, view_read, placed, views_opened, tree_opened}
use Rattle.blind_tree.specs.Opened.{vertex_read, views_after, opened_after, inner_opened}
use Rattle.blind_tree.specs.declared.leaf.Leaf.{Leaf}
use Rattle.blind_tree.specs.declared.tree.Tree.{Tree}
use Rattle.blind_tree.specs.declared.vertex.Vertex.{Vertex}
use Rattle.blind_tree.specs.declared.vertex.Vertex.TheVariants.{Blind, Inner}
use Rattle.blind_tree.proofs.Grow.{next_vertex}
use Rattle.blind_tree.proofs.ToldLaws.{read_same, read_then, read_on}

-- ---- views below an opened one

-- a view and those after it, behind those before them
joined : (so_far : Forest SplitView) (q : Result (Forest SplitView) WireFault) (parts : ViewParts) (p : Result (Forest SplitView) WireFault)
    → with_read (with_read p (λ below. Ok (view_of parts below))) (λ view. with_read q (λ rest. Ok (join (join so_far (tree_of view)) rest)))
    ≡ with_read (with_read p (λ below. with_read q (λ rest. Ok (join (tree_of (view_of parts below)) rest)))) (λ f. Ok (join so_far f))
joined so_far q parts (Err e) = refl
joined so_far (Err e) parts (Ok below) = refl
joined so_far (Ok rest) parts (Ok below) = ap (λ (f : Forest SplitView). Ok f) (join-assoc so_far (tree_of (view_of parts below)) rest)

read_behind : (v : Vertices) (so_far : Forest SplitView) → views_after v so_far ≡ with_read (views_read v) (λ f. Ok (join so_far f))
read_behind NoVertices so_far = ap (λ (f : Forest SplitView). Ok f) (sym (join-end so_far))
read_behind (BlindVertex hash others) so_far = refl
read_behind (InnerVertex informees contents subviews others) so_far =
    let parts = parts_read informees contents (count subviews) in
    read_same (view_read informees contents subviews) _ _ (λ view. read_behind others (join so_far (tree_of view)))
    ∙ (read_then parts _ _
    ∙ (read_same parts _ _ (λ p. joined so_far (views_read others) p (views_read subviews))
    ∙ sym (read_then parts _ _)))

pub read_start : (v : Vertices) → views_after v NoRoots ≡ views_read v
read_start v = read_behind v NoRoots ∙ read_on (views_read v)

read_with : (v : Vertex) (rest : Vertices) (so_far : Forest SplitView) → views_after (with_vertex v rest) so_far ≡ with_read (vertex_read v) (λ view. views_after rest (join so_far (tree_of view)))
read_with (Blind hash) rest so_far = refl
read_with (Inner informees contents subviews) rest so_far = refl

read_at : (vs : List Vertex) (i : ℕ) (v : Vertex) (so_far : Forest SplitView) → i < length vs → v ≡ get_or vs i v
    → views_after (vertices_of (drop i vs)) so_far ≡ with_read (vertex_read v) (λ view. views_after (vertices_of (drop (i + 1) vs)) (join so_far (tree_of view)))
read_at vs i v so_far h at = ap (λ (w : Vertices). views_after w so_far) (next_vertex vs i v h at) ∙ read_with v (vertices_of (drop (i + 1) vs)) so_far

abbrev done : {A : Type 0} → A → Result A WireFault
done x = Ok x

pub read_step : (vs : List Vertex) (i : ℕ) (v : Vertex) (so_far new : Forest SplitView) (view : View) (all : Result (Forest SplitView) WireFault) → i < length vs → v ≡ get_or vs i v
    → vertex_read v ≡ Ok view → done (join so_far (tree_of view)) ≡ Ok new → views_after (vertices_of (drop i vs)) so_far ≡ all → views_after (vertices_of (drop (i + 1) vs)) new ≡ all
read_step vs i v so_far new view all h at one grown before =
    let same : new ≡ join so_far (tree_of view) = cc in
    ap (views_after (vertices_of (drop (i + 1) vs))) same
    ∙ (sym (read_at vs i v so_far h at ∙ ap (λ (p : Result View WireFault). with_read p (λ w. views_after (vertices_of (drop (i + 1) vs)) (join so_far (tree_of w)))) one) ∙ before)

pub read_fault : (vs : List Vertex) (i : ℕ) (v : Vertex) (so_far : Forest SplitView) (all : Result (Forest SplitView) WireFault) (e : WireFault) → i < length vs → v ≡ get_or vs i v
    → vertex_read v ≡ Err e → views_after (vertices_of (drop i vs)) so_far ≡ all → all ≡ Err e
read_fault vs i v so_far all e h at one before =
    sym before ∙ (read_at vs i v so_far h at ∙ ap (λ (p : Result View WireFault). with_read p (λ w. views_after (vertices_of (drop (i + 1) vs)) (join so_far (tree_of w)))) one)

pub read_end : (vs : List Vertex) (i : ℕ) (so_far : Forest SplitView) (all : Result (Forest SplitView) WireFault) → length vs ≤ i → views_after (vertices_of (drop i vs)) so_far ≡ all → all ≡ Ok so_far
read_end vs i so_far all past before = sym (rw (drop_of_length-le vs past) at before)

-- ---- one view

module _ (informees contents : Leaf) (subviews : Vertices) (sets : List (List ℕ) × List (List ℕ)) (core : CoreNode) (counted len : ℕ) where
  -- both leaves are read, and the core has as many holes as there are vertices below
  abbrev AreAlike : Type 0
  AreAlike =
      (read_leaf roles_at informees ≡ Ok sets) × (read_leaf core_at contents ≡ Ok core)
      × (counted ≡ capped (holes core.children)) × (len ≡ count subviews) × (len < 2 ^ 63) × (counted ≡ len)

  parts_are : AreAlike → parts_read informees contents (count subviews) ≡ Ok (sets, core)
  parts_are h =
      let holes_are : holes core.children ≡ count subviews = omega (arith, h.2, h.3, h.4, h.5) in
      let same : nat_eq (holes core.children) (count subviews) ≡ true = (Decides-eqb (holes core.children) (count subviews)).1 holes_are in
      rw (h.0, h.1, same) refl

  pub own_is : AreAlike → own_view_read informees contents (count subviews) ≡ Ok (own_view (sets, core))
  own_is h = rw (parts_are h) refl

-- a view with those below it
own_then : (p : Result ViewParts WireFault) (q : Result (Forest SplitView) WireFault) (root : SplitView) (below : Forest SplitView)
    → with_read p (λ parts. Ok (own_view parts)) ≡ Ok root → q ≡ Ok below
    → with_read p (λ parts. with_read q (λ b. Ok (view_of parts b))) ≡ Ok (record { root = root; below = below })
own_then (Err e) q root below is read = cc
own_then (Ok parts) q root below is read =
    let same : own_view parts ≡ root = cc in
    rw (read) (ap (λ (x : SplitView). let v : View = record { root = x; below = below } in let r : Result View WireFault = Ok v in r) same)

own_fault : (p : Result ViewParts WireFault) (q : Result (Forest SplitView) WireFault) (root : SplitView) (e : WireFault)
    → with_read p (λ parts. Ok (own_view parts)) ≡ Ok root → q ≡ Err e → with_read p (λ parts. with_read q (λ b. Ok (view_of parts b))) ≡ Err e
own_fault (Err f) q root e is read = cc
own_fault (Ok parts) q root e is read = rw (read) refl

pub view_is : (informees contents : Leaf) (subviews : Vertices) (root : SplitView) (below : Forest SplitView)
    → own_view_read informees contents (count subviews) ≡ Ok root → views_read subviews ≡ Ok below
    → view_read informees contents subviews ≡ Ok (record { root = root; below = below })
view_is informees contents subviews root below = own_then (parts_read informees contents (count subviews)) (views_read subviews) root below

pub view_fault : (informees contents : Leaf) (subviews : Vertices) (root : SplitView) (e : WireFault)
    → own_view_read informees contents (count subviews) ≡ Ok root → views_read subviews ≡ Err e → view_read informees contents subviews ≡ Err e
view_fault informees contents subviews root e = own_fault (parts_read informees contents (count subviews)) (views_read subviews) root e

-- ---- topmost views

abbrev Views : Type 0
Views = List PlacedView

-- one view and those after it
one_more : (so_far : Views) (path : List ℕ) (view : View) (q : Result Views WireFault)
    → with_read q (λ ys. Ok ((so_far ++ placed path view ∷ []) ++ ys)) ≡ with_read (with_read q (λ ys. Ok (placed path view ∷ ys))) (λ xs. Ok (so_far ++ xs))
one_more so_far path view (Err e) = refl
one_more so_far path view (Ok ys) = ap (λ (xs : Views). Ok xs) (append_assoc so_far (placed path view ∷ []) ys)

-- those of one list and those of the next
two_more : (so_far : Views) (p q : Result Views WireFault)
    → with_read (with_read p (λ xs. Ok (so_far ++ xs))) (λ more. with_read q (λ ys. Ok (more ++ ys))) ≡ with_read (with_read p (λ xs. with_read q (λ ys. Ok (xs ++ ys)))) (λ xs. Ok (so_far ++ xs))
two_more so_far (Err e) q = refl
two_more so_far (Ok xs) (Err e) = refl
two_more so_far (Ok xs) (Ok ys) = ap (λ (zs : Views). Ok zs) (append_assoc so_far xs ys)

pub opened_behind : (above : List ℕ) (k : ℕ) (v : Vertices) (so_far : Views) → opened_after above k v so_far ≡ with_read (views_opened above k v) (λ xs. Ok (so_far ++ xs))
opened_behind above k NoVertices so_far = ap (λ (xs : Views). Ok xs) (sym (append-nil so_far))
opened_behind above k (BlindVertex hash others) so_far = opened_behind above (suc k) others so_far
opened_behind above k (InnerVertex informees contents subviews others) so_far =
    let path = above ++ k ∷ [] in
    elim (cases_Bool (is_open informees contents)) [
      | inl both ↦ rw both
          (read_same (view_read informees contents subviews) _ _ (λ view. opened_behind above (suc k) others (so_far ++ placed path view ∷ []) ∙ one_more so_far path view (views_opened above (suc k) others))
          ∙ sym (read_then (view_read informees contents subviews) _ _))
      | inr not_both ↦ rw not_both
          (ap (λ (p : Result Views WireFault). with_read p (λ more. opened_after above (suc k) others more)) (opened_behind path 0 subviews so_far)
          ∙ (read_same (with_read (views_opened path 0 subviews) (λ xs. Ok (so_far ++ xs))) _ _ (λ more. opened_behind above (suc k) others more)
          ∙ two_more so_far (views_opened path 0 subviews) (views_opened above (suc k) others)))
    ]

-- a vertex by itself
chosen : (b : Bool) (p q : Result Views WireFault) → (if b then p else with_read q (λ more. Ok more)) ≡ (if b then p else q)
chosen true p q = refl
chosen false p q = read_on q

pub opened_one : (above : List ℕ) (k : ℕ) (informees contents : Leaf) (subviews : Vertices) (so_far : Views) → opened_after above k (one_vertex (Inner informees contents subviews)) so_far ≡ inner_opened (above ++ k ∷ []) informees contents subviews so_far
opened_one above k informees contents subviews so_far = chosen (is_open informees contents) _ (opened_after (above ++ k ∷ []) 0 subviews so_far)

-- one vertex, and then those after it
opened_with : (above : List ℕ) (k : ℕ) (v : Vertex) (rest : Vertices) (so_far : Views)
    → opened_after above k (with_vertex v rest) so_far ≡ with_read (opened_after above k (one_vertex v) so_far) (λ more. opened_after above (suc k) rest more)
opened_with above k (Blind hash) rest so_far = refl
opened_with above k (Inner informees contents subviews) rest so_far =
    let path = above ++ k ∷ [] in
    elim (cases_Bool (is_open informees contents)) [
      | inl both ↦ rw both (sym (read_then (view_read informees contents subviews) _ _))
      | inr not_both ↦ rw not_both
          (ap (λ (p : Result Views WireFault). with_read p (λ more. opened_after above (suc k) rest more)) (sym (read_on (opened_after path 0 subviews so_far))))
    ]

opened_at : (vs : List Vertex) (above : List ℕ) (i : ℕ) (v : Vertex) (so_far : Views) → i < length vs → v ≡ get_or vs i v
    → opened_after above i (vertices_of (drop i vs)) so_far ≡ with_read (opened_after above i (one_vertex v) so_far) (λ more. opened_after above (suc i) (vertices_of (drop (i + 1) vs)) more)
opened_at vs above i v so_far h at = ap (λ (w : Vertices). opened_after above i w so_far) (next_vertex vs i v h at) ∙ opened_with above i v (vertices_of (drop (i + 1) vs)) so_far

pub opened_step : (vs : List Vertex) (above : List ℕ) (i : ℕ) (v : Vertex) (so_far new : Views) (all : Result Views WireFault) → i < length vs → v ≡ get_or vs i v
    → opened_after above i (one_vertex v) so_far ≡ Ok new → opened_after above i (vertices_of (drop i vs)) so_far ≡ all → opened_after above (i + 1) (vertices_of (drop (i + 1) vs)) new ≡ all
opened_step vs above i v so_far new all h at one before =
    let k : i + 1 ≡ suc i = omega arith in
    ap (λ (n : ℕ). opened_after above n (vertices_of (drop (i + 1) vs)) new) k
    ∙ (sym (opened_at vs above i v so_far h at ∙ ap (λ (p : Result Views WireFault). with_read p (λ more. opened_after above (suc i) (vertices_of (drop (i + 1) vs)) more)) one) ∙ before)

pub opened_fault : (vs : List Vertex) (above : List ℕ) (i : ℕ) (v : Vertex) (so_far : Views) (all : Result Views WireFault) (e : WireFault) → i < length vs → v ≡ get_or vs i v
    → opened_after above i (one_vertex v) so_far ≡ Err e → opened_after above i (vertices_of (drop i vs)) so_far ≡ all → all ≡ Err e
opened_fault vs above i v so_far all e h at one before =
    sym before ∙ (opened_at vs above i v so_far h at ∙ ap (λ (p : Result Views WireFault). with_read p (λ more. opened_after above (suc i) (vertices_of (drop (i + 1) vs)) more)) one)

-- ---- trees

abbrev opened_so : List ℕ × ℕ → Option (List (List ℕ)) → Result Views WireFault → Result OpenedTree WireFault
opened_so head requesters p = with_read p (λ views. Ok (record { sender = head.0; ledger_time = head.1; requesters = requesters; views = views }))

opened_views : (tree : Tree) → opened_after [] 0 tree.views [] ≡ views_opened [] 0 tree.views
opened_views tree = opened_behind [] 0 tree.views [] ∙ read_on (views_opened [] 0 tree.views)

tree_parts : (tree : Tree) (head : List ℕ × ℕ) (requesters : Option (List (List ℕ))) → read_leaf head_at tree.common ≡ Ok head → read_if_plain set_at tree.requesters ≡ Ok requesters
    → tree_opened tree ≡ opened_so head requesters (opened_after [] 0 tree.views [])
tree_parts tree head requesters first second = rw (first, second) (ap (opened_so head requesters) (sym (opened_views tree)))

pub opened_tree_fault : (tree : Tree) (head : List ℕ × ℕ) (requesters : Option (List (List ℕ))) (e : WireFault) → read_leaf head_at tree.common ≡ Ok head → read_if_plain set_at tree.requesters ≡ Ok requesters
    → opened_after [] 0 tree.views [] ≡ Err e → tree_opened tree ≡ Err e
opened_tree_fault tree head requesters e first second fault = tree_parts tree head requesters first second ∙ ap (opened_so head requesters) fault

pub opened_tree : (tree : Tree) (head : List ℕ × ℕ) (requesters : Option (List (List ℕ))) (views : Views) → read_leaf head_at tree.common ≡ Ok head → read_if_plain set_at tree.requesters ≡ Ok requesters
    → opened_after [] 0 tree.views [] ≡ Ok views → tree_opened tree ≡ Ok (record { sender = head.0; ledger_time = head.1; requesters = requesters; views = views })
opened_tree tree head requesters views first second all = tree_parts tree head requesters first second ∙ ap (opened_so head requesters) all
