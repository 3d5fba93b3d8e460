-- What is opened of vertices one after another, where it is listed, is what is opened of all.
use Rattle.std.proofs.Common.{◌≡◌, ℕ, zero, suc, ◌+◌, ◌<◌, ◌≤◌, Bool, true, false, List, [], ◌∷◌, ◌++◌, length, get_or, drop, Option, Result, Ok, Err, refl, sym, ap, ◌∙◌, append_assoc, append-nil, arith, inl, inr}
use Rattle.std.specs.Prelude.{◌&&◌, nat_eq, ⊤}
use Rattle.std.specs.List.{list_all}
use Rattle.ledger_terms.specs.Answers.{check}
use Rattle.std.proofs.lemmas.Bool.{cases_Bool}
use Rattle.std.proofs.lemmas.Bool.Decides.{Decides-eqb}
use Rattle.wire_form.specs.declared.wire_fault.WireFault.{WireFault}
use Rattle.view_split.specs.ViewTrees.{View}
use Rattle.view_split.specs.declared.placed_view.PlacedView.{PlacedView}
use Rattle.view_split.specs.declared.opened_tree.OpenedTree.{OpenedTree}
use Rattle.blind_tree.specs.Vertices.{Vertices, NoVertices, BlindVertex, InnerVertex}
use Rattle.blind_tree.specs.VertexLists.{vertices_of, with_vertex, one_vertex}
use Rattle.blind_tree.specs.ListedAfter.{inner_listed, listed_after, stands_in}
use Rattle.blind_tree.specs.OpenedFor.{are_listed, is_listed, opened_by, opened_of_views, requesters_if, stands_at, views_listed}
use Rattle.blind_tree.specs.Opening.{head_at, placed, read_leaf, view_read, with_read}
use Rattle.blind_tree.specs.declared.tree.Tree.{Tree}
use Rattle.wire_form.specs.declared.wire_fault.WireFault.TheVariants.{Bad}
use Rattle.blind_tree.specs.declared.leaf.Leaf.{Leaf}
use Rattle.blind_tree.specs.declared.vertex.Vertex.{Vertex}
use Rattle.blind_tree.specs.declared.vertex.Vertex.TheVariants.{Blind, Inner}
use Rattle.blind_tree.proofs.Grow.{next_vertex}
use Rattle.blind_tree.proofs.ToldLaws.{read_same, read_then, read_on}

abbrev Views : Type 0
Views = List PlacedView

-- one view and those after it
one_more : (so_far : Views) (path : List ℕ) (view : View) (q : Result Views WireFault)
    → with_read q (λ ys. Ok ((so_far ++ placed path view ∷ []) ++ ys)) ≡ with_read (with_read q (λ ys. Ok (placed path view ∷ ys))) (λ xs. Ok (so_far ++ xs))
one_more so_far path view (Err e) = refl
one_more so_far path view (Ok ys) = ap (λ (xs : Views). Ok xs) (append_assoc so_far (placed path view ∷ []) ys)

-- those of one list and those of the next
two_more : (so_far : Views) (p q : Result Views WireFault)
    → with_read (with_read p (λ xs. Ok (so_far ++ xs))) (λ more. with_read q (λ ys. Ok (more ++ ys))) ≡ with_read (with_read p (λ xs. with_read q (λ ys. Ok (xs ++ ys)))) (λ xs. Ok (so_far ++ xs))
two_more so_far (Err e) q = refl
two_more so_far (Ok xs) (Err e) = refl
two_more so_far (Ok xs) (Ok ys) = ap (λ (zs : Views). Ok zs) (append_assoc so_far xs ys)

-- a test of one bit and the rest
and_true : (b : Bool) → (b && true) ≡ b
and_true true = refl
and_true false = refl

module _ (listed : List ℕ → Bool) where
  pub listed_behind : (above : List ℕ) (k : ℕ) (v : Vertices) (so_far : Views) → listed_after listed above k v so_far ≡ with_read (views_listed listed above k v) (λ xs. Ok (so_far ++ xs))
  listed_behind above k NoVertices so_far = ap (λ (xs : Views). Ok xs) (sym (append-nil so_far))
  listed_behind above k (BlindVertex hash others) so_far =
      elim (cases_Bool (listed (above ++ k ∷ []))) [
        | inl is ↦ rw is refl
        | inr out ↦ rw out (listed_behind above (suc k) others so_far)
      ]
  listed_behind above k (InnerVertex informees contents subviews others) so_far =
      let path = above ++ k ∷ [] in
      elim (cases_Bool (listed path)) [
        | inl is ↦ elim (cases_Bool (are_listed listed path 0 subviews)) [
          | inl all ↦ rw (is, all)
              (read_same (view_read informees contents subviews) _ _ (λ view. listed_behind above (suc k) others (so_far ++ placed path view ∷ []) ∙ one_more so_far path view (views_listed listed above (suc k) others))
              ∙ sym (read_then (view_read informees contents subviews) _ _))
          | inr some ↦ rw (is, some) refl
        ]
        | inr out ↦ rw out
            (ap (λ (p : Result Views WireFault). with_read p (λ more. listed_after listed above (suc k) others more)) (listed_behind path 0 subviews so_far)
            ∙ (read_same (with_read (views_listed listed path 0 subviews) (λ xs. Ok (so_far ++ xs))) _ _ (λ more. listed_behind above (suc k) others more)
            ∙ two_more so_far (views_listed listed path 0 subviews) (views_listed listed above (suc k) others)))
      ]

  pub listed_start : (v : Vertices) → listed_after listed [] 0 v [] ≡ views_listed listed [] 0 v
  listed_start v = listed_behind [] 0 v [] ∙ read_on (views_listed listed [] 0 v)

  -- a vertex by itself
  pub listed_one : (above : List ℕ) (k : ℕ) (informees contents : Leaf) (subviews : Vertices) (so_far : Views)
      → listed_after listed above k (one_vertex (Inner informees contents subviews)) so_far ≡ inner_listed listed (above ++ k ∷ []) informees contents subviews so_far
  listed_one above k informees contents subviews so_far =
      let path = above ++ k ∷ [] in
      elim (cases_Bool (listed path)) [
        | inl is ↦ rw is refl
        | inr out ↦ rw out (read_on (listed_after listed path 0 subviews so_far))
      ]

  -- one vertex, and then those after it
  listed_with : (above : List ℕ) (k : ℕ) (v : Vertex) (rest : Vertices) (so_far : Views)
      → listed_after listed above k (with_vertex v rest) so_far ≡ with_read (listed_after listed above k (one_vertex v) so_far) (λ more. listed_after listed above (suc k) rest more)
  listed_with above k (Blind hash) rest so_far =
      elim (cases_Bool (listed (above ++ k ∷ []))) [
        | inl is ↦ rw is refl
        | inr out ↦ rw out refl
      ]
  listed_with above k (Inner informees contents subviews) rest so_far =
      let path = above ++ k ∷ [] in
      elim (cases_Bool (listed path)) [
        | inl is ↦ elim (cases_Bool (are_listed listed path 0 subviews)) [
          | inl all ↦ rw (is, all) (sym (read_then (view_read informees contents subviews) _ _))
          | inr some ↦ rw (is, some) refl
        ]
        | inr out ↦ rw out
            (ap (λ (p : Result Views WireFault). with_read p (λ more. listed_after listed above (suc k) rest more)) (sym (read_on (listed_after listed path 0 subviews so_far))))
      ]

  listed_at : (vs : List Vertex) (above : List ℕ) (i : ℕ) (v : Vertex) (so_far : Views) → i < length vs → v ≡ get_or vs i v
      → listed_after listed above i (vertices_of (drop i vs)) so_far ≡ with_read (listed_after listed above i (one_vertex v) so_far) (λ more. listed_after listed above (suc i) (vertices_of (drop (i + 1) vs)) more)
  listed_at vs above i v so_far h at = ap (λ (w : Vertices). listed_after listed above i w so_far) (next_vertex vs i v h at) ∙ listed_with above i v (vertices_of (drop (i + 1) vs)) so_far

  pub listed_step : (vs : List Vertex) (above : List ℕ) (i : ℕ) (v : Vertex) (so_far new : Views) (all : Result Views WireFault) → i < length vs → v ≡ get_or vs i v
      → listed_after listed above i (one_vertex v) so_far ≡ Ok new → listed_after listed above i (vertices_of (drop i vs)) so_far ≡ all → listed_after listed above (i + 1) (vertices_of (drop (i + 1) vs)) new ≡ all
  listed_step vs above i v so_far new all h at one before =
      let k : i + 1 ≡ suc i = omega arith in
      ap (λ (n : ℕ). listed_after listed above n (vertices_of (drop (i + 1) vs)) new) k
      ∙ (sym (listed_at vs above i v so_far h at ∙ ap (λ (p : Result Views WireFault). with_read p (λ more. listed_after listed above (suc i) (vertices_of (drop (i + 1) vs)) more)) one) ∙ before)

  pub listed_fault : (vs : List Vertex) (above : List ℕ) (i : ℕ) (v : Vertex) (so_far : Views) (all : Result Views WireFault) (e : WireFault) → i < length vs → v ≡ get_or vs i v
      → listed_after listed above i (one_vertex v) so_far ≡ Err e → listed_after listed above i (vertices_of (drop i vs)) so_far ≡ all → all ≡ Err e
  listed_fault vs above i v so_far all e h at one before =
      sym before ∙ (listed_at vs above i v so_far h at ∙ ap (λ (p : Result Views WireFault). with_read p (λ more. listed_after listed above (suc i) (vertices_of (drop (i + 1) vs)) more)) one)

  -- ---- whether all are listed

  pub each_one : (above : List ℕ) (k : ℕ) (informees contents : Leaf) (subviews : Vertices)
      → are_listed listed above k (one_vertex (Inner informees contents subviews)) ≡ (listed (above ++ k ∷ []) && are_listed listed (above ++ k ∷ []) 0 subviews)
  each_one above k informees contents subviews = ap (λ (b : Bool). listed (above ++ k ∷ []) && b) (and_true (are_listed listed (above ++ k ∷ []) 0 subviews))

  each_with : (above : List ℕ) (k : ℕ) (v : Vertex) (rest : Vertices)
      → are_listed listed above k (with_vertex v rest) ≡ (are_listed listed above k (one_vertex v) && are_listed listed above (suc k) rest)
  each_with above k (Blind hash) rest = elim (cases_Bool (listed (above ++ k ∷ []))) [ inl is ↦ rw is refl | inr out ↦ rw out refl ]
  each_with above k (Inner informees contents subviews) rest =
      elim (cases_Bool (listed (above ++ k ∷ []))) [
        | inl is ↦ elim (cases_Bool (are_listed listed (above ++ k ∷ []) 0 subviews)) [ inl all ↦ rw (is, all) refl | inr some ↦ rw (is, some) refl ]
        | inr out ↦ rw out refl
      ]

  each_at : (vs : List Vertex) (above : List ℕ) (i : ℕ) (v : Vertex) → i < length vs → v ≡ get_or vs i v
      → are_listed listed above i (vertices_of (drop i vs)) ≡ (are_listed listed above i (one_vertex v) && are_listed listed above (suc i) (vertices_of (drop (i + 1) vs)))
  each_at vs above i v h at = ap (λ (w : Vertices). are_listed listed above i w) (next_vertex vs i v h at) ∙ each_with above i v (vertices_of (drop (i + 1) vs))

  -- the next is listed, and so are all where those after it are
  pub each_step : (vs : List Vertex) (above : List ℕ) (i : ℕ) (v : Vertex) (all : Bool) → i < length vs → v ≡ get_or vs i v
      → are_listed listed above i (one_vertex v) ≡ true → are_listed listed above i (vertices_of (drop i vs)) ≡ all → are_listed listed above (i + 1) (vertices_of (drop (i + 1) vs)) ≡ all
  each_step vs above i v all h at one before =
      let k : i + 1 ≡ suc i = omega arith in
      ap (λ (n : ℕ). are_listed listed above n (vertices_of (drop (i + 1) vs))) k
      ∙ (sym (each_at vs above i v h at ∙ ap (λ (b : Bool). b && are_listed listed above (suc i) (vertices_of (drop (i + 1) vs))) one) ∙ before)

  pub each_out : (vs : List Vertex) (above : List ℕ) (i : ℕ) (v : Vertex) (all : Bool) → i < length vs → v ≡ get_or vs i v
      → are_listed listed above i (one_vertex v) ≡ false → are_listed listed above i (vertices_of (drop i vs)) ≡ all → all ≡ false
  each_out vs above i v all h at one before =
      sym before ∙ (each_at vs above i v h at ∙ ap (λ (b : Bool). b && are_listed listed above (suc i) (vertices_of (drop (i + 1) vs))) one)

-- ---- whether a vertex stands at a path

same_number : (k : ℕ) → nat_eq k k ≡ true
same_number k = (Decides-eqb k k).1 refl

other_number : (j k : ℕ) → (j ≡ k → ⊥) → nat_eq j k ≡ false
other_number j k differ = elim (cases_Bool (nat_eq j k)) [ inl is ↦ absurd (differ ((Decides-eqb j k).0 is)) | inr out ↦ out ]

pub stands_end : (k : ℕ) (v : Vertices) → stands_at k v [] ≡ false
stands_end k NoVertices = refl
stands_end k (BlindVertex hash others) = refl
stands_end k (InnerVertex informees contents subviews others) = refl

pub stands_none : (v : Vertices) (path : List ℕ) → length path < 1 → stands_at 0 v path ≡ false
stands_none v [] l = stands_end 0 v
stands_none v (step ∷ rest) l = absurd (omega (arith, l))

pub stands_past : (vs : List Vertex) (k step : ℕ) (rest : List ℕ) → k + length vs ≤ step → stands_at k (vertices_of vs) (step ∷ rest) ≡ false
stands_past [] k step rest l = refl
stands_past (Blind hash ∷ vs) k step rest l = rw (other_number step k (λ e. omega (arith, l, e))) (stands_past vs (suc k) step rest (omega (arith, l)))
stands_past (Inner informees contents subviews ∷ vs) k step rest l = rw (other_number step k (λ e. omega (arith, l, e))) (stands_past vs (suc k) step rest (omega (arith, l)))

stands_first : (v : Vertex) (k : ℕ) (others : Vertices) (rest : List ℕ) → stands_at k (with_vertex v others) (k ∷ rest) ≡ stands_in v rest
stands_first (Blind hash) k others rest = rw (same_number k) refl
stands_first (Inner informees contents subviews) k others rest = rw (same_number k) refl

stands_later : (v : Vertex) (k step : ℕ) (others : Vertices) (rest : List ℕ) → (step ≡ k → ⊥) → stands_at k (with_vertex v others) (step ∷ rest) ≡ stands_at (suc k) others (step ∷ rest)
stands_later (Blind hash) k step others rest differ = rw (other_number step k differ) refl
stands_later (Inner informees contents subviews) k step others rest differ = rw (other_number step k differ) refl

stands_from : (vs : List Vertex) (k n : ℕ) (v : Vertex) (rest : List ℕ) → n < length vs → v ≡ get_or vs n v → stands_at k (vertices_of vs) ((k + n) ∷ rest) ≡ stands_in v rest
stands_from [] k n v rest l got = absurd (omega (arith, l))
stands_from (x ∷ vs) k zero v rest l got =
    let here : k + 0 ≡ k = omega arith in
    ap (λ (j : ℕ). stands_at k (vertices_of (x ∷ vs)) (j ∷ rest)) here ∙ (stands_first x k (vertices_of vs) rest ∙ ap (λ (y : Vertex). stands_in y rest) (sym got))
stands_from (x ∷ vs) k (suc n) v rest l got =
    let next : suc k + n ≡ k + suc n = omega arith in
    stands_later x k (k + suc n) (vertices_of vs) rest (λ e. omega (arith, e))
    ∙ (ap (λ (j : ℕ). stands_at (suc k) (vertices_of vs) (j ∷ rest)) (sym next) ∙ stands_from vs (suc k) n v rest (omega (arith, l)) got)

pub stands_nth : (vs : List Vertex) (n : ℕ) (v : Vertex) (rest : List ℕ) → n < length vs → v ≡ get_or vs n v → stands_at 0 (vertices_of vs) (n ∷ rest) ≡ stands_in v rest
stands_nth vs n v rest l got =
    let none : n ≡ 0 + n = omega arith in
    ap (λ (j : ℕ). stands_at 0 (vertices_of vs) (j ∷ rest)) none ∙ stands_from vs 0 n v rest l got

-- ---- trees

stand_checked : (b : Bool) (u : ⊤) → check b (Bad 0) ≡ Ok u → b ≡ true
stand_checked true u e = refl
stand_checked false u e = absurd cc

abbrev opened_so : List ℕ × ℕ → Option (List (List ℕ)) → Result Views WireFault → Result OpenedTree WireFault
opened_so head names p = with_read p (λ views. Ok (opened_by head names views))

module _ (seen : List (List ℕ)) (wanted : Bool) (tree : Tree) (head : List ℕ × ℕ) (names : Option (List (List ℕ))) (u : ⊤) where
  tree_parts : check (list_all (stands_at 0 tree.views) seen) (Bad 0) ≡ Ok u → read_leaf head_at tree.common ≡ Ok head → requesters_if wanted tree.requesters ≡ Ok names
      → opened_of_views seen wanted tree ≡ opened_so head names (listed_after (is_listed seen) [] 0 tree.views [])
  tree_parts stand first second =
      let there = stand_checked (list_all (stands_at 0 tree.views) seen) u stand in
      rw (there, first, second) (ap (opened_so head names) (sym (listed_start (is_listed seen) tree.views)))

  pub listed_tree_fault : (e : WireFault) → check (list_all (stands_at 0 tree.views) seen) (Bad 0) ≡ Ok u → read_leaf head_at tree.common ≡ Ok head → requesters_if wanted tree.requesters ≡ Ok names
      → listed_after (is_listed seen) [] 0 tree.views [] ≡ Err e → opened_of_views seen wanted tree ≡ Err e
  listed_tree_fault e stand first second fault = tree_parts stand first second ∙ ap (opened_so head names) fault

  pub listed_tree : (views : Views) → check (list_all (stands_at 0 tree.views) seen) (Bad 0) ≡ Ok u → read_leaf head_at tree.common ≡ Ok head → requesters_if wanted tree.requesters ≡ Ok names
      → listed_after (is_listed seen) [] 0 tree.views [] ≡ Ok views → opened_of_views seen wanted tree ≡ Ok (opened_by head names views)
  listed_tree views stand first second all = tree_parts stand first second ∙ ap (opened_so head names) all
