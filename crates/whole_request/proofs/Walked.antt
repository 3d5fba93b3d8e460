-- What is put together over the mediator's vertices is what the definitions say of the views that it is told of.
use Rattle.std.proofs.Common.{◌≡◌, ℕ, zero, suc, ◌+◌, ◌<◌, ◌≤◌, List, [], ◌∷◌, ◌++◌, length, drop, get_or, Option, Some, None, Ok, refl, sym, ap, ◌∙◌, arith}
use Rattle.std.specs.Prelude.{option_and_then, option_map, option_to_list}
use Rattle.std.proofs.lemmas.List.{drop_all}
use Rattle.ledger_terms.specs.Forest.{Forest, NoRoots, Root, join}
use Rattle.ledger_terms.specs.Grown.{tree_of}
use Rattle.ledger_terms.proofs.Grow.{join-assoc, join-end}
use Rattle.view_split.specs.ViewTrees.{View}
use Rattle.view_split.specs.declared.split_view.SplitView.{SplitView}
use Rattle.blind_tree.specs.Leaves.{Sets}
use Rattle.blind_tree.specs.OpenedFor.{is_listed}
use Rattle.blind_tree.specs.Vertices.{Vertices, NoVertices, BlindVertex, InnerVertex}
use Rattle.blind_tree.specs.VertexLists.{one_vertex, vertices_of, with_vertex}
use Rattle.blind_tree.specs.declared.vertex.Vertex.{Vertex}
use Rattle.blind_tree.specs.declared.vertex.Vertex.TheVariants.{Blind, Inner}
use Rattle.blind_tree.proofs.Grow.{next_vertex}
use Rattle.framed_form.specs.Frames.{roles_read}
use Rattle.framed_form.specs.Together.{Part, below_in, first_view, others_in, parts_after, parts_below, view_at, views_together}
use Rattle.framed_form.proofs.Lying.{no_views, same_ok, told_parts}
use Rattle.whole_request.specs.Places.{Shown, from, part_at, parts_at, shown_below, subviews_in, together, with_rest}

-- ---- the vertices from a number on

from_others : (k : ℕ) (v : Vertices) → from k (others_in v) ≡ others_in (from k v)
from_others zero v = refl
from_others (suc k) v = ap others_in (from_others k v)

from_none : (k : ℕ) → from k NoVertices ≡ NoVertices
from_none zero = refl
from_none (suc k) = ap others_in (from_none k)

from_next : (v : Vertex) (rest : Vertices) (k : ℕ) → from (suc k) (with_vertex v rest) ≡ from k rest
from_next (Blind hash) rest k = sym (from_others k (BlindVertex hash rest))
from_next (Inner informees contents subviews) rest k = sym (from_others k (InnerVertex informees contents subviews rest))

pub from_is : (vs : List Vertex) (k : ℕ) → from k (vertices_of vs) ≡ vertices_of (drop k vs)
from_is [] zero = refl
from_is [] (suc k) = from_none (suc k)
from_is (v ∷ vs) zero = refl
from_is (v ∷ vs) (suc k) = from_next v (vertices_of vs) k ∙ from_is vs k

first_with : (v : Vertex) (rest : Vertices) → first_view (with_vertex v rest) ≡ first_view (one_vertex v)
first_with (Blind hash) rest = refl
first_with (Inner informees contents subviews) rest = refl

below_with : (v : Vertex) (rest : Vertices) → subviews_in (with_vertex v rest) ≡ subviews_in (one_vertex v)
below_with (Blind hash) rest = refl
below_with (Inner informees contents subviews) rest = refl

module _ (vs : List Vertex) (all : Vertices) (is : vertices_of vs ≡ all) (k : ℕ) where
  here : from k all ≡ vertices_of (drop k vs)
  here = ap (from k) (sym is) ∙ from_is vs k

  past : length vs ≤ k → from k all ≡ NoVertices
  past h = here ∙ ap vertices_of (drop_all k vs h)

  pub view_past : length vs ≤ k → first_view (from k all) ≡ None
  view_past h = ap first_view (past h)

  pub below_past : length vs ≤ k → subviews_in (from k all) ≡ None
  below_past h = ap subviews_in (past h)

  module _ (v : Vertex) (h : k < length vs) (at : v ≡ get_or vs k v) where
    pub view_here : first_view (from k all) ≡ first_view (one_vertex v)
    view_here = ap first_view (here ∙ next_vertex vs k v h at) ∙ first_with v (vertices_of (drop (k + 1) vs))

    pub below_here : subviews_in (from k all) ≡ subviews_in (one_vertex v)
    below_here = ap subviews_in (here ∙ next_vertex vs k v h at) ∙ below_with v (vertices_of (drop (k + 1) vs))

-- ---- one vertex after another

abbrev Views : Type 0
Views = Forest SplitView

abbrev joined : Option Views → Option Views → Option Views
joined None rest = None
joined (Some views) rest = option_map (join views) rest

joined_root : (view : Option SplitView) (below rest : Option Views) → with_rest view below rest ≡ joined (with_rest view below (Some NoRoots)) rest
joined_root None below rest = refl
joined_root (Some view) None rest = refl
joined_root (Some view) (Some below) None = refl
joined_root (Some view) (Some below) (Some rest) = refl

module _ (above : List ℕ) (shown : List Shown) where
  together_with : (k : ℕ) (v : Vertex) (rest : Vertices) → together above k shown (with_vertex v rest) ≡ joined (together above k shown (one_vertex v)) (together above (suc k) shown rest)
  together_with k (Blind hash) rest = refl
  together_with k (Inner informees contents subviews) rest =
      joined_root (view_at (above ++ k ∷ []) (parts_at k shown)) (together (above ++ k ∷ []) 0 (shown_below k shown) subviews) (together above (suc k) shown rest)

  abbrev pub left : (vs : List Vertex) (k : ℕ) → Option Views
  left vs k = together above k shown (vertices_of (drop k vs))

  module _ (vs : List Vertex) (k : ℕ) (v : Vertex) (views : Views) (all : Option Views) (h : k < length vs) (at : v ≡ get_or vs k v)
      (before : option_map (join views) (left vs k) ≡ all) where
    step : left vs k ≡ joined (together above k shown (one_vertex v)) (left vs (k + 1))
    step =
        ap (together above k shown) (next_vertex vs k v h at)
        ∙ (together_with k v (vertices_of (drop (k + 1) vs))
        ∙ ap (λ (n : ℕ). joined (together above k shown (one_vertex v)) (together above n shown (vertices_of (drop (k + 1) vs)))) (omega arith))

    pub together_none : None ≡ together above k shown (one_vertex v) → all ≡ None
    together_none none = sym before ∙ ap (option_map (join views)) (step ∙ ap (λ (o : Option Views). joined o (left vs (k + 1))) (sym none))

    pub together_more : (view : View) (new : Views) → Some (tree_of view) ≡ together above k shown (one_vertex v) → new ≡ join views (tree_of view)
        → option_map (join new) (left vs (k + 1)) ≡ all
    together_more view new one grown =
        ap (λ (f : Views). option_map (join f) (left vs (k + 1))) grown
        ∙ (sym (twice (left vs (k + 1)))
        ∙ (ap (option_map (join views)) (sym (step ∙ ap (λ (o : Option Views). joined o (left vs (k + 1))) (sym one))) ∙ before))
      where
        twice : (rest : Option Views) → option_map (join views) (option_map (join (tree_of view)) rest) ≡ option_map (join (join views (tree_of view))) rest
        twice None = refl
        twice (Some rest) = ap (λ (f : Views). Some f) (sym (join-assoc views (tree_of view) rest))

  pub together_start : (all : Option Views) → option_map (join NoRoots) all ≡ all
  together_start None = refl
  together_start (Some views) = refl

  pub together_end : (vs : List Vertex) (k : ℕ) (views : Views) (all : Option Views) → length vs ≤ k → option_map (join views) (left vs k) ≡ all → Some views ≡ all
  together_end vs k views all h before =
      ap (λ (f : Views). Some f) (sym (join-end views))
      ∙ (ap (λ (v : Vertices). option_map (join views) (together above k shown v)) (sym (ap vertices_of (drop_all k vs h))) ∙ before)

-- ---- the forest that the mediator is told of

after_is : (k : ℕ) (shown : List Shown) → parts_at (suc k) shown ≡ parts_after (parts_at k shown)
after_is k [] = refl
after_is k (one ∷ more) = ap (λ (parts : List Part). part_at (suc k) one ∷ parts) (after_is k more)

below_one : (seen : List (List ℕ)) (v : Vertices) (more : List Shown)
    → parts_at 0 (option_to_list (option_map (λ (subviews : Vertices). (seen, subviews)) (subviews_in v)) ++ more) ≡ below_in (is_listed seen) v ++ parts_at 0 more
below_one seen NoVertices more = refl
below_one seen (BlindVertex hash others) more = refl
below_one seen (InnerVertex informees contents subviews others) more = refl

below_is : (k : ℕ) (shown : List Shown) → parts_at 0 (shown_below k shown) ≡ parts_below (parts_at k shown)
below_is k [] = refl
below_is k (one ∷ more) =
    below_one one.0 (from k one.1) (shown_below k more) ∙ ap (λ (parts : List Part). below_in (is_listed one.0) (from k one.1) ++ parts) (below_is k more)

with_all : (view : Option SplitView) (below rest : Option Views)
    → with_rest view below rest ≡ option_and_then (λ (v : SplitView). option_and_then (λ (b : Views). option_and_then (λ (r : Views). Some (Root v b r)) rest) below) view
with_all None below rest = refl
with_all (Some view) None rest = refl
with_all (Some view) (Some below) None = refl
with_all (Some view) (Some below) (Some rest) = refl

pub together_is : (above : List ℕ) (k : ℕ) (shown : List Shown) (v : Vertices) (f : Forest Sets) → roles_read v ≡ Ok f
    → together above k shown v ≡ views_together above k (parts_at k shown) f
together_is above k shown NoVertices f told = ap (views_together above k (parts_at k shown)) (same_ok NoRoots f told)
together_is above k shown (BlindVertex hash others) f told = absurd cc
together_is above k shown (InnerVertex informees contents subviews others) NoRoots told = absurd (no_views informees contents subviews others told)
together_is above k shown (InnerVertex informees contents subviews others) (Root sets below rest) told =
    let parts = told_parts informees contents subviews others sets below rest told in
    let path = above ++ k ∷ [] in
    let b : together path 0 (shown_below k shown) subviews ≡ views_together path 0 (parts_below (parts_at k shown)) below =
    together_is path 0 (shown_below k shown) subviews below parts.below_is ∙ ap (λ (ps : List Part). views_together path 0 ps below) (below_is k shown) in
    let r : together above (suc k) shown others ≡ views_together above (suc k) (parts_after (parts_at k shown)) rest =
    together_is above (suc k) shown others rest parts.rest_is ∙ ap (λ (ps : List Part). views_together above (suc k) ps rest) (after_is k shown) in
    with_all (view_at path (parts_at k shown)) (together path 0 (shown_below k shown) subviews) (together above (suc k) shown others)
    ∙ (λ i. option_and_then (λ (v : SplitView). option_and_then (λ (x : Views). option_and_then (λ (y : Views). Some (Root v x y)) (r i)) (b i)) (view_at path (parts_at k shown)))
