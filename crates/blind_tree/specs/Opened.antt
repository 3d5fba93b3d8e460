-- Views that are opened, put behind those before them.
use Rattle.std.specs.Prelude.{ℕ, suc, List, [], ◌∷◌, ◌++◌, Result, Ok, Err, if◌then◌else◌}
use Rattle.ledger_terms.specs.Forest.{Forest, join}
use Rattle.wire_form.specs.declared.wire_fault.WireFault.{WireFault}
use Rattle.wire_form.specs.declared.wire_fault.WireFault.TheVariants.{Bad}
use Rattle.view_split.specs.declared.split_view.SplitView.{SplitView}
use Rattle.ledger_terms.specs.Grown.{tree_of}
use Rattle.view_split.specs.ViewTrees.{View}
use Rattle.view_split.specs.declared.placed_view.PlacedView.{PlacedView}
use Rattle.blind_tree.specs.Vertices.{Vertices, NoVertices, BlindVertex, InnerVertex}
use Rattle.blind_tree.specs.Opening.{with_read, view_read, is_open, placed}
use Rattle.blind_tree.specs.declared.leaf.Leaf.{Leaf}
use Rattle.blind_tree.specs.declared.vertex.Vertex.{Vertex}
use Rattle.blind_tree.specs.declared.vertex.Vertex.TheVariants as vertices

-- The view of a vertex with all views below it. Err is at place 0 where it, a vertex below it or a leaf of one shows its hash alone; at a place in a
-- leaf's bytes that can't be read; or at the end of a core's bytes where its holes are more or fewer than the vertices directly below.
abbrev pub vertex_read : Vertex → Result View WireFault
vertex_read (vertices.Blind hash) = Err (Bad 0)
vertex_read (vertices.Inner informees contents subviews) = view_read informees contents subviews

-- The views `so_far`, and behind them those of these vertices with all below them; Err (Bad) where one shows its hash alone or can't be read. It is
-- what a loop has at each turn.
abbrev pub views_after : Vertices → Forest SplitView → Result (Forest SplitView) WireFault
views_after NoVertices so_far = Ok so_far
views_after (BlindVertex hash others) so_far = Err (Bad 0)
views_after (InnerVertex informees contents subviews others) so_far =
    with_read (view_read informees contents subviews) (λ view. views_after others (join so_far (tree_of view)))

-- The views `so_far`, and behind them the topmost of these vertices whose two leaves show their bytes, each read with all below it; Err (Bad) where one
-- can't be read. The first vertex is number k below the path `above`.
abbrev pub opened_after : List ℕ → ℕ → Vertices → List PlacedView → Result (List PlacedView) WireFault
opened_after above k NoVertices so_far = Ok so_far
opened_after above k (BlindVertex hash others) so_far = opened_after above (suc k) others so_far
opened_after above k (InnerVertex informees contents subviews others) so_far =
    if is_open informees contents
    then with_read (view_read informees contents subviews) (λ view. opened_after above (suc k) others (so_far ++ placed (above ++ k ∷ []) view ∷ []))
    else with_read (opened_after (above ++ k ∷ []) 0 subviews so_far) (λ more. opened_after above (suc k) others more)

-- What `opened_after` does with one vertex at this path, given by its two leaves and the vertices below it: the views so far, and behind them its
-- view where both leaves show their bytes, or else the topmost ones opened below it.
abbrev pub inner_opened : List ℕ → (informees contents : Leaf) → Vertices → List PlacedView → Result (List PlacedView) WireFault
inner_opened path informees contents subviews so_far =
    if is_open informees contents
    then with_read (view_read informees contents subviews) (λ view. Ok (so_far ++ placed path view ∷ []))
    else opened_after path 0 subviews so_far
