-- Views that are opened where they are listed, put behind those before them.
use Rattle.std.specs.Prelude.{ℕ, suc, Bool, ◌||◌, List, [], ◌∷◌, ◌++◌, Result, Ok, if◌then◌else◌}
use Rattle.wire_form.specs.declared.wire_fault.WireFault.{WireFault}
use Rattle.view_split.specs.declared.placed_view.PlacedView.{PlacedView}
use Rattle.blind_tree.specs.Vertices.{Vertices, NoVertices, BlindVertex, InnerVertex}
use Rattle.blind_tree.specs.Opening.{placed, view_read, with_read}
use Rattle.blind_tree.specs.OpenedFor.{are_listed, is_end, missing, stands_at}
use Rattle.blind_tree.specs.declared.vertex.Vertex.{Vertex}
use Rattle.blind_tree.specs.declared.vertex.Vertex.TheVariants as vertices
use Rattle.blind_tree.specs.declared.leaf.Leaf.{Leaf}

-- `so_far`, and behind it the topmost of these vertices whose paths are `listed`, each read with all below it. The first is number k below the path
-- `above`. Err (Bad) where a listed one is blinded or can't be read, or one below it isn't listed. It is what a loop has at each turn.
abbrev pub listed_after : (List ℕ → Bool) → List ℕ → ℕ → Vertices → List PlacedView → Result (List PlacedView) WireFault
listed_after listed above k NoVertices so_far = Ok so_far
listed_after listed above k (BlindVertex hash others) so_far =
    if listed (above ++ k ∷ []) then missing else listed_after listed above (suc k) others so_far
listed_after listed above k (InnerVertex informees contents subviews others) so_far =
    if listed (above ++ k ∷ [])
    then (if are_listed listed (above ++ k ∷ []) 0 subviews
    then with_read (view_read informees contents subviews) (λ view.
    listed_after listed above (suc k) others (so_far ++ placed (above ++ k ∷ []) view ∷ []))
    else missing)
    else with_read (listed_after listed (above ++ k ∷ []) 0 subviews so_far) (λ more. listed_after listed above (suc k) others more)

-- What `listed_after` does with one vertex at this path, given by its two leaves and the vertices below it: `so_far`, and behind it the view where
-- the path is listed, or else the topmost listed ones below. It is missing where a view below a listed one isn't listed.
abbrev pub inner_listed : (List ℕ → Bool) → List ℕ → (informees contents : Leaf) → Vertices → List PlacedView → Result (List PlacedView) WireFault
inner_listed listed path informees contents subviews so_far =
    if listed path
    then (if are_listed listed path 0 subviews
    then with_read (view_read informees contents subviews) (λ view. Ok (so_far ++ placed path view ∷ []))
    else missing)
    else listed_after listed path 0 subviews so_far

-- whether `rest`, what is left of a path once it has come to this vertex, leads to it or to a vertex below it
abbrev pub stands_in : Vertex → List ℕ → Bool
stands_in (vertices.Blind hash) rest = is_end rest
stands_in (vertices.Inner informees contents subviews) rest = is_end rest || stands_at 0 subviews rest
