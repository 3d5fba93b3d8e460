-- What stands below a vertex is less than the list that holds it.
use Rattle.std.specs.Prelude.{◌≤◌, List, [], ◌∷◌, max}
use Rattle.std.proofs.Common.{arith}
use denote.Param.Weighed.{most}
use Rattle.blind_tree.specs.VertexLists.{vertices_of, vertex_count}
use Rattle.blind_tree.specs.declared.vertex.Vertex.{Vertex}
use Rattle.blind_tree.specs.declared.vertex.Vertex.TheVariants.{Blind, Inner}
use Rattle.blind_tree.specs.declared.vertex.VertexList.TheInside.{Inside}
use Rattle.blind_tree.specs.declared.vertex.VertexList.TheDeep.{deep-Vertex, deep-VertexList}

most_le : (vs : List Vertex) → max (most deep-Vertex vs) 0 ≤ vertex_count (vertices_of vs)
most_le [] = omega arith
most_le (Blind hash ∷ vs) = omega (arith, most_le vs)
most_le (Inner informees contents subviews ∷ vs) = omega (arith, most_le vs)

pub falls : (l : Inside) → deep-VertexList l ≤ vertex_count (vertices_of l.vertices.items)
falls l = most_le l.vertices.items
