-- What a list of vertices is seen as.
use Rattle.std.specs.Prelude.{ℕ, ◌+◌, List, [], ◌∷◌}
use Rattle.blind_tree.specs.Vertices.{Vertices, NoVertices, BlindVertex, InnerVertex}
use Rattle.blind_tree.specs.declared.vertex.Vertex.{Vertex}
use Rattle.blind_tree.specs.declared.vertex.Vertex.TheVariants.{Blind, Inner}

-- the vertex with the others side by side behind it
abbrev pub with_vertex : Vertex → Vertices → Vertices
with_vertex (Blind hash) others = BlindVertex hash others
with_vertex (Inner informees contents subviews) others = InnerVertex informees contents subviews others

-- the vertices that the program has as a list, as definitions see them: side by side, in order
abbrev pub vertices_of : List Vertex → Vertices
vertices_of [] = NoVertices
vertices_of (v ∷ vs) = with_vertex v (vertices_of vs)

-- the one vertex as vertices side by side, with none behind it
abbrev pub one_vertex : Vertex → Vertices
one_vertex v = with_vertex v NoVertices

-- how many vertices there are, those below counted; a measure by which walks over a tree end
abbrev pub vertex_count : Vertices → ℕ
vertex_count NoVertices = 0
vertex_count (BlindVertex hash others) = 1 + vertex_count others
vertex_count (InnerVertex informees contents subviews others) = 1 + vertex_count subviews + vertex_count others
