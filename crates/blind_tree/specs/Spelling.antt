-- The one spelling of each leaf, vertex and tree. Numbers have their high byte first.
use Rattle.std.specs.Prelude.{ℕ, List, [], ◌∷◌, ◌++◌, length}
use Rattle.std.specs.Int.{w16, w32, to_be_bytes}
use Rattle.blind_tree.specs.Vertices.{Vertices, NoVertices, BlindVertex, InnerVertex, count}
use Rattle.blind_tree.specs.declared.leaf.Leaf.{Leaf}
use Rattle.blind_tree.specs.declared.leaf.Leaf.TheVariants.{Blind, Plain}
use Rattle.blind_tree.specs.declared.vertex.Vertex.{Vertex}
use Rattle.blind_tree.specs.declared.vertex.Vertex.TheVariants as vertices
use Rattle.blind_tree.specs.declared.tree.Tree.{Tree}

-- four bytes of length, and then the bytes
abbrev pub spell_bytes : List ℕ → List ℕ
spell_bytes bytes = to_be_bytes w32 (length bytes) ++ bytes

-- The bytes of a leaf: the tag 0 and its hash, or the tag 1, its salt and its bytes with their length.
abbrev pub spell_leaf : Leaf → List ℕ
spell_leaf (Blind hash) = 0 ∷ hash
spell_leaf (Plain salt bytes) = 1 ∷ (salt ++ spell_bytes bytes)

-- The bytes of vertices side by side, without their count: for each its tag, and then its hash, or its leaves and the vertices below it with their
-- count.
abbrev pub spell_each : Vertices → List ℕ
spell_each NoVertices = []
spell_each (BlindVertex hash others) = (0 ∷ hash) ++ spell_each others
spell_each (InnerVertex informees contents subviews others) =
    (1 ∷ (spell_leaf informees ++ spell_leaf contents ++ (to_be_bytes w16 (count subviews) ++ spell_each subviews))) ++ spell_each others

-- two bytes of count, and then the vertices
abbrev pub spell_vertices : Vertices → List ℕ
spell_vertices vertices = to_be_bytes w16 (count vertices) ++ spell_each vertices

-- the bytes of one vertex
abbrev pub spell_vertex : Vertex → List ℕ
spell_vertex (vertices.Blind hash) = 0 ∷ hash
spell_vertex (vertices.Inner informees contents subviews) = 1 ∷ (spell_leaf informees ++ spell_leaf contents ++ spell_vertices subviews)

-- The bytes of a tree: its common leaf, its requesters leaf and its vertices.
abbrev pub spell_tree : Tree → List ℕ
spell_tree tree = spell_leaf tree.common ++ spell_leaf tree.requesters ++ spell_vertices tree.views
