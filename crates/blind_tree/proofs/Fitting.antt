-- What a list of views, children or vertices is asked, where there is room for each.
use Rattle.std.proofs.Common.{ℕ, List, arith}
use Rattle.view_split.specs.CoreLists.{children_of}
use Rattle.ledger_terms.specs.Grown.{forest_of}
use Rattle.view_split.specs.declared.core_node.CoreChild.{CoreChild}
use Rattle.view_split.specs.ViewTrees.{View}
use Rattle.blind_tree.specs.Cores.{AreSpellableChildren}
use Rattle.blind_tree.specs.LeafBytes.{AreSpellableViews}
use Rattle.blind_tree.specs.InRange.{FitLevels, AreSpellable, IsSpellableTree}
use Rattle.blind_tree.specs.Vertices.{Vertices, NoVertices, BlindVertex, InnerVertex, AreNarrow, IsNarrow}
use Rattle.blind_tree.specs.VertexLists.{vertices_of}
use Rattle.blind_tree.specs.declared.vertex.Vertex.{Vertex}
use Rattle.blind_tree.specs.declared.tree.Tree.{Tree}

abbrev pub AllViews : List View → Type 0
AllViews vs = AreSpellableViews (forest_of vs)

abbrev pub AllChildren : List CoreChild → Type 0
AllChildren cs = AreSpellableChildren (children_of cs)

abbrev pub AllVertices : ℕ → List Vertex → Type 0
AllVertices levels vs = FitLevels levels (vertices_of vs)

narrow_vertices : (v : Vertices) → AreSpellable v → AreNarrow v
narrow_vertices NoVertices h = tt
narrow_vertices (BlindVertex hash others) h = narrow_vertices others h
narrow_vertices (InnerVertex informees contents subviews others) h = (omega (arith, h.2), narrow_vertices subviews h.3, narrow_vertices others h.4)

-- a tree that has room in a spelling has few vertices side by side
pub narrow_tree : (tree : Tree) → IsSpellableTree tree → IsNarrow tree.views
narrow_tree tree h = (omega (arith, h.few), narrow_vertices tree.views h.vertices)
