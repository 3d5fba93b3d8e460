use Rattle.blind_tree.specs.VertexLists.{vertex_count}
use Rattle.view_picture.proofs.vertices.+put_vertices.Given as goal

abbrev pub decreases-put_vertices : goal.decreases-put_vertices
decreases-put_vertices l = vertex_count l.vertices.now
