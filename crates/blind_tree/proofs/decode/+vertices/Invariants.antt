use Rattle.std.proofs.Common.{◌≡◌, ◌+◌, ◌-◌, ◌*◌, []}
use Rattle.wire_form.specs.Formats.{any_item, items_at}
use Rattle.blind_tree.specs.Reading.{vertex_at}
use Rattle.blind_tree.proofs.decode.+vertices.Given as goal

-- each call of the cycle within a level, and then the level
abbrev pub decreases-read_vertex : goal.decreases-read_vertex
decreases-read_vertex l = 5 * l.levels

abbrev pub decreases-read_next : goal.decreases-read_next
decreases-read_next l = 5 * l.levels + 1

abbrev pub decreases-read_more : goal.decreases-read_more
decreases-read_more l = 5 * l.levels + 2

abbrev pub decreases-read_vertices : goal.decreases-read_vertices
decreases-read_vertices l = 5 * l.levels + 3

abbrev pub decreases-read_tagged_vertex : goal.decreases-read_tagged_vertex
decreases-read_tagged_vertex l = 5 * l.levels + 4

-- what is still to come, behind what is there, is the whole
abbrev pub invariant-read_more-loop : goal.invariant-read_more-loop
invariant-read_more-loop l =
    items_at any_item (vertex_at l.levels) (l.count - l.counter) l.vertices l.reader ≡ items_at any_item (vertex_at l.levels) l.count [] l.fn.reader
