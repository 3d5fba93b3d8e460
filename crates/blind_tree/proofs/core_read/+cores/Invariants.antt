use Rattle.std.proofs.Common.{◌≡◌, ◌+◌, ◌-◌, ◌*◌, []}
use Rattle.wire_form.specs.Formats.{any_item, items_at}
use Rattle.blind_tree.specs.CoreReading.{child_at}
use Rattle.blind_tree.proofs.core_read.+cores.Given as goal

-- each call of the cycle within a level, and then the level
abbrev pub decreases-read_child : goal.decreases-read_child
decreases-read_child l = 6 * l.levels

abbrev pub decreases-read_next : goal.decreases-read_next
decreases-read_next l = 6 * l.levels + 1

abbrev pub decreases-read_counted : goal.decreases-read_counted
decreases-read_counted l = 6 * l.levels + 2

abbrev pub decreases-read_children : goal.decreases-read_children
decreases-read_children l = 6 * l.levels + 3

abbrev pub decreases-read_node : goal.decreases-read_node
decreases-read_node l = 6 * l.levels + 4

abbrev pub decreases-read_tagged_child : goal.decreases-read_tagged_child
decreases-read_tagged_child l = 6 * l.levels + 5

-- what is still to come, behind what is there, is the whole
abbrev pub invariant-read_counted-loop : goal.invariant-read_counted-loop
invariant-read_counted-loop l =
    items_at any_item (child_at l.levels) (l.count - l.counter) l.children l.reader ≡ items_at any_item (child_at l.levels) l.count [] l.fn.reader
