-- The reading of cores. In one core actions stand on 16 levels at most, as in a transaction: below an action on the last of
-- them stand holes alone.
use Rattle.std.specs.Prelude.{ℕ, zero, suc, List, length, Result, Ok, Err}
use Rattle.ledger_terms.specs.declared.act.Act.{Act}
use Rattle.ledger_terms.specs.declared.action.Action.{Action}
use Rattle.wire_form.specs.Formats.{◌>>=◌, Reading, both_at, seen_at, counted_at, any_item}
use Rattle.wire_form.specs.Fields.{byte_at, count_at, hash_at}
use Rattle.wire_form.specs.Reading.{action_at}
use Rattle.view_split.specs.Holed.{Holed}
use Rattle.view_split.specs.CoreLists.{children_of}
use Rattle.view_split.specs.declared.core_node.CoreNode.{CoreNode}
use Rattle.view_split.specs.declared.core_node.CoreChild.{CoreChild}
use Rattle.view_split.specs.declared.core_node.CoreChild.TheVariants.{Inner, Hole}

-- The parts of a core in the order in which they are read: the seed of its first action, that action, and what stands below it.
abbrev pub NodeParts : Type 0
NodeParts = (List ℕ × Action) × Holed Act

-- a core made of its parts
abbrev pub node_of : NodeParts → CoreNode
node_of parts = record { seed = parts.0.0; action = parts.0.1; children = parts.1 }

-- The reading of a count of at most 63 and then of so many children, where `child` reads one of them.
abbrev pub children_with : Reading CoreChild → Reading (Holed Act)
children_with child = seen_at children_of (counted_at (count_at 63) any_item child)

-- The reading of a seed, an action and its children, where `child` reads a child.
abbrev pub node_with : Reading CoreChild → Reading CoreNode
node_with child = seen_at node_of (both_at (both_at hash_at action_at) (children_with child))

-- Reads what follows the tag of a child in `rest`: behind 0 an action, by `node`; behind 1, a hole, nothing. Any other tag is a fault at `here`, how
-- many bytes were left before it.
unfoldable pub tagged_child_at : Reading CoreNode → ℕ → List ℕ → ℕ → Result (CoreChild × List ℕ) ℕ
tagged_child_at node zero rest here = seen_at Inner node rest
tagged_child_at node (suc zero) rest here = Ok (Hole, rest)
tagged_child_at node (suc (suc n)) rest here = Err here

-- Reads what follows the tag of a child where no level is left for an action: behind 1, a hole, nothing. Any other tag is a fault at `here`, how many
-- bytes were left before it.
unfoldable pub tagged_hole_at : ℕ → List ℕ → ℕ → Result (CoreChild × List ℕ) ℕ
tagged_hole_at zero rest here = Err here
tagged_hole_at (suc zero) rest here = Ok (Hole, rest)
tagged_hole_at (suc (suc n)) rest here = Err here

-- the reading of a child that has to be a hole
unfoldable pub hole_at : Reading CoreChild
hole_at bytes = byte_at bytes >>= λ tag. tagged_hole_at tag.0 tag.1 (length bytes)

-- the reading of a child, in which actions stand on so many levels at most
unfoldable pub child_at : ℕ → Reading CoreChild
child_at zero bytes = hole_at bytes
child_at (suc levels) bytes = byte_at bytes >>= λ tag. tagged_child_at (node_with (child_at levels)) tag.0 tag.1 (length bytes)

-- the reading of an action's children, in which actions stand on so many levels at most
unfoldable pub children_at : ℕ → Reading (Holed Act)
children_at levels = children_with (child_at levels)

-- the reading of an action with its seed and children, which have so many levels at most
unfoldable pub node_at : ℕ → Reading CoreNode
node_at levels = node_with (child_at levels)

-- the reading of a core: its first action stands on the first of 16 levels
unfoldable pub core_at : Reading CoreNode
core_at = node_at 15
