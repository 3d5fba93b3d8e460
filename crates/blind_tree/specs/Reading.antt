-- The readings of leaves, vertices and trees.
use Rattle.std.specs.Prelude.{ℕ, zero, suc, ◌-◌, List, [], ◌∷◌, length, Result, Ok, Err}
use Rattle.std.specs.Int.{w32}
use Rattle.wire_form.specs.Formats.{◌>>=◌, Reading, both_at, seen_at, counted_at, any_item}
use Rattle.wire_form.specs.Fields.{byte_at, bytes_at, number_at, count_at, hash_at}
use Rattle.wire_form.specs.declared.reader_fault.ReaderFault.{ReaderFault}
use Rattle.wire_form.specs.declared.reader_fault.ReaderFault.TheVariants as faults
use Rattle.wire_form.specs.declared.wire_fault.WireFault.{WireFault}
use Rattle.wire_form.specs.declared.wire_fault.WireFault.TheVariants.{Bad, Memory}
use Rattle.blind_tree.specs.Vertices.{Vertices}
use Rattle.blind_tree.specs.VertexLists.{vertices_of}
use Rattle.blind_tree.specs.declared.leaf.Leaf.{Leaf}
use Rattle.blind_tree.specs.declared.leaf.Leaf.TheVariants as leaves
use Rattle.blind_tree.specs.declared.vertex.Vertex.{Vertex}
use Rattle.blind_tree.specs.declared.vertex.Vertex.TheVariants.{Blind, Inner}
use Rattle.blind_tree.specs.declared.tree.Tree.{Tree}
use Rattle.ledger_terms.specs.declared.limits.TheConstants.{MOST_ACTIONS, MOST_ACTION_DEPTH}

-- the reading of four bytes of length and then of that many bytes as one field
unfoldable pub long_bytes_at : Reading (List ℕ)
long_bytes_at bytes = do
  len ← number_at w32 bytes
  bytes_at len.0 len.1

-- the parts of a leaf that shows its bytes: salt and bytes
abbrev pub PlainParts : Type 0
PlainParts = List ℕ × List ℕ

-- a leaf made of these parts
abbrev pub plain_of : PlainParts → Leaf
plain_of parts = leaves.Plain parts.0 parts.1

-- Reads what follows the tag of a leaf in `rest`: behind 0 a hash, behind 1 a salt and bytes. Any other tag is a fault at `here`, how many bytes were
-- left before it.
unfoldable pub tagged_leaf_at : ℕ → List ℕ → ℕ → Result (Leaf × List ℕ) ℕ
tagged_leaf_at zero rest here = seen_at leaves.Blind hash_at rest
tagged_leaf_at (suc zero) rest here = seen_at plain_of (both_at hash_at long_bytes_at) rest
tagged_leaf_at (suc (suc n)) rest here = Err here

-- the reading of a leaf: its tag and what follows it
unfoldable pub leaf_at : Reading Leaf
leaf_at bytes = do
  tag ← byte_at bytes
  tagged_leaf_at tag.0 tag.1 (length bytes)

-- the parts of a vertex that shows its leaves: informees leaf, contents leaf and the vertices below it
abbrev pub InnerParts : Type 0
InnerParts = (Leaf × Leaf) × Vertices

-- a vertex made of these parts
abbrev pub inner_of : InnerParts → Vertex
inner_of parts = Inner parts.0.0 parts.0.1 parts.1

-- Reads what follows the tag of a vertex in `rest`: behind 0 a hash, behind 1 two leaves and the vertices below it, which `below` reads. Any other tag
-- is a fault at `here`, how many bytes were left before it.
unfoldable pub tagged_vertex_at : Reading Vertices → ℕ → List ℕ → ℕ → Result (Vertex × List ℕ) ℕ
tagged_vertex_at below zero rest here = seen_at Blind hash_at rest
tagged_vertex_at below (suc zero) rest here = seen_at inner_of (both_at (both_at leaf_at leaf_at) below) rest
tagged_vertex_at below (suc (suc n)) rest here = Err here

-- how many vertices may stand side by side, where so many levels are left: 64, and none where no level is left
abbrev pub most_beside : ℕ → ℕ
most_beside zero = 0
most_beside (suc levels) = MOST_ACTIONS

-- The reading of a count that isn't above a limit and then of so many vertices, where `vertex` reads one of them.
abbrev pub list_at : (limit : ℕ) → Reading Vertex → Reading Vertices
list_at limit vertex = seen_at vertices_of (counted_at (count_at limit) any_item vertex)

-- The reading of a vertex, on so many levels at most, its own counted. With no level left it is Err where the vertex begins, but it isn't asked then:
-- `list_at` takes no count above 0 there, so a vertex that stands too deep is a fault at the count that announces it.
unfoldable pub vertex_at : ℕ → Reading Vertex
vertex_at zero bytes = Err (length bytes)
vertex_at (suc levels) bytes =
    byte_at bytes >>= λ tag. tagged_vertex_at (list_at (most_beside levels) (vertex_at levels)) tag.0 tag.1 (length bytes)

-- the reading of vertices side by side, on so many levels at most
unfoldable pub vertices_at : ℕ → Reading Vertices
vertices_at levels = list_at (most_beside levels) (vertex_at levels)

-- the parts of a tree: common leaf, requesters leaf and vertices
abbrev pub TreeParts : Type 0
TreeParts = (Leaf × Leaf) × Vertices

-- a tree made of these parts
abbrev pub tree_of : TreeParts → Tree
tree_of parts = record { common = parts.0.0; requesters = parts.0.1; views = parts.1 }

-- the reading of a tree, with vertices on at most 16 levels
unfoldable pub tree_at : Reading Tree
tree_at = seen_at tree_of (both_at (both_at leaf_at leaf_at) (vertices_at MOST_ACTION_DEPTH))

-- What was read, where no bytes are left after it; else Err with how many are left. So `read_all` refuses bytes after the value.
abbrev pub ended : {A : Type 0} → A → List ℕ → Result A ℕ
ended x [] = Ok x
ended x (b ∷ more) = Err (length (b ∷ more))

-- The answer of a reading of `len` bytes, which tells of a fault how many bytes were left, with the place of the fault instead.
abbrev pub with_place : {A : Type 0} → ℕ → Result A ℕ → Result A WireFault
with_place len (Ok x) = Ok x
with_place len (Err left) = Err (Bad (len - left))

-- All the bytes as one thing, or the place of the first field that can't be read, or of the first byte after it.
abbrev pub read_all : {A : Type 0} → Reading A → List ℕ → Result A WireFault
read_all read bytes = with_place (length bytes) (read bytes >>= λ x. ended x.0 x.1)

-- What a reader of `len` bytes gave, with `left` bytes left after it, as an answer on all of them: what was read only where none is left, else Bad with
-- the place of the first byte left, or of the reader's fault; and Memory stays Memory.
abbrev pub reader_answer : {A : Type 0} → Result A ReaderFault → ℕ → ℕ → Result A WireFault
reader_answer (Ok x) len zero = Ok x
reader_answer (Ok x) len (suc left) = Err (Bad (len - suc left))
reader_answer (Err (faults.Left n)) len left = Err (Bad (len - n))
reader_answer (Err faults.Memory) len left = Err Memory
