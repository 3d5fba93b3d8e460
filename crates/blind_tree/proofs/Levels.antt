-- Reading a vertex or a child of a core with a level to spare, or with none.
use Rattle.std.proofs.Common.{◌≡◌, ◌≢◌, ℕ, zero, suc, ◌-◌, List, length, Result, Ok, refl, arith}
use Rattle.wire_form.specs.declared.reader_fault.ReaderFault.{ReaderFault}
use Rattle.wire_form.specs.declared.reader_fault.ReaderFault.TheVariants as faults
use Rattle.wire_form.specs.Formats.{Fails, Gives}
use Rattle.wire_form.specs.Fields.{byte_at}
use Rattle.view_split.specs.declared.core_node.CoreChild.{CoreChild}
use Rattle.blind_tree.specs.CoreReading.{child_at, hole_at, node_at, tagged_child_at}
use Rattle.blind_tree.specs.Reading.{tagged_vertex_at, vertex_at, vertices_at}
use Rattle.blind_tree.specs.declared.vertex.Vertex.{Vertex}

pub level_down : {X : Type 0} (view : X → Vertex × List ℕ) (got : Result X ReaderFault) (levels tag here : ℕ) (bytes rest : List ℕ) → levels ≢ 0 → byte_at bytes ≡ Ok (tag, rest) → here ≡ length bytes
    → Gives view got (tagged_vertex_at (vertices_at (levels - 1)) tag rest here) → Gives view got (vertex_at levels bytes)
unfolding vertex_at vertices_at
level_down view got zero tag here bytes rest above first at h = absurd (above refl)
level_down view got (suc levels) tag here bytes rest above first at h =
    let one : suc levels - 1 ≡ levels = omega arith in
    rw first (rw (one, at) at h)

module _ {X : Type 0} (view : X → CoreChild × List ℕ) (got : Result X ReaderFault) where
  pub next_level : (levels tag here : ℕ) (bytes rest : List ℕ) → levels ≢ 0 → byte_at bytes ≡ Ok (tag, rest) → here ≡ length bytes
      → Gives view got (tagged_child_at (node_at (levels - 1)) tag rest here) → Gives view got (child_at levels bytes)
  unfolding child_at node_at
  next_level zero tag here bytes rest above first at h = absurd (above refl)
  next_level (suc levels) tag here bytes rest above first at h =
      let one : suc levels - 1 ≡ levels = omega arith in
      rw first (rw (one, at) at h)

  pub last_level : (levels : ℕ) (bytes : List ℕ) → levels ≡ 0 → Gives view got (hole_at bytes) → Gives view got (child_at levels bytes)
  unfolding child_at
  last_level zero bytes none h = h
  last_level (suc levels) bytes none h = absurd (omega (arith, none))

-- where no tag can be read, no child can
pub no_tag : (e : ReaderFault) (levels : ℕ) (bytes : List ℕ) → Fails e (byte_at bytes) → Fails e (child_at levels bytes)
unfolding child_at hole_at
no_tag faults.Memory levels bytes h = tt
no_tag (faults.Left n) zero bytes h = rw h refl
no_tag (faults.Left n) (suc levels) bytes h = rw h refl
