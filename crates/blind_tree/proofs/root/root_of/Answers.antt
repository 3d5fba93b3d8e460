use Rattle.std.proofs.Common.{◌≡◌, List, ℕ, length, ap, refl, arith}
use Rattle.sha2.specs.Sha256.{sha256}
use Rattle.blind_tree.specs.TreeHashes.{hashes_of_vertices}
use Rattle.blind_tree.proofs.Grow.{hashes_of_vertices_length}
use Rattle.blind_tree.proofs.root.root_of.Goals as goal

pub tree_hash-requires : goal.tree_hash-requires
tree_hash-requires c =
    let all : c.as_slice.result.now ≡ hashes_of_vertices sha256 c.args.tree.now.views =
    rw (c.as_slice.ensures.value, c.in_ok-hashes_into.ensures, c.new-views.ensures.items) refl in
    let l = ap (λ (xs : List (List ℕ)). length xs) all in
    let d = hashes_of_vertices_length c.args.tree.now.views in
    omega (arith, c.requires.0, l, d)
