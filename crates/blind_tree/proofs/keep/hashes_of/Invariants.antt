use Rattle.std.proofs.Common.{◌≡◌, ◌++◌, drop}
use Rattle.ledger_terms.specs.Grown.{forest_of}
use Rattle.blind_tree.specs.Kept.{kept_digests}
use Rattle.blind_tree.proofs.keep.hashes_of.Given as goal

-- the hashes so far and those of what is left are the hashes of all
abbrev pub invariant-loop-view : goal.invariant-loop-view
invariant-loop-view l = l.hashes.items ++ kept_digests (forest_of (drop l.view-index l.view-items)) ≡ kept_digests l.views
