use Rattle.std.proofs.Common.{◌≡◌, List, ℕ, [], ◌∷◌, ◌++◌, ◌∙◌, length, get_or}
use Rattle.hash_id.specs.Tags.{tag_byte}
use Rattle.hash_id.specs.Strings.{be32}
use Rattle.hash_id.proofs.Concat.{concat-more}
use Rattle.hash_id.proofs.merkle.inner_hash.Goals as goal

pub loop-hash-preserved : goal.loop-hash-preserved
loop-hash-preserved c =
    let fed = c.update-in-loop-hash.ensures _ c.loop-hash.invariant in
    let bytes : c.hash.inside.0 ≡ get_or c.args.below.now c.loop-hash.hash-index c.hash-item.result = c.hash.view_is ∙ c.hash-item.is in
    let before : List ℕ = (tag_byte c.args.tag ∷ []) ++ c.args.first.now ++ c.args.second.now ++ be32 (length c.args.below.now) in
    rw (concat-more before c.args.below.now c.loop-hash.hash-index c.hash-item.result c.loop-hash-test.true, ← bytes) fed
