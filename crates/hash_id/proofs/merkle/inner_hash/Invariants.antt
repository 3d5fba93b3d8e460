use Rattle.std.proofs.Common.{◌∷◌, [], ◌++◌, length, take}
use Rattle.std.specs.List.{concat}
use Rattle.sha2.specs.Hashers.{Holds256}
use Rattle.hash_id.specs.Tags.{tag_byte}
use Rattle.hash_id.specs.Strings.{be32}
use Rattle.hash_id.proofs.merkle.inner_hash.Given as goal

-- the hasher was fed the string up to the hashes that are still to come
abbrev pub invariant-loop-hash : goal.invariant-loop-hash
invariant-loop-hash l =
    Holds256 l.hasher ((tag_byte l.fn.tag ∷ []) ++ l.first ++ l.second ++ be32 (length l.below) ++ concat (take l.hash-index l.below))
