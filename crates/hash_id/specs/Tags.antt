-- The first byte of each string that is hashed.
use Rattle.std.specs.Prelude.{ℕ}
use Rattle.hash_id.specs.declared.tag.Tag.{Tag}
use Rattle.hash_id.specs.declared.tag.Tag.TheVariants.{ContractId, ChildSeed, RootSeed, Leaf, View, Tree, LeafSalt}

-- the byte with which each hashed string of that tag begins, so that the strings of two tags are never the same
abbrev pub tag_byte : Tag → ℕ
tag_byte ContractId = 1
tag_byte ChildSeed = 2
tag_byte RootSeed = 3
tag_byte Leaf = 4
tag_byte View = 5
tag_byte Tree = 6
tag_byte LeafSalt = 7
