-- The strings that are hashed, as lists of bytes. Each begins with the byte of its tag, and a hash, a seed or a salt in it is its 32 bytes. The
-- functions of src/ that hash them answer the SHA-256 of such a string.
use Rattle.std.specs.Prelude.{ℕ, List, [], ◌∷◌, ◌++◌, length}
use Rattle.std.specs.Int.{w32, to_be_bytes}
use Rattle.std.specs.List.{concat}
use Rattle.hash_id.specs.declared.tag.Tag.{Tag}
use Rattle.hash_id.specs.declared.tag.Tag.TheVariants.{ContractId, ChildSeed, RootSeed, Leaf, View, Tree, LeafSalt}
use Rattle.hash_id.specs.Tags.{tag_byte}

-- a number as four bytes, the high one first, as counts and indices stand in strings that are hashed
abbrev pub be32 : ℕ → List ℕ
be32 n = to_be_bytes w32 n

-- a name as it stands in a string that is hashed: one byte that says its length, and its bytes
abbrev pub spelled_name : List ℕ → List ℕ
spelled_name name = length name ∷ name

-- What is hashed for the id of a contract: the tag, the contract's salt and the spelling of its instance.
abbrev pub contract_id_string : List ℕ → List ℕ → List ℕ
contract_id_string salt instance = (tag_byte ContractId ∷ []) ++ salt ++ instance

-- What is hashed for the seed of an action below another: the tag, the seed of the action above, and the child's index among its consequences, from
-- 0.
abbrev pub child_seed_string : List ℕ → ℕ → List ℕ
child_seed_string seed index = (tag_byte ChildSeed ∷ []) ++ seed ++ be32 index

-- What is hashed for the seed of a command: the tag, the participant's name and the command's id.
abbrev pub root_seed_string : List ℕ → List ℕ → List ℕ
root_seed_string participant command =
    (tag_byte RootSeed ∷ []) ++ spelled_name participant ++ spelled_name command

-- What is hashed for a leaf: the tag, the leaf's kind (1 common, 2 requesters, 3 informees, 4 contents), its salt and its bytes.
abbrev pub leaf_hash_string : ℕ → List ℕ → List ℕ → List ℕ
leaf_hash_string kind salt bytes = (tag_byte Leaf ∷ []) ++ (kind ∷ []) ++ salt ++ bytes

-- What is hashed for the salt of a leaf: the tag, the leaf's kind (1 common, 2 requesters, 3 informees, 4 contents), and the seed of the transaction
-- (kinds 1 and 2) or of the view's first action (3 and 4).
abbrev pub leaf_salt_string : ℕ → List ℕ → List ℕ
leaf_salt_string kind seed = (tag_byte LeafSalt ∷ []) ++ (kind ∷ []) ++ seed

-- What is hashed for a vertex or a whole tree: the byte of the tag (View or Tree), the hashes `first` and `second` of its two leaves, the count of the
-- views directly below it, and their hashes in order.
abbrev pub inner_string : Tag → List ℕ → List ℕ → List (List ℕ) → List ℕ
inner_string tag first second below =
    (tag_byte tag ∷ []) ++ first ++ second ++ be32 (length below) ++ concat below

-- What is hashed for a view's vertex: the hashes of its leaf of informees, of its leaf of contents and of the views directly below it.
abbrev pub view_hash_string : List ℕ → List ℕ → List (List ℕ) → List ℕ
view_hash_string informees contents subviews = inner_string View informees contents subviews

-- What is hashed for a whole tree: the hashes of its common leaf, of its leaf of requesters and of its root views.
abbrev pub tree_hash_string : List ℕ → List ℕ → List (List ℕ) → List ℕ
tree_hash_string common requesters views = inner_string Tree common requesters views
