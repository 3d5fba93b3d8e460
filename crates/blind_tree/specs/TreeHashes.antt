-- The hashes of a tree, by a function of strings, and the strings that are hashed.
use Rattle.std.specs.Prelude.{ℕ, List, [], ◌∷◌, ◌++◌}
use Rattle.hash_id.specs.Strings.{leaf_hash_string, view_hash_string, tree_hash_string}
use Rattle.blind_tree.specs.Vertices.{Vertices, NoVertices, BlindVertex, InnerVertex}
use Rattle.blind_tree.specs.declared.leaf.Leaf.{Leaf}
use Rattle.blind_tree.specs.declared.leaf.Leaf.TheVariants.{Blind, Plain}
use Rattle.blind_tree.specs.declared.tree.Tree.{Tree}

-- a function that gives each string its hash, as SHA-256 does
abbrev pub Hashing : Type 0
Hashing = List ℕ → List ℕ

-- The hash of a leaf of a kind (1 common, 2 requesters, 3 informees, 4 contents): the one that a blind leaf shows, or that of a plain leaf's salt and
-- bytes.
abbrev pub hash_of_leaf : Hashing → ℕ → Leaf → List ℕ
hash_of_leaf sha kind (Blind hash) = hash
hash_of_leaf sha kind (Plain salt bytes) = sha (leaf_hash_string kind salt bytes)

-- the hash of each of these vertices side by side, with what stands below it
abbrev pub hashes_of_vertices : Hashing → Vertices → List (List ℕ)
hashes_of_vertices sha NoVertices = []
hashes_of_vertices sha (BlindVertex hash others) = hash ∷ hashes_of_vertices sha others
hashes_of_vertices sha (InnerVertex informees contents subviews others) =
    sha (view_hash_string (hash_of_leaf sha 3 informees) (hash_of_leaf sha 4 contents) (hashes_of_vertices sha subviews)) ∷ hashes_of_vertices sha others

-- the string whose hash is the tree's root hash
abbrev pub root_string : Hashing → Tree → List ℕ
root_string sha tree = tree_hash_string (hash_of_leaf sha 1 tree.common) (hash_of_leaf sha 2 tree.requesters) (hashes_of_vertices sha tree.views)

-- the root hash of a tree, which names its transaction
abbrev pub hash_of_root : Hashing → Tree → List ℕ
hash_of_root sha tree = sha (root_string sha tree)

-- the string that is hashed for a leaf of a kind (1 common, 2 requesters, 3 informees, 4 contents), as a list of one; none where it shows its hash
-- alone
abbrev pub leaf_strings : ℕ → Leaf → List (List ℕ)
leaf_strings kind (Blind hash) = []
leaf_strings kind (Plain salt bytes) = leaf_hash_string kind salt bytes ∷ []

-- the strings that are hashed for the hashes of these vertices, of all below them and of their leaves
abbrev pub vertex_strings : Hashing → Vertices → List (List ℕ)
vertex_strings sha NoVertices = []
vertex_strings sha (BlindVertex hash others) = vertex_strings sha others
vertex_strings sha (InnerVertex informees contents subviews others) =
    view_hash_string (hash_of_leaf sha 3 informees) (hash_of_leaf sha 4 contents) (hashes_of_vertices sha subviews)
    ∷ (leaf_strings 3 informees ++ (leaf_strings 4 contents ++ (vertex_strings sha subviews ++ vertex_strings sha others)))

-- all strings that are hashed for the root hash of a tree
abbrev pub tree_strings : Hashing → Tree → List (List ℕ)
tree_strings sha tree =
    root_string sha tree ∷ (leaf_strings 1 tree.common ++ (leaf_strings 2 tree.requesters ++ vertex_strings sha tree.views))
