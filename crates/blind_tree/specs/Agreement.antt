-- When two trees agree.
use Rattle.std.specs.Prelude.{◌≡◌, ◌≢◌, ℕ, List, Contains}
use Rattle.wire_form.specs.InRange.{IsHash}
use Rattle.blind_tree.specs.TreeHashes.{Hashing}
use Rattle.blind_tree.specs.Vertices.{Vertices, NoVertices, BlindVertex, InnerVertex}
use Rattle.blind_tree.specs.declared.leaf.Leaf.{Leaf}
use Rattle.blind_tree.specs.declared.leaf.Leaf.TheVariants.{Blind, Plain}
use Rattle.blind_tree.specs.declared.tree.Tree.{Tree}

-- A collision: two different strings, one of `some` and one of `others`, have one hash by `sha`. Two sized trees of one root may disagree only where
-- their strings collide (`one_root_one_tree`).
pub record Clash (sha : Hashing) (some others : List (List ℕ)) : Type 0 where
  pub one : List ℕ
  pub other : List ℕ
  pub of_some : Contains some one
  pub of_others : Contains others other
  pub differ : one ≢ other
  pub meet : sha one ≡ sha other

-- the leaf's hash, or its salt where it shows its bytes, has 32 bytes
abbrev pub IsSizedLeaf : Leaf → Type 0
IsSizedLeaf (Blind hash) = IsHash hash
IsSizedLeaf (Plain salt bytes) = IsHash salt

-- every hash and salt in these vertices, and below them, has 32 bytes
abbrev pub AreSized : Vertices → Type 0
AreSized NoVertices = Unit {0}
AreSized (BlindVertex hash others) = IsHash hash × AreSized others
AreSized (InnerVertex informees contents subviews others) = IsSizedLeaf informees × IsSizedLeaf contents × AreSized subviews × AreSized others

-- every hash and salt in the tree has 32 bytes
pub record IsSized (tree : Tree) : Type 0 where
  pub common_is : IsSizedLeaf tree.common
  pub requesters_is : IsSizedLeaf tree.requesters
  pub vertices : AreSized tree.views

-- Where both leaves show their salt and bytes, these are the same. A leaf that shows its hash alone agrees with each.
abbrev pub AgreeLeaf : Leaf → Leaf → Type 0
AgreeLeaf (Plain salt bytes) (Plain salt2 bytes2) = (salt ≡ salt2) × (bytes ≡ bytes2)
AgreeLeaf (Plain salt bytes) (Blind hash) = Unit {0}
AgreeLeaf (Blind hash) leaf = Unit {0}

-- On each level there are as many vertices on both sides, and wherever both show a leaf it is the same. Below a vertex that shows its hash alone
-- nothing is compared.
abbrev pub Agree : Vertices → Vertices → Type 0
Agree NoVertices NoVertices = Unit {0}
Agree NoVertices (BlindVertex hash others) = ⊥
Agree NoVertices (InnerVertex informees contents subviews others) = ⊥
Agree (BlindVertex hash others) NoVertices = ⊥
Agree (BlindVertex hash others) (BlindVertex hash2 others2) = Agree others others2
Agree (BlindVertex hash others) (InnerVertex informees2 contents2 subviews2 others2) = Agree others others2
Agree (InnerVertex informees contents subviews others) NoVertices = ⊥
Agree (InnerVertex informees contents subviews others) (BlindVertex hash2 others2) = Agree others others2
Agree (InnerVertex informees contents subviews others) (InnerVertex informees2 contents2 subviews2 others2) =
    AgreeLeaf informees informees2 × AgreeLeaf contents contents2 × Agree subviews subviews2 × Agree others others2

-- Two trees agree on every leaf that both of them show.
pub record AgreeTrees (t u : Tree) : Type 0 where
  pub common_agree : AgreeLeaf t.common u.common
  pub requesters_agree : AgreeLeaf t.requesters u.requesters
  pub vertices : Agree t.views u.views
