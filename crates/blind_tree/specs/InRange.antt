-- What leaves, vertices and trees the formats spell.
use Rattle.std.specs.Prelude.{ℕ, suc, ◌≤◌, ◌<◌, ◌^◌, length, max}
use Rattle.wire_form.specs.InRange.{IsHash}
use Rattle.blind_tree.specs.Vertices.{Vertices, NoVertices, BlindVertex, InnerVertex, count}
use Rattle.blind_tree.specs.declared.leaf.Leaf.{Leaf}
use Rattle.blind_tree.specs.declared.leaf.Leaf.TheVariants.{Blind, Plain}
use Rattle.blind_tree.specs.declared.vertex.Vertex.{Vertex}
use Rattle.blind_tree.specs.declared.vertex.Vertex.TheVariants as vertices
use Rattle.blind_tree.specs.declared.tree.Tree.{Tree}
use Rattle.ledger_terms.specs.declared.limits.TheConstants.{MOST_ACTIONS, MOST_ACTION_DEPTH}

-- The leaf is one that bytes can spell: a hash of 32 bytes, or a salt of 32 bytes with fewer than 2^32 bytes.
abbrev pub IsLeaf : Leaf → Type 0
IsLeaf (Blind hash) = IsHash hash
IsLeaf (Plain salt bytes) = IsHash salt × (length bytes < 2 ^ 32)

-- how many vertices stand one below another at most
abbrev pub nesting : Vertices → ℕ
nesting NoVertices = 0
nesting (BlindVertex hash others) = max 1 (nesting others)
nesting (InnerVertex informees contents subviews others) = max (suc (nesting subviews)) (nesting others)

-- The vertices are ones that bytes can spell: their leaves and hashes are, and at most 64 stand side by side below each. Of how many stand at the top
-- and one below another it says nothing.
abbrev pub AreVertices : Vertices → Type 0
AreVertices NoVertices = Unit {0}
AreVertices (BlindVertex hash others) = IsHash hash × AreVertices others
AreVertices (InnerVertex informees contents subviews others) =
    IsLeaf informees × IsLeaf contents × (count subviews ≤ MOST_ACTIONS) × AreVertices subviews × AreVertices others

-- The tree is one that bytes can spell: its leaves and hashes are, and at most 64 vertices stand side by side and 16 one below another.
pub record IsTree (tree : Tree) : Type 0 where
  pub common_is : IsLeaf tree.common
  pub requesters_is : IsLeaf tree.requesters
  pub few : count tree.views ≤ MOST_ACTIONS
  pub nested : nesting tree.views ≤ MOST_ACTION_DEPTH
  pub vertices : AreVertices tree.views

-- The leaf shows its hash alone, or fewer than 2^32 bytes. Unlike `IsLeaf` this doesn't ask how long hash and salt are, which the code's types tell.
abbrev pub IsSpellableLeaf : Leaf → Type 0
IsSpellableLeaf (Blind hash) = Unit {0}
IsSpellableLeaf (Plain salt bytes) = length bytes < 2 ^ 32

-- Each leaf of these vertices has fewer than 2^32 bytes, and at most 64 vertices stand side by side below each.
abbrev pub AreSpellable : Vertices → Type 0
AreSpellable NoVertices = Unit {0}
AreSpellable (BlindVertex hash others) = AreSpellable others
AreSpellable (InnerVertex informees contents subviews others) =
    IsSpellableLeaf informees × IsSpellableLeaf contents × (count subviews ≤ MOST_ACTIONS) × AreSpellable subviews × AreSpellable others

-- The one vertex has room in a spelling: its leaves and those of all vertices below it have fewer than 2^32 bytes, and at most 64 vertices stand side
-- by side below it and below each.
abbrev pub IsSpellable : Vertex → Type 0
IsSpellable (vertices.Blind hash) = Unit {0}
IsSpellable (vertices.Inner informees contents subviews) =
    IsSpellableLeaf informees × IsSpellableLeaf contents × (count subviews ≤ MOST_ACTIONS) × AreSpellable subviews

-- A tree that has room in a spelling: its leaves have fewer than 2^32 bytes, and at most 64 vertices stand side by side and 16 one below another.
pub record IsSpellableTree (tree : Tree) : Type 0 where
  pub common_is : IsSpellableLeaf tree.common
  pub requesters_is : IsSpellableLeaf tree.requesters
  pub few : count tree.views ≤ MOST_ACTIONS
  pub nested : nesting tree.views ≤ MOST_ACTION_DEPTH
  pub vertices : AreSpellable tree.views

-- The vertices stand on so many levels at most, and each has room in a spelling.
pub record FitLevels (levels : ℕ) (vertices : Vertices) : Type 0 where
  pub nested : nesting vertices ≤ levels
  pub each : AreSpellable vertices
