-- A transaction's tree with every hash kept, and what each recipient gets of it.
use Rattle.std.specs.Prelude.{ℕ, Bool, true, false, List, [], ◌∷◌, if◌then◌else◌, ◌||◌}
use Rattle.std.specs.List.{list_any}
use Rattle.ledger_terms.specs.Hosting.{hosts_at}
use Rattle.ledger_terms.specs.Forest.{Forest, NoRoots, Root, preorder}
use Rattle.ledger_terms.specs.declared.host.Host.{Host}
use Rattle.hash_id.specs.Strings.{view_hash_string}
use Rattle.wire_form.specs.Spelling.{spell_parties}
use Rattle.view_split.specs.declared.split_view.SplitView.{SplitView}
use Rattle.view_split.specs.declared.views.Views.{Views}
use Rattle.blind_tree.specs.Vertices.{Vertices, NoVertices, BlindVertex, InnerVertex}
use Rattle.blind_tree.specs.TreeHashes.{Hashing}
use Rattle.blind_tree.specs.LeafBytes.{common_bytes, roles_bytes, core_bytes}
use Rattle.blind_tree.specs.Blind.{salt_of, digest_of, is_host_named}
use Rattle.blind_tree.specs.declared.kept_leaf.KeptLeaf.{KeptLeaf}
use Rattle.blind_tree.specs.declared.kept_tree.KeptTree.{KeptTree}
use Rattle.blind_tree.specs.declared.kept_view.KeptView.{KeptView}
use Rattle.blind_tree.specs.declared.leaf.Leaf.{Leaf}
use Rattle.blind_tree.specs.declared.leaf.Leaf.TheVariants.{Blind, Plain}
use Rattle.blind_tree.specs.declared.tree.Tree.{Tree}
use Rattle.blind_tree.specs.declared.recipient.Recipient.{Recipient}
use Rattle.blind_tree.specs.declared.recipient.Recipient.TheVariants.{Participant, Mediator}

-- What is kept of a leaf of a kind (1 common, 2 requesters, 3 informees, 4 contents) with these bytes: its salt, which is made from the seed, its bytes
-- and its hash.
abbrev pub kept_leaf : Hashing → (kind : ℕ) (seed bytes : List ℕ) → KeptLeaf
kept_leaf sha kind seed bytes = record { salt = salt_of sha kind seed; bytes = bytes; hash = digest_of sha kind seed bytes }

-- the hashes of views side by side, as they are kept
abbrev pub kept_digests : Forest KeptView → List (List ℕ)
kept_digests NoRoots = []
kept_digests (Root part subviews others) = part.hash ∷ kept_digests others

-- What is kept of one view: its informees, its two leaves and its hash. `below` has what is kept of the views below it.
abbrev pub kept_part : Hashing → SplitView → Forest KeptView → KeptView
kept_part sha view below =
    let informees_leaf = kept_leaf sha 3 view.first.seed (roles_bytes view) in
    let contents_leaf = kept_leaf sha 4 view.first.seed (core_bytes view) in
    record {
      informees = view.informees;
      informees_leaf = informees_leaf;
      contents_leaf = contents_leaf;
      hash = sha (view_hash_string informees_leaf.hash contents_leaf.hash (kept_digests below));
    }

-- what is kept of each of these views and of those below them
abbrev pub kept_views : Hashing → Forest SplitView → Forest KeptView
kept_views sha NoRoots = NoRoots
kept_views sha (Root view subviews others) = Root (kept_part sha view (kept_views sha subviews)) (kept_views sha subviews) (kept_views sha others)

-- What a sender keeps of its transaction while it makes the trees for all recipients, so that each string is hashed once.
abbrev pub kept_tree : Hashing → Views → (sender : List ℕ) → KeptTree
kept_tree sha views sender =
    record {
      common = kept_leaf sha 1 views.seed (common_bytes sender views.ledger_time);
      requesters = kept_leaf sha 2 views.seed (spell_parties views.act_as);
      views = kept_views sha views.roots;
    }

-- the kept view has a hosted informee
abbrev pub is_kept_sight : (List ℕ → Bool) → KeptView → Bool
is_kept_sight hosts part = list_any hosts part.informees

-- one of these kept views, or of those below them, has a hosted informee
abbrev pub has_kept_sight : (List ℕ → Bool) → Forest KeptView → Bool
has_kept_sight hosts views = list_any (is_kept_sight hosts) (preorder views)

-- one of these kept views has a hosted informee; those below them are not counted
abbrev pub sees_kept_root : (List ℕ → Bool) → Forest KeptView → Bool
sees_kept_root hosts NoRoots = false
sees_kept_root hosts (Root part subviews others) = is_kept_sight hosts part || sees_kept_root hosts others

-- The leaf that a recipient gets of a kept one: its salt and bytes where the truth value says that they are shown, else its hash alone.
abbrev pub cut_leaf : Bool → KeptLeaf → Leaf
cut_leaf shows leaf = if shows then Plain leaf.salt leaf.bytes else Blind leaf.hash

-- The vertex of a kept view before those of the views after it. A participant that sees the view is shown its leaves; one that sees only a view below
-- it is shown their hashes; and any other one the view's hash alone.
abbrev pub cut_part : (sees below : Bool) → KeptView → (subviews others : Vertices) → Vertices
cut_part sees below part subviews others =
    if sees || below
    then InnerVertex (cut_leaf sees part.informees_leaf) (cut_leaf sees part.contents_leaf) subviews others
    else BlindVertex part.hash others

-- The vertices of these kept views for a participant that hosts these parties; `above` tells whether it sees a view above them.
abbrev pub cut_views : (hosts : List ℕ → Bool) (above : Bool) → Forest KeptView → Vertices
cut_views hosts above NoRoots = NoVertices
cut_views hosts above (Root part subviews others) =
    let sees = above || is_kept_sight hosts part in
    cut_part sees (has_kept_sight hosts subviews) part (cut_views hosts sees subviews) (cut_views hosts above others)

-- The vertex of one kept view, with those below it and none beside it, which is what the code cuts or spells at a time. `sees` tells whether the
-- participant, which hosts these parties, sees the view.
abbrev pub cut_one : (hosts : List ℕ → Bool) (sees : Bool) → KeptView → Forest KeptView → Vertices
cut_one hosts sees part subviews = cut_part sees (has_kept_sight hosts subviews) part (cut_views hosts sees subviews) NoVertices

-- The vertices of these kept views for the mediator, with the informees and confirmers of each view and the hash of its contents alone.
abbrev pub cut_for_mediator : Forest KeptView → Vertices
cut_for_mediator NoRoots = NoVertices
cut_for_mediator (Root part subviews others) =
    InnerVertex (cut_leaf true part.informees_leaf) (cut_leaf false part.contents_leaf) (cut_for_mediator subviews) (cut_for_mediator others)

-- A tree of these vertices, with the kept common leaf shown. The truth value says whether the kept requesters leaf is shown too, or its hash alone.
abbrev pub cut_shows : KeptTree → Bool → Vertices → Tree
cut_shows kept shows_requesters views =
    record { common = cut_leaf true kept.common; requesters = cut_leaf shows_requesters kept.requesters; views = views }

-- The tree that a recipient gets: a participant is shown what it sees, and the requesters where it sees a root view or is the sender.
abbrev pub cut_tree : KeptTree → (sender : List ℕ) → List Host → Recipient → Tree
cut_tree kept sender hosts (Participant p) =
    cut_shows kept (sees_kept_root (hosts_at hosts p) kept.views || is_host_named hosts p sender) (cut_views (hosts_at hosts p) false kept.views)
cut_tree kept sender hosts Mediator = cut_shows kept false (cut_for_mediator kept.views)
