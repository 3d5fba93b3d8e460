-- A transaction's tree as it is blinded for each recipient.
use Rattle.std.specs.Prelude.{ℕ, Bool, true, false, List, [], ◌∷◌, if◌then◌else◌, ◌||◌, Option, Some, None, slice_get}
use Rattle.std.specs.List.{list_any}
use Rattle.ledger_terms.specs.Parties.{same_name}
use Rattle.ledger_terms.specs.Hosting.{hosts_at}
use Rattle.ledger_terms.specs.Forest.{Forest, NoRoots, Root, preorder}
use Rattle.ledger_terms.specs.declared.host.Host.{Host}
use Rattle.hash_id.specs.Strings.{leaf_salt_string, leaf_hash_string, view_hash_string, tree_hash_string}
use Rattle.wire_form.specs.Spelling.{spell_parties}
use Rattle.ledger_model.specs.Opening.{Transaction}
use Rattle.view_split.specs.declared.split_view.SplitView.{SplitView}
use Rattle.view_split.specs.Split.{assembled}
use Rattle.view_split.specs.Numbered.{map_forest}
use Rattle.view_split.specs.SeenViews.{is_sight}
use Rattle.view_split.specs.declared.views.Views.{Views}
use Rattle.blind_tree.specs.Vertices.{Vertices, NoVertices, BlindVertex, InnerVertex}
use Rattle.blind_tree.specs.TreeHashes.{Hashing}
use Rattle.blind_tree.specs.LeafBytes.{common_bytes, roles_bytes, core_bytes}
use Rattle.blind_tree.specs.declared.leaf.Leaf.{Leaf}
use Rattle.blind_tree.specs.declared.leaf.Leaf.TheVariants.{Blind, Plain}
use Rattle.blind_tree.specs.declared.tree.Tree.{Tree}
use Rattle.blind_tree.specs.declared.recipient.Recipient.{Recipient}
use Rattle.blind_tree.specs.declared.recipient.Recipient.TheVariants.{Participant, Mediator}

-- The salt of a leaf of a kind (1 common, 2 requesters, 3 informees, 4 contents), made from a seed.
abbrev pub salt_of : Hashing → (kind : ℕ) (seed : List ℕ) → List ℕ
salt_of sha kind seed = sha (leaf_salt_string kind seed)

-- The hash of a leaf of a kind (1 common, 2 requesters, 3 informees, 4 contents) with these bytes, whose salt is made from this seed.
abbrev pub digest_of : Hashing → (kind : ℕ) (seed bytes : List ℕ) → List ℕ
digest_of sha kind seed bytes = sha (leaf_hash_string kind (salt_of sha kind seed) bytes)

-- A leaf of a kind (1 common, 2 requesters, 3 informees, 4 contents) with this salt and these bytes: with both of them where it is shown, else with its
-- hash alone.
abbrev pub leaf_with : Hashing → (shows : Bool) (kind : ℕ) (salt bytes : List ℕ) → Leaf
leaf_with sha shows kind salt bytes = if shows then Plain salt bytes else Blind (sha (leaf_hash_string kind salt bytes))

-- A leaf of a kind (1 common, 2 requesters, 3 informees, 4 contents) with these bytes, whose salt is made from this seed: with salt and bytes where it
-- is shown, else with its hash alone.
abbrev pub leaf_of : Hashing → (shows : Bool) (kind : ℕ) (seed bytes : List ℕ) → Leaf
leaf_of sha shows kind seed bytes = leaf_with sha shows kind (salt_of sha kind seed) bytes

-- the hash of a view's informees leaf, which has its informees and confirmers
abbrev pub roles_digest : Hashing → SplitView → List ℕ
roles_digest sha view = digest_of sha 3 view.first.seed (roles_bytes view)

-- the hash of a view's contents leaf, which has its core
abbrev pub core_digest : Hashing → SplitView → List ℕ
core_digest sha view = digest_of sha 4 view.first.seed (core_bytes view)

-- the hash of each of these views side by side, with what stands below it
abbrev pub hashes_of_views : Hashing → Forest SplitView → List (List ℕ)
hashes_of_views sha NoRoots = []
hashes_of_views sha (Root view subviews others) =
    sha (view_hash_string (roles_digest sha view) (core_digest sha view) (hashes_of_views sha subviews)) ∷ hashes_of_views sha others

-- What a tree shows of a view. Hidden: its hash alone. Passed: what stands below it. Named: its informees and confirmers too. Whole: its contents too.
pub data Visibility : Type 0 where
  Hidden : Visibility
  Passed : Visibility
  Named : Visibility
  Whole : Visibility

-- only the view's hash is shown
abbrev pub is_hidden : Visibility → Bool
is_hidden Hidden = true
is_hidden Passed = false
is_hidden Named = false
is_hidden Whole = false

-- the view's informees and confirmers are shown
abbrev pub shows_roles : Visibility → Bool
shows_roles Hidden = false
shows_roles Passed = false
shows_roles Named = true
shows_roles Whole = true

-- the view's contents are shown
abbrev pub shows_core : Visibility → Bool
shows_core Hidden = false
shows_core Passed = false
shows_core Named = false
shows_core Whole = true

-- the views alone, without the marks of what is shown of each
abbrev pub views_shown : Forest (Visibility × SplitView) → Forest SplitView
views_shown = map_forest (λ (m : Visibility × SplitView). m.1)

-- The vertices of these views, each of which is marked with what is shown of it.
abbrev pub vertices_shown : Hashing → Forest (Visibility × SplitView) → Vertices
vertices_shown sha NoRoots = NoVertices
vertices_shown sha (Root marked subviews others) =
    if is_hidden marked.0
    then
    BlindVertex (sha (view_hash_string (roles_digest sha marked.1) (core_digest sha marked.1) (hashes_of_views sha (views_shown subviews))))
    (vertices_shown sha others)
    else
    InnerVertex
    (leaf_of sha (shows_roles marked.0) 3 (marked.1).first.seed (roles_bytes marked.1))
    (leaf_of sha (shows_core marked.0) 4 (marked.1).first.seed (core_bytes marked.1))
    (vertices_shown sha subviews)
    (vertices_shown sha others)

-- One of these views, or of those below them, has a hosted informee; `hosts` tells which parties are hosted.
abbrev pub has_sight : (List ℕ → Bool) → Forest SplitView → Bool
has_sight hosts views = list_any (is_sight hosts) (preorder views)

-- One of these views has a hosted informee; those below them are not counted.
abbrev pub sees_root : (List ℕ → Bool) → Forest SplitView → Bool
sees_root hosts NoRoots = false
sees_root hosts (Root view subviews others) = is_sight hosts view || sees_root hosts others

-- What a participant's tree shows of a view: the whole view, if the participant sees it (`sees`); else what stands below it, if the participant sees a
-- view below it (`below`); else its hash alone.
abbrev pub visibility : (sees below : Bool) → Visibility
visibility sees below = if sees then Whole else (if below then Passed else Hidden)

-- Each of these views marked with what its tree shows to a participant that hosts these parties; `above` tells whether it sees a view above them.
abbrev pub shown_to : (hosts : List ℕ → Bool) (above : Bool) → Forest SplitView → Forest (Visibility × SplitView)
shown_to hosts above NoRoots = NoRoots
shown_to hosts above (Root view subviews others) =
    Root (visibility (above || is_sight hosts view) (has_sight hosts subviews), view)
    (shown_to hosts (above || is_sight hosts view) subviews)
    (shown_to hosts above others)

-- A view marked with what the mediator's tree shows of every view: its informees and confirmers.
abbrev pub informees_alone : SplitView → Visibility × SplitView
informees_alone view = (Named, view)

-- the salts of the common leaf and of the requesters leaf
pub record Salts : Type 0 where
  pub common : List ℕ
  pub requesters : List ℕ

-- A tree of a transaction, with these salts of its common and its requesters leaf. The common leaf is shown, the requesters where `shows_requesters`
-- says so, and of each view what it is marked with.
abbrev pub tree_with : Hashing → Salts → (sender : List ℕ) (shows_requesters : Bool) → Transaction → Forest (Visibility × SplitView) → Tree
tree_with sha salts sender shows_requesters transaction marked =
    record {
      common = leaf_with sha true 1 salts.common (common_bytes sender transaction.ledger_time);
      requesters = leaf_with sha shows_requesters 2 salts.requesters (spell_parties transaction.requesters);
      views = vertices_shown sha marked;
    }

-- The tree for a participant that hosts these parties, of a transaction with these views. `sends` tells whether the participant is the sender; the
-- sender and who sees a root view are shown the requesters.
abbrev pub tree_to : Hashing → Salts → (sender : List ℕ) → Transaction → Forest SplitView → (hosts : List ℕ → Bool) (sends : Bool) → Tree
tree_to sha salts sender transaction views hosts sends =
    tree_with sha salts sender (sees_root hosts views || sends) transaction (shown_to hosts false views)

-- the mediator's tree of a transaction with these views
abbrev pub tree_to_mediator : Hashing → Salts → (sender : List ℕ) → Transaction → Forest SplitView → Tree
tree_to_mediator sha salts sender transaction views = tree_with sha salts sender false transaction (map_forest informees_alone views)

-- The root hash of a transaction with these views, which all of its trees have in common.
abbrev pub digest_with : Hashing → Salts → (sender : List ℕ) → Transaction → Forest SplitView → List ℕ
digest_with sha salts sender transaction views =
    sha (tree_hash_string
    (sha (leaf_hash_string 1 salts.common (common_bytes sender transaction.ledger_time)))
    (sha (leaf_hash_string 2 salts.requesters (spell_parties transaction.requesters)))
    (hashes_of_views sha views))

-- the salts that a sender makes of its transaction's seed
abbrev pub salts_of : Hashing → (seed : List ℕ) → Salts
salts_of sha seed = record { common = salt_of sha 1 seed; requesters = salt_of sha 2 seed }

-- the transaction that was split into these views
abbrev pub transaction_of : Views → Transaction
transaction_of views = record { requesters = views.act_as; ledger_time = views.ledger_time; roots = assembled views.roots }

-- The tree of the transaction that was split into these views, for a participant that hosts these parties. `is_sender` tells whether it is the
-- sender.
abbrev pub blind_to : Hashing → Views → (sender : List ℕ) (hosts : List ℕ → Bool) (is_sender : Bool) → Tree
blind_to sha views sender hosts is_sender =
    tree_to sha (salts_of sha views.seed) sender (transaction_of views) views.roots hosts is_sender

-- the mediator's tree of the transaction that was split into these views, with the salts of its seed
abbrev pub blind_for_mediator : Hashing → Views → (sender : List ℕ) → Tree
blind_for_mediator sha views sender =
    tree_to_mediator sha (salts_of sha views.seed) sender (transaction_of views) views.roots

-- whether there is a host and it has this name
abbrev pub has_name : Option Host → List ℕ → Bool
has_name None name = false
has_name (Some host) name = same_name host.name name

-- whether the host at index p is there and has this name
abbrev pub is_host_named : List Host → ℕ → List ℕ → Bool
is_host_named hosts p name = has_name (slice_get hosts p) name

-- the tree for a recipient, participant p or the mediator, of the transaction that was split into these views; `sender` is the sender's name, and the
-- list of hosts is the topology's
abbrev pub blind_for : Hashing → Views → (sender : List ℕ) → List Host → Recipient → Tree
blind_for sha views sender hosts (Participant p) = blind_to sha views sender (hosts_at hosts p) (is_host_named hosts p sender)
blind_for sha views sender hosts Mediator = blind_for_mediator sha views sender

-- The root hash that all trees of the transaction have which was split into these views; `sender` is the sender's name.
abbrev pub transaction_digest : Hashing → Views → (sender : List ℕ) → List ℕ
transaction_digest sha views sender =
    digest_with sha (salts_of sha views.seed) sender (transaction_of views) views.roots
