-- What a tree shows against what is seen, and when what is shown can be read and written again.
use Rattle.std.specs.Prelude.{ℕ, suc, ◌≤◌, ◌<◌, ◌^◌, Bool, true, false, List, [], ◌∷◌, ◌++◌, length, map, if◌then◌else◌, ◌||◌}
use Rattle.ledger_terms.specs.Depth.{depth}
use Rattle.ledger_terms.specs.declared.act.Act.{Act}
use Rattle.ledger_terms.specs.Forest.{Forest, NoRoots, Root, preorder, paths_from}
use Rattle.ledger_terms.specs.Roots.{trees_count}
use Rattle.ledger_terms.specs.Names.{IsName}
use Rattle.ledger_terms.specs.declared.limits.TheConstants.{MOST_ACTIONS, MOST_ACTION_DEPTH}
use Rattle.wire_form.specs.InRange.{IsAction, IsHash, IsPartySet}
use Rattle.wire_form.specs.Spelling.{spell_parties}
use Rattle.view_split.specs.Holed.{Holed, NoMore, Inner, Hole, width}
use Rattle.view_split.specs.declared.split_view.SplitView.{SplitView}
use Rattle.view_split.specs.declared.views.Views.{Views}
use Rattle.blind_tree.specs.Vertices.{Vertices, NoVertices, BlindVertex, InnerVertex}
use Rattle.blind_tree.specs.Cores.{levels}
use Rattle.blind_tree.specs.LeafBytes.{common_bytes, core_bytes, roles_bytes}
use Rattle.view_split.specs.SeenViews.{is_sight}
use Rattle.blind_tree.specs.Opening.{view_roles}
use Rattle.blind_tree.specs.declared.leaf.Leaf.{Leaf}
use Rattle.blind_tree.specs.declared.leaf.Leaf.TheVariants.{Blind, Plain}
use Rattle.blind_tree.specs.declared.view_roles.ViewRoles.{ViewRoles}

-- the leaf shows its bytes
abbrev pub is_plain : Leaf → Bool
is_plain (Blind hash) = false
is_plain (Plain salt bytes) = true

-- the path as a list of one, where the truth value is true; else no path
abbrev pub path_if : Bool → List ℕ → List (List ℕ)
path_if shows path = if shows then path ∷ [] else []

-- The paths of these vertices, and of those below them, whose contents leaf shows its bytes. The first of them is number k below the path `above`.
abbrev pub contents_shown : List ℕ → ℕ → Vertices → List (List ℕ)
contents_shown above k NoVertices = []
contents_shown above k (BlindVertex hash others) = contents_shown above (suc k) others
contents_shown above k (InnerVertex informees contents subviews others) =
    path_if (is_plain contents) (above ++ k ∷ []) ++ (contents_shown (above ++ k ∷ []) 0 subviews ++ contents_shown above (suc k) others)

-- The paths of these views, and of those below them, that are seen: those with a hosted informee, and all below one. `sees` tells whether a view above
-- is seen; the first view is number k below the path `above`.
abbrev pub paths_seen : (List ℕ → Bool) → Bool → List ℕ → ℕ → Forest SplitView → List (List ℕ)
paths_seen hosts sees above k NoRoots = []
paths_seen hosts sees above k (Root view subviews others) =
    path_if (sees || is_sight hosts view) (above ++ k ∷ [])
    ++ (paths_seen hosts (sees || is_sight hosts view) (above ++ k ∷ []) 0 subviews ++ paths_seen hosts sees above (suc k) others)

-- The informees and confirmers of these views and of all below them, with their paths. The first view is number k below the path `above`.
abbrev pub roles_of_all : List ℕ → ℕ → Forest SplitView → List ViewRoles
roles_of_all above k views =
    map (λ (v : List ℕ × SplitView). view_roles v.0 ((v.1).informees, (v.1).confirmers)) (preorder (paths_from above k views))

-- What stands below an action of a core can be read again: actions with seeds that the formats can hold, and at most 63 children of each.
abbrev pub AreChildren : Holed Act → Type 0
AreChildren NoMore = Unit {0}
AreChildren (Inner act below others) = IsHash act.seed × IsAction act.action × (width below ≤ 63) × AreChildren below × AreChildren others
AreChildren (Hole others) = AreChildren others

-- The core with this first action can be read again: its actions can, each has at most 63 children, and they stand on at most 16 levels.
pub record IsCore (first : Act) (below : Holed Act) : Type 0 where
  pub seed_is : IsHash first.seed
  pub action_is : IsAction first.action
  pub few : width below ≤ 63
  pub nested : levels below ≤ 15
  pub children : AreChildren below

-- the view can be read again: its informees and confirmers are sets of parties, and its core can be read again
pub record IsView (view : SplitView) : Type 0 where
  pub informees_are : IsPartySet view.informees
  pub confirmers_are : IsPartySet view.confirmers
  pub core : IsCore view.first view.below

-- each of these views and of those below them can be read again
abbrev pub AreViews : Forest SplitView → Type 0
AreViews NoRoots = Unit {0}
AreViews (Root view subviews others) = IsView view × AreViews subviews × AreViews others

-- The trees of a transaction can be read again: `sender` is a name, the ledger time fits 64 bits, the requesters are a set of parties, and each view
-- can be read again.
pub record AreInRange (sender : List ℕ) (views : Views) : Type 0 where
  pub sender_is : IsName sender
  pub time_fits : views.ledger_time < 2 ^ 64
  pub requesters_are : IsPartySet views.act_as
  pub each : AreViews views.roots

-- The leaves of these views and of those below them have fewer than 2^32 bytes, and at most 64 views stand side by side below each.
abbrev pub AreSmall : Forest SplitView → Type 0
AreSmall NoRoots = Unit {0}
AreSmall (Root view subviews others) =
    (length (roles_bytes view) < 2 ^ 32) × (length (core_bytes view) < 2 ^ 32) × (trees_count subviews ≤ MOST_ACTIONS) × AreSmall subviews × AreSmall others

-- Trees of the transaction have room in a spelling: leaves of fewer than 2^32 bytes, at most 64 views side by side and 16 one below another.
pub record IsSmall (sender : List ℕ) (views : Views) : Type 0 where
  pub common : length (common_bytes sender views.ledger_time) < 2 ^ 32
  pub requesters : length (spell_parties views.act_as) < 2 ^ 32
  pub few : trees_count views.roots ≤ MOST_ACTIONS
  pub nested : depth views.roots ≤ MOST_ACTION_DEPTH
  pub each : AreSmall views.roots
