-- What is read of a tree, in the order in which it is read. The first fault decides the place: 0 for a leaf or a vertex that
-- shows its hash alone, else the place in the bytes of the leaf that is read.
use Rattle.std.specs.Prelude.{ℕ, suc, nat_eq, Bool, true, false, List, [], ◌∷◌, ◌++◌, length, Option, Some, None, Result, Ok, Err, if◌then◌else◌}
use Rattle.std.specs.Int.{w64}
use Rattle.wire_form.specs.Formats.{Reading, both_at}
use Rattle.wire_form.specs.Fields.{name_at, number_at}
use Rattle.wire_form.specs.Reading.{set_at}
use Rattle.wire_form.specs.declared.wire_fault.WireFault.{WireFault}
use Rattle.wire_form.specs.declared.wire_fault.WireFault.TheVariants.{Bad}
use Rattle.ledger_terms.specs.Forest.{Forest, NoRoots, join}
use Rattle.view_split.specs.Holed.{holes}
use Rattle.view_split.specs.CoreLists.{act_of}
use Rattle.view_split.specs.declared.split_view.SplitView.{SplitView}
use Rattle.ledger_terms.specs.Grown.{tree_of}
use Rattle.view_split.specs.declared.core_node.CoreNode.{CoreNode}
use Rattle.view_split.specs.ViewTrees.{View}
use Rattle.view_split.specs.declared.placed_view.PlacedView.{PlacedView}
use Rattle.view_split.specs.declared.opened_tree.OpenedTree.{OpenedTree}
use Rattle.blind_tree.specs.Vertices.{Vertices, NoVertices, BlindVertex, InnerVertex, count}
use Rattle.blind_tree.specs.CoreReading.{core_at}
use Rattle.blind_tree.specs.Reading.{read_all}
use Rattle.blind_tree.specs.declared.leaf.Leaf.{Leaf}
use Rattle.blind_tree.specs.declared.leaf.Leaf.TheVariants.{Blind, Plain}
use Rattle.blind_tree.specs.declared.tree.Tree.{Tree}
use Rattle.blind_tree.specs.declared.view_roles.ViewRoles.{ViewRoles}
use Rattle.blind_tree.specs.declared.roles_tree.RolesTree.{RolesTree}

-- Hands what was read on to `go`, which reads further, as Rust's `and_then` does. A fault stays as it is, and `go` isn't asked.
abbrev pub with_read : {A B : Type 0} → Result A WireFault → (A → Result B WireFault) → Result B WireFault
with_read (Ok x) go = go x
with_read (Err fault) go = Err fault

-- What the whole bytes of a leaf hold, by this reading. A leaf that shows its hash alone is a fault at place 0.
abbrev pub read_leaf : {A : Type 0} → Reading A → Leaf → Result A WireFault
read_leaf read (Blind hash) = Err (Bad 0)
read_leaf read (Plain salt bytes) = read_all read bytes

-- the reading of a common leaf's bytes: sender and ledger time
unfoldable pub head_at : Reading (List ℕ × ℕ)
head_at = both_at name_at (number_at w64)

-- the reading of an informees leaf's bytes: informees and confirmers
unfoldable pub roles_at : Reading (List (List ℕ) × List (List ℕ))
roles_at = both_at set_at set_at

-- the informees and confirmers with the path of their view
abbrev pub view_roles : List ℕ → List (List ℕ) × List (List ℕ) → ViewRoles
view_roles path roles = record { path = path; informees = roles.0; confirmers = roles.1 }

-- The informees and confirmers of these vertices' views, the first of which is number k below the path `above`, each before those below it. Err (Bad)
-- where a vertex or its informees leaf is blinded or can't be read.
abbrev pub roles_listed : List ℕ → ℕ → Vertices → Result (List ViewRoles) WireFault
roles_listed above k NoVertices = Ok []
roles_listed above k (BlindVertex hash others) = Err (Bad 0)
roles_listed above k (InnerVertex informees contents subviews others) =
    with_read (read_leaf roles_at informees) (λ roles. with_read (roles_listed (above ++ k ∷ []) 0 subviews) (λ below.
    with_read (roles_listed above (suc k) others) (λ rest. Ok (view_roles (above ++ k ∷ []) roles ∷ (below ++ rest)))))

-- What the mediator reads of a tree: its sender, and each view's informees and confirmers. Err (Bad) where the common leaf, a vertex or an informees
-- leaf is blinded or can't be read.
abbrev pub informee_tree_of : Tree → Result RolesTree WireFault
informee_tree_of tree =
    with_read (read_leaf head_at tree.common) (λ head. with_read (roles_listed [] 0 tree.views) (λ views. Ok (record { sender = head.0; views = views })))

-- ---- what a participant opens

-- both leaves of a vertex, the informees leaf and the contents leaf, show their bytes
abbrev pub is_open : Leaf → Leaf → Bool
is_open (Plain salt bytes) (Plain salt2 bytes2) = true
is_open (Plain salt bytes) (Blind hash) = false
is_open (Blind hash) leaf = false

-- how many bytes a leaf shows, 0 where it shows its hash alone
abbrev pub leaf_length : Leaf → ℕ
leaf_length (Blind hash) = 0
leaf_length (Plain salt bytes) = length bytes

-- what the two leaves of a view hold: informees and confirmers, and a core
abbrev pub ViewParts : Type 0
ViewParts = (List (List ℕ) × List (List ℕ)) × CoreNode

-- the view with these parts and these views below it
abbrev pub view_of : ViewParts → Forest SplitView → View
view_of parts below =
    record { root = record { informees = parts.0.0; confirmers = parts.0.1; first = act_of parts.1; below = (parts.1).children }; below = below }

-- What the leaves of a vertex with so many vertices below it hold: first the informees leaf is read, then the contents leaf, and then its core has to
-- have as many holes, else the fault is at the end of its bytes.
abbrev pub parts_read : (informees contents : Leaf) (subviews : ℕ) → Result ViewParts WireFault
parts_read informees contents subviews =
    with_read (read_leaf roles_at informees) (λ roles. with_read (read_leaf core_at contents) (λ core.
    if nat_eq (holes core.children) subviews then Ok (roles, core) else Err (Bad (leaf_length contents))))

-- the view with these parts, without those below it
abbrev pub own_view : ViewParts → SplitView
own_view parts = (view_of parts NoRoots).root

-- the view without those below it, read from the two leaves of a vertex that has so many vertices below it; a fault as of `parts_read`
abbrev pub own_view_read : (informees contents : Leaf) (subviews : ℕ) → Result SplitView WireFault
own_view_read informees contents subviews = with_read (parts_read informees contents subviews) (λ parts. Ok (own_view parts))

-- All the views of these vertices and those below them, as trees. Err (Bad) where a vertex or one of its leaves is blinded or can't be read, or a core
-- has another number of holes than there are vertices directly below it.
abbrev pub views_read : Vertices → Result (Forest SplitView) WireFault
views_read NoVertices = Ok NoRoots
views_read (BlindVertex hash others) = Err (Bad 0)
views_read (InnerVertex informees contents subviews others) =
    with_read (parts_read informees contents (count subviews)) (λ parts. with_read (views_read subviews) (λ below.
    with_read (views_read others) (λ rest. Ok (join (tree_of (view_of parts below)) rest))))

-- The view of a vertex, by its two leaves and the vertices below it, with all views below it. A fault of its leaves is that of `parts_read`, and one
-- below it that of `views_read`.
abbrev pub view_read : (informees contents : Leaf) → Vertices → Result View WireFault
view_read informees contents subviews =
    with_read (parts_read informees contents (count subviews)) (λ parts. with_read (views_read subviews) (λ below. Ok (view_of parts below)))

-- a view with its path
abbrev pub placed : List ℕ → View → PlacedView
placed path view = record { path = path; view = view }

-- The topmost vertices whose two leaves show their bytes, each read with all below it; Err (Bad) where one can't be read. The first of these vertices
-- is number k below the path `above`.
abbrev pub views_opened : List ℕ → ℕ → Vertices → Result (List PlacedView) WireFault
views_opened above k NoVertices = Ok []
views_opened above k (BlindVertex hash others) = views_opened above (suc k) others
views_opened above k (InnerVertex informees contents subviews others) =
    if is_open informees contents
    then with_read (view_read informees contents subviews) (λ view.
    with_read (views_opened above (suc k) others) (λ rest. Ok (placed (above ++ k ∷ []) view ∷ rest)))
    else with_read (views_opened (above ++ k ∷ []) 0 subviews) (λ first. with_read (views_opened above (suc k) others) (λ rest. Ok (first ++ rest)))

-- What a leaf holds that need not be shown: None where it shows its hash alone, and a fault where its bytes can't be read.
abbrev pub read_if_plain : {A : Type 0} → Reading A → Leaf → Result (Option A) WireFault
read_if_plain read (Blind hash) = Ok None
read_if_plain read (Plain salt bytes) = with_read (read_all read bytes) (λ x. Ok (Some x))

-- What a participant reads of a tree: sender, ledger time, the requesters where they are shown, and the topmost views whose two leaves are shown, with
-- all below them. Err (Bad) where the common leaf is blinded or something shown can't be read.
abbrev pub tree_opened : Tree → Result OpenedTree WireFault
tree_opened tree =
    with_read (read_leaf head_at tree.common) (λ head. with_read (read_if_plain set_at tree.requesters) (λ requesters.
    with_read (views_opened [] 0 tree.views) (λ views. Ok (record { sender = head.0; ledger_time = head.1; requesters = requesters; views = views }))))
