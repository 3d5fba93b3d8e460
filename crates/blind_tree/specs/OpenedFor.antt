-- What is opened of a tree, where just these views are to be seen.
use Rattle.std.specs.Prelude.{ℕ, suc, nat_eq, Bool, true, false, ◌&&◌, ◌||◌, List, [], ◌∷◌, ◌++◌, Option, Some, None, Result, Ok, Err, if◌then◌else◌}
use Rattle.std.specs.List.{list_all, list_any}
use Rattle.std.specs.Str.{bytes_eq}
use Rattle.sha2.specs.Sha256.{sha256}
use Rattle.wire_form.specs.Reading.{set_at}
use Rattle.wire_form.specs.declared.wire_fault.WireFault.{WireFault}
use Rattle.wire_form.specs.declared.wire_fault.WireFault.TheVariants.{Bad}
use Rattle.view_split.specs.declared.placed_view.PlacedView.{PlacedView}
use Rattle.view_split.specs.declared.opened_tree.OpenedTree.{OpenedTree}
use Rattle.blind_tree.specs.Vertices.{Vertices, NoVertices, BlindVertex, InnerVertex}
use Rattle.blind_tree.specs.Opening.{head_at, placed, read_leaf, view_read, with_read}
use Rattle.blind_tree.specs.declared.leaf.Leaf.{Leaf}
use Rattle.blind_tree.specs.Reading.{read_all, tree_at}
use Rattle.blind_tree.specs.TreeHashes.{hash_of_root}
use Rattle.blind_tree.specs.declared.tree.Tree.{Tree}
use Rattle.blind_tree.specs.declared.shown_for.OpenedFor.{OpenedFor}
use Rattle.blind_tree.specs.declared.shown_for.OpenedFor.TheVariants.{Mismatch, Missing, Open}

-- the path is one of these
abbrev pub is_listed : List (List ℕ) → List ℕ → Bool
is_listed paths path = list_any (bytes_eq path) paths

-- nothing is left of the path
abbrev pub is_end : List ℕ → Bool
is_end [] = true
is_end (step ∷ rest) = false

-- Whether the path leads to one of these vertices, the first of which is number k, or to a vertex below one; the path begins with the number of one of
-- them. false for the empty path.
abbrev pub stands_at : ℕ → Vertices → List ℕ → Bool
stands_at k NoVertices path = false
stands_at k (BlindVertex hash others) [] = false
stands_at k (BlindVertex hash others) (step ∷ rest) = if nat_eq step k then is_end rest else stands_at (suc k) others (step ∷ rest)
stands_at k (InnerVertex informees contents subviews others) [] = false
stands_at k (InnerVertex informees contents subviews others) (step ∷ rest) =
    if nat_eq step k then (is_end rest || stands_at 0 subviews rest) else stands_at (suc k) others (step ∷ rest)

-- Whether all of these vertices and all below them are listed; `listed` tells which paths are. The first of them is number k below the path `above`.
abbrev pub are_listed : (List ℕ → Bool) → List ℕ → ℕ → Vertices → Bool
are_listed listed above k NoVertices = true
are_listed listed above k (BlindVertex hash others) = listed (above ++ k ∷ []) && are_listed listed above (suc k) others
are_listed listed above k (InnerVertex informees contents subviews others) =
    listed (above ++ k ∷ []) && (are_listed listed (above ++ k ∷ []) 0 subviews && are_listed listed above (suc k) others)

-- A truth value as an answer that is never a fault: so contracts give the answer of a test that fails for want of memory alone.
abbrev pub answered : Bool → Result Bool WireFault
answered b = Ok b

-- The fault that something which is asked for isn't there: it is blinded, stands nowhere in the tree, or has something below it that isn't listed. The
-- place 0 that Bad has here is that of no byte, and nothing comes of it: `open_or_missing` makes Missing of every fault.
abbrev pub missing : {A : Type 0} → Result A WireFault
missing = Err (Bad 0)

-- The topmost of these vertices whose paths are `listed`, each read with all below it. The first of them is number k below the path `above`. Err (Bad)
-- where a listed one is blinded or can't be read, or one below it isn't listed.
abbrev pub views_listed : (List ℕ → Bool) → List ℕ → ℕ → Vertices → Result (List PlacedView) WireFault
views_listed listed above k NoVertices = Ok []
views_listed listed above k (BlindVertex hash others) =
    if listed (above ++ k ∷ []) then missing else views_listed listed above (suc k) others
views_listed listed above k (InnerVertex informees contents subviews others) =
    if listed (above ++ k ∷ [])
    then (if are_listed listed (above ++ k ∷ []) 0 subviews
    then with_read (view_read informees contents subviews) (λ view.
    with_read (views_listed listed above (suc k) others) (λ rest. Ok (placed (above ++ k ∷ []) view ∷ rest)))
    else missing)
    else with_read (views_listed listed (above ++ k ∷ []) 0 subviews) (λ first.
    with_read (views_listed listed above (suc k) others) (λ rest. Ok (first ++ rest)))

-- The requesters that their leaf shows, where they are asked for (true); None where they aren't. Err (Bad) where they are, and the leaf is blinded or
-- can't be read.
abbrev pub requesters_if : Bool → Leaf → Result (Option (List (List ℕ))) WireFault
requesters_if false leaf = Ok None
requesters_if true leaf = with_read (read_leaf set_at leaf) (λ (names : List (List ℕ)). Ok (Some names))

-- an opened tree made of its parts; `head` is the sender and the ledger time
abbrev pub opened_by : List ℕ × ℕ → Option (List (List ℕ)) → List PlacedView → OpenedTree
opened_by head requesters views = record { sender = head.0; ledger_time = head.1; requesters = requesters; views = views }

-- What a tree opens of the views with these paths, and of the requesters where they are asked for. Err (Bad) where the common leaf, one of these views
-- or the requesters asked for aren't shown or can't be read, or a view below one of them isn't listed.
abbrev pub opened_of_views : (seen : List (List ℕ)) → (requesters : Bool) → Tree → Result OpenedTree WireFault
opened_of_views seen requesters tree =
    if list_all (stands_at 0 tree.views) seen
    then with_read (read_leaf head_at tree.common) (λ (head : List ℕ × ℕ).
    with_read (requesters_if requesters tree.requesters) (λ (names : Option (List (List ℕ))).
    with_read (views_listed (is_listed seen) [] 0 tree.views) (λ (views : List PlacedView). Ok (opened_by head names views))))
    else missing

-- what was opened, or Missing whatever the fault
abbrev pub open_or_missing : Result OpenedTree WireFault → OpenedFor
open_or_missing (Ok opened) = Open opened
open_or_missing (Err fault) = Missing

-- What a tree that was read opens. It is a Mismatch where it couldn't be read or hasn't this root hash.
abbrev pub of_tree : (root : List ℕ) (seen : List (List ℕ)) (requesters : Bool) → Result Tree WireFault → OpenedFor
of_tree root seen requesters (Err fault) = Mismatch
of_tree root seen requesters (Ok tree) =
    if bytes_eq root (hash_of_root sha256 tree) then open_or_missing (opened_of_views seen requesters tree) else Mismatch

-- What an envelope's bytes open of the views with the paths `seen`, and of the requesters if `requesters` says so. Mismatch: the bytes are no tree with
-- this root hash. Missing: they are one, but `opened_of_views` of it is a fault.
abbrev pub opened_for_root : (root : List ℕ) (seen : List (List ℕ)) (requesters : Bool) (bytes : List ℕ) → OpenedFor
opened_for_root root seen requesters bytes = of_tree root seen requesters (read_all tree_at bytes)
