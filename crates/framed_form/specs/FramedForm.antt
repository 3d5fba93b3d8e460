-- What framed requests say: the views that the mediator is told of, and what complete envelopes open of them.
use Rattle.std.specs.Prelude.{ℕ, Bool, List, [], ◌∷◌, ◌++◌, Option, Some, None, option_and_then, Result, Ok, Err, if◌then◌else◌}
use Rattle.std.specs.List.{list_all, list_any}
use Rattle.sha2.specs.Sha256.{sha256}
use Rattle.ledger_terms.specs.Forest.{Forest, NoRoots}
use Rattle.ledger_terms.specs.Hosting.{hosts_at}
use Rattle.ledger_terms.specs.declared.topology.Topology.{Topology}
use Rattle.ledger_model.specs.Opening.{Transaction, is_root_path}
use Rattle.canton_model.specs.declared.envelope.Envelope.{Envelope}
use Rattle.canton_model.specs.declared.request.Request.{Request}
use Rattle.canton_model.specs.Timeline.{or_else}
use Rattle.wire_form.specs.declared.wire_fault.WireFault.{WireFault}
use Rattle.view_split.specs.Placed.{placed_forest}
use Rattle.view_split.specs.SeenViews.{put_back}
use Rattle.view_split.specs.Split.{assembled}
use Rattle.view_split.specs.declared.opened_tree.OpenedTree.{OpenedTree}
use Rattle.view_split.specs.declared.split_view.SplitView.{SplitView}
use Rattle.blind_tree.specs.Leaves.{Sets}
use Rattle.blind_tree.specs.OpenedFor.{is_listed, opened_for_root}
use Rattle.blind_tree.specs.Opening.{head_at, read_leaf}
use Rattle.blind_tree.specs.TreeHashes.{hash_of_root}
use Rattle.blind_tree.specs.declared.shown_for.OpenedFor.{OpenedFor}
use Rattle.blind_tree.specs.declared.shown_for.OpenedFor.TheVariants.{Mismatch, Missing, Open}
use Rattle.blind_tree.specs.declared.tree.Tree.{Tree}
use Rattle.interpret.specs.NamedParties.{parties_in_forest}
use Rattle.sealed_form.specs.SealedForm.{envelope_to, found, tree_in}
use Rattle.sealed_form.specs.Within.{is_hosted}
use Rattle.framed_form.specs.Frames.{roles_read, seen_in}
use Rattle.framed_form.specs.Together.{Part, views_together}

-- ---- what the mediator is told

-- the views that were read, none where there was a fault
abbrev pub forest_in : Result (Forest Sets) WireFault → Forest Sets
forest_in (Ok views) = views
forest_in (Err fault) = NoRoots

-- The views that a tree tells, each with its informees and confirmers. No views where there is no tree, or a vertex or an informees leaf of it is
-- blinded or can't be read.
abbrev pub outline_in : Option Tree → Forest Sets
outline_in None = NoRoots
outline_in (Some tree) = forest_in (roles_read tree.views)

-- the views that the mediator is told of, each with its informees and confirmers; no views where these can't be read in its bytes
abbrev pub outline_of : Request → Forest Sets
outline_of request = outline_in (tree_in request.mediator)

-- the root hash of a tree, [] where there is no tree
abbrev pub root_in : Option Tree → List ℕ
root_in None = []
root_in (Some tree) = hash_of_root sha256 tree

-- the root hash of the mediator's tree of a request, [] where its bytes spell no tree
abbrev pub root_of : Request → List ℕ
root_of request = root_in (tree_in request.mediator)

-- The paths of the views that participant p sees: those with an informee that it hosts, and those below them.
abbrev pub paths_seen : Topology → ℕ → Request → List (List ℕ)
paths_seen topology p request = seen_in (hosts_at topology.hosts p) (outline_of request)

-- participant p sees a root view of the request
abbrev pub sees_root_view : Topology → ℕ → Request → Bool
sees_root_view topology p request = list_any is_root_path (paths_seen topology p request)

-- ---- what an envelope opens

-- each party that an opened action names is one of the topology
abbrev pub names_known : Topology → OpenedTree → Bool
names_known topology opened = list_all (is_hosted topology) (parties_in_forest (put_back (placed_forest opened.views)))

-- What was opened, where it names parties of the topology alone; else it counts as Missing.
abbrev pub if_known : Topology → OpenedFor → OpenedFor
if_known topology Mismatch = Mismatch
if_known topology Missing = Missing
if_known topology (Open opened) = if names_known topology opened then Open opened else Missing

-- What an envelope with these bytes offers participant p: all that it is to see (Open); or a tree of the request that doesn't show all of that, or in
-- which it can't be read, or an action of which names a party that the topology lacks (Missing); or no tree with the mediator's root hash (Mismatch).
abbrev pub offered_by : Topology → ℕ → Request → List ℕ → OpenedFor
offered_by topology p request bytes =
    if_known topology (opened_for_root (root_of request) (paths_seen topology p request) (sees_root_view topology p request) bytes)

-- what an envelope with these bytes, if there is one, offers participant p; Missing where there is none
abbrev pub offered_in : Topology → ℕ → Request → Option (List ℕ) → OpenedFor
offered_in topology p request None = Missing
offered_in topology p request (Some bytes) = offered_by topology p request bytes

-- what the first envelope to participant p offers it; Missing where there is no envelope
abbrev pub offered : Topology → ℕ → Request → OpenedFor
offered topology p request = offered_in topology p request (envelope_to p request.envelopes)

-- the opened tree, None where the envelope isn't complete
abbrev pub complete_in : OpenedFor → Option OpenedTree
complete_in Mismatch = None
complete_in Missing = None
complete_in (Open opened) = Some opened

-- what the envelope to participant p opens to it, None where it isn't complete
abbrev pub opened_to : Topology → ℕ → Request → Option OpenedTree
opened_to topology p request = complete_in (offered topology p request)

-- ---- what complete envelopes say together

-- The part of an envelope, as a list of one: its tree's vertices, and the test `opens` of which paths it opens. Empty where nothing was opened (None),
-- or where there is no tree.
abbrev pub part_if : (opens : List ℕ → Bool) → Option OpenedTree → Option Tree → List Part
part_if opens None tree = []
part_if opens (Some opened) None = []
part_if opens (Some opened) (Some tree) = record { opens = opens; views = tree.views } ∷ []

-- The vertices of an envelope with the paths of the views that it opens, as a list of one, where it is complete; else no part.
abbrev pub part_of : Topology → Request → Envelope → List Part
part_of topology request envelope =
    part_if (is_listed (paths_seen topology envelope.to request)) (complete_in (offered_by topology envelope.to request envelope.bytes))
    (tree_in envelope.bytes)

-- the parts of these envelopes, in order
abbrev pub parts_of : Topology → Request → List Envelope → List Part
parts_of topology request [] = []
parts_of topology request (envelope ∷ envelopes) = part_of topology request envelope ++ parts_of topology request envelopes

-- All views of a request, each from the first complete envelope that opens it; None where some view is opened by none.
abbrev pub whole_views : Topology → Request → Option (Forest SplitView)
whole_views topology request = views_together [] 0 (parts_of topology request request.envelopes) (outline_of request)

-- the requesters that an opened tree shows, None where it shows none or there is no tree
abbrev pub requesters_in : Option OpenedTree → Option (List (List ℕ))
requesters_in None = None
requesters_in (Some opened) = opened.requesters

-- The requesters, from the first complete one of these envelopes to a participant that sees a root view; None where there is none.
abbrev pub requesters_of : Topology → Request → List Envelope → Option (List (List ℕ))
requesters_of topology request [] = None
requesters_of topology request (envelope ∷ envelopes) =
    or_else
    (if sees_root_view topology envelope.to request then requesters_in (complete_in (offered_by topology envelope.to request envelope.bytes)) else None)
    (requesters_of topology request envelopes)

-- sender and ledger time, as the mediator reads them; None where they can't be read
abbrev pub head_of : Request → Option (List ℕ × ℕ)
head_of request = option_and_then (λ (tree : Tree). found (read_leaf head_at tree.common)) (tree_in request.mediator)

-- A transaction as it is read back, in its views, with the name of its sender.
pub record Whole : Type 0 where
  pub sender : List ℕ
  pub ledger_time : ℕ
  pub requesters : List (List ℕ)
  pub views : Forest SplitView

-- the transaction itself, its actions put together of its views
abbrev pub transaction_of : Whole → Transaction
transaction_of whole = record { requesters = whole.requesters; ledger_time = whole.ledger_time; roots = assembled whole.views }

-- a whole made of head (sender and ledger time), requesters and views, None where one of these is missing
abbrev pub whole_with : Option (List ℕ × ℕ) → Option (List (List ℕ)) → Option (Forest SplitView) → Option Whole
whole_with None requesters views = None
whole_with (Some head) None views = None
whole_with (Some head) (Some requesters) None = None
whole_with (Some head) (Some requesters) (Some views) =
    Some (record { sender = head.0; ledger_time = head.1; requesters = requesters; views = views })

-- the whole transaction of a request, read from its complete envelopes; None where these don't open all of it
abbrev pub whole_of : Topology → Request → Option Whole
whole_of topology request = whole_with (head_of request) (requesters_of topology request request.envelopes) (whole_views topology request)
