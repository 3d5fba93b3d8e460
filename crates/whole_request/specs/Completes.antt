-- The complete envelopes of a request.
use Rattle.std.specs.Prelude.{ℕ, List, [], ◌∷◌, ◌++◌, Option, Some, None, option_map, option_to_list, if◌then◌else◌}
use Rattle.std.specs.List.{list_any}
use Rattle.ledger_terms.specs.Forest.{Forest}
use Rattle.ledger_terms.specs.declared.topology.Topology.{Topology}
use Rattle.ledger_model.specs.Opening.{Transaction, is_root_path}
use Rattle.canton_model.specs.Timeline.{or_else}
use Rattle.canton_model.specs.declared.envelope.Envelope.{Envelope}
use Rattle.canton_model.specs.declared.request.Request.{Request}
use Rattle.view_split.specs.Split.{assembled}
use Rattle.view_split.specs.declared.opened_tree.OpenedTree.{OpenedTree}
use Rattle.view_split.specs.declared.split_view.SplitView.{SplitView}
use Rattle.blind_tree.specs.Opening.{head_at, read_leaf}
use Rattle.blind_tree.specs.declared.tree.Tree.{Tree}
use Rattle.sealed_form.specs.SealedForm.{found, tree_in}
use Rattle.framed_form.specs.FramedForm.{complete_in, offered_by, paths_seen}
use Rattle.whole_request.specs.Places.{Shown, together}
use Rattle.whole_request.specs.declared.complete.Complete.{Complete}
use Rattle.whole_request.specs.declared.whole_transaction.WholeTransaction.{WholeTransaction}

-- what was read back of a request, as the definitions have a transaction
abbrev pub transaction : WholeTransaction → Transaction
transaction whole = record { requesters = whole.requesters; ledger_time = whole.ledger_time; roots = whole.roots }

-- a complete envelope with the paths of the views that its recipient sees, of what it opens and its tree; None where one of the two isn't there
abbrev pub completed : (seen : List (List ℕ)) → Option OpenedTree → Option Tree → Option Complete
completed seen None tree = None
completed seen (Some opened) None = None
completed seen (Some opened) (Some tree) = Some (record { seen = seen; requesters = opened.requesters; tree = tree })

-- an envelope of a request as a complete one, and None where it doesn't open all that its recipient is to see
abbrev pub complete_of : Topology → Request → Envelope → Option Complete
complete_of topology request envelope =
    completed (paths_seen topology envelope.to request) (complete_in (offered_by topology envelope.to request envelope.bytes)) (tree_in envelope.bytes)

-- those of these envelopes of a request that are complete, in their order
abbrev pub completes : Topology → Request → List Envelope → List Complete
completes topology request [] = []
completes topology request (envelope ∷ more) = option_to_list (complete_of topology request envelope) ++ completes topology request more

-- what each of these complete envelopes shows of the root views, with the paths of the views that it opens
abbrev pub shown : List Complete → List Shown
shown [] = []
shown (envelope ∷ more) = (envelope.seen, (envelope.tree).views) ∷ shown more

-- the requesters that a complete envelope tells, where its recipient sees a root view; else None
abbrev pub requesters_told : Complete → Option (List (List ℕ))
requesters_told envelope = if list_any is_root_path envelope.seen then envelope.requesters else None

-- the requesters, from the first of the complete envelopes that tells them; None where none does
abbrev pub requesters_among : List Complete → Option (List (List ℕ))
requesters_among [] = None
requesters_among (envelope ∷ more) = or_else (requesters_told envelope) (requesters_among more)

-- the ledger time that a tree tells in its common leaf, and None where that can't be read
abbrev pub time_told : Tree → Option ℕ
time_told tree = option_map (λ (head : List ℕ × ℕ). head.1) (found (read_leaf head_at tree.common))

-- the transaction with this ledger time, these requesters and the actions of these views; None where one of the three isn't there
abbrev pub transaction_with : Option ℕ → Option (List (List ℕ)) → Option (Forest SplitView) → Option Transaction
transaction_with None requesters views = None
transaction_with (Some ledger_time) None views = None
transaction_with (Some ledger_time) (Some requesters) None = None
transaction_with (Some ledger_time) (Some requesters) (Some views) =
    Some (record { requesters = requesters; ledger_time = ledger_time; roots = assembled views })

-- the transaction that complete envelopes say together, where `told` is the tree that the mediator is told; None where a part of it is in none of
-- them
abbrev pub whole_told : List Complete → (told : Tree) → Option Transaction
whole_told envelopes told = transaction_with (time_told told) (requesters_among envelopes) (together [] 0 (shown envelopes) told.views)
