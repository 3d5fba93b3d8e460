-- What a participant offers to its submissions, where no contract is created twice.
use Rattle.std.specs.Prelude.{◌≡◌, ℕ, ◌≤◌, List, [], length, filter, take}
use Rattle.ledger_terms.specs.declared.active_row.ActiveRow.{ActiveRow}
use Rattle.ledger_model.specs.Terms.{Hash, ParticipantId, creates}
use Rattle.canton_model.specs.Genuine.{Genuine, IsReading, NoCollision}
use Rattle.canton_model.specs.Log.{Params}
use Rattle.canton_model.specs.declared.entry.Entry.{Entry}
use Rattle.canton_model.specs.Reading.{Reading}
use Rattle.canton_model.specs.Inbox.{Item, inbox, is_stakeholder_hosted, node_active}
use Rattle.contract_store.specs.Active.{active_rows}
use Rattle.contract_store.specs.Written.{Placed, written, acts_of}
use Rattle.pruned_inbox.specs.Start.{Start, active_kept}
use Rattle.inbox_registry.specs.Changes.{NoneGone, StandsBelow, changes_in, changes_since}
use Rattle.inbox_registry.specs.Order.{IsInOrder}

-- no contract is created by two of these actions
abbrev pub CreatedOnce : List Placed → Type 0
CreatedOnce ps = (c : Hash) → length (filter (creates c) (acts_of ps)) ≤ 1

-- What a participant offers to its submissions are the active contracts at the inbox's end that a start at base b and the items since make, in order of
-- creation, though the store was written in the order of the verdicts. The inbox is in order, no contract is created twice, and none that is gone is
-- created. It is the law `offered_is_active`.
abbrev pub OfferedIsActive : Type 0
OfferedIsActive = (reading : Reading) (party : ParticipantId) (b : ℕ) (start : Start) (items : List Item) → IsInOrder items → StandsBelow b start items
    → CreatedOnce (changes_since reading start items) → NoneGone start (changes_since reading start items) → b ≤ length items
    → filter (λ (a : ActiveRow). is_stakeholder_hosted reading party a.known.instance) (active_rows (written (changes_since reading start items) []))
    ≡ active_kept reading party start items (length items)

-- What a participant offers to its submissions, where its inbox has forgotten nothing, is in order and creates no contract twice, are the model's
-- active contracts at its end. It is the law `offered_is_node_active`.
abbrev pub OfferedIsNodeActive : Type 0
OfferedIsNodeActive = (reading : Reading) (party : ParticipantId) (items : List Item) → IsInOrder items → CreatedOnce (changes_in reading items)
    → filter (λ (a : ActiveRow). is_stakeholder_hosted reading party a.known.instance) (active_rows (written (changes_in reading items) []))
    ≡ node_active reading party items (length items)

-- What a participant offers after the first n entries of a genuine log without collisions are the model's active contracts there: in such a log no
-- contract is created twice. It is the law `offered_of_genuine_log`.
abbrev pub OfferedOfGenuineLog : Type 0
OfferedOfGenuineLog = (reading : Reading) (params : Params) (log : List Entry) (party : ParticipantId) (n : ℕ)
    → IsReading reading → NoCollision reading log → Genuine reading params log → n ≤ length log
    → filter (λ (a : ActiveRow). is_stakeholder_hosted reading party a.known.instance)
    (active_rows (written (changes_in reading (inbox reading party (take n log))) []))
    ≡ node_active reading party (inbox reading party (take n log)) (length (inbox reading party (take n log)))
