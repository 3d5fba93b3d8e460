-- The log behind its lock, one entry longer, and the slips that it hands out.
use Rattle.std.proofs.Common.{◌≡◌, ℕ, ◌+◌, ◌<◌, List, [], ◌∷◌, ◌++◌, length, take, Option, Some, None, sym, ap, ◌∙◌, subst}
use Rattle.std.specs.Prelude.{IfSome}
use Rattle.ledger_terms.specs.declared.topology.Topology.{Topology}
use Rattle.framed_form.specs.Framed.{is_framed}
use Rattle.world_model.specs.Messages.{Entry, Message, Tick}
use Rattle.world_model.specs.Machine.{Machine, GenuineLog}
use Rattle.world_model.specs.Sequencing.{append_fault, entry_after}
use Rattle.world_model.specs.Fits.{MayStand}
use Rattle.canton_model.proofs.LongerLogs.{genuine_take}
use Rattle.log_row.specs.LogPrefix.{LogPrefix, RowName}
use Rattle.seq_log.specs.Sequenced.{Sequenced, prefix_of}
use Rattle.seq_log.specs.Slips.{prefix_to}
use Rattle.threads_model.specs.Inputs.{is_input, one_if}
use Rattle.threads_model.specs.Behind.{LogBehind}
use Rattle.threads_model.proofs.Submits.{log_more}
use Rattle.sync_shared.specs.Behind.{IsLogBehind}
use Rattle.sync_shared.specs.Slips.{IsTicked}
use mathlib.Core.List.{IsPrefix}

module _ (row : RowName) (m : Machine) (start : List Entry) (total : ℕ) (s : Sequenced) (h : IsLogBehind row m start total s) where
  pub log_grows : (after : Sequenced) (total' now : ℕ) (message : Message)
      → (after.row ≡ s.row) × (after.capacity ≡ s.capacity) × (after.topology ≡ s.topology)
      → MayStand m s.list message → append_fault m s.list message ≡ None
      → after.list ≡ s.list ++ entry_after now s.list message ∷ [] → total' ≡ total + one_if (is_input message)
      → IsLogBehind row m start total' after
  log_grows after total' now message made may none is more =
      record {
        in_row = made.0 ∙ h.in_row;
        is_for = record {
          params = (h.is_for).params ∙ ap (λ (t : Topology). t.params) (sym made.2);
          framed = λ q. (h.is_for).framed q ∙ ap (λ (t : Topology). is_framed t q) (sym made.2);
          capacity = (h.is_for).capacity ∙ sym made.1;
        };
        behind = subst (LogBehind m start total') (sym is) (log_more m start s.list total total' now message h.behind may none more);
      }

  -- what is told of an entry that was appended, over the list that its caller knows
  pub appended : (list : List Entry) → s.list ≡ list → (after : Sequenced) (slip : LogPrefix) (now : ℕ) (message : Message)
      → (after.row ≡ s.row) × (after.capacity ≡ s.capacity) × (after.topology ≡ s.topology) → append_fault m s.list message ≡ None
      → after.list ≡ s.list ++ entry_after now s.list message ∷ [] → slip ≡ prefix_of after
      → (append_fault m list message ≡ None) × (after.list ≡ list ++ entry_after now list message ∷ []) × (slip.row ≡ row) × (slip.list ≡ after.list)
  appended list view after slip now message made none is told = (
    subst (λ (xs : List Entry). append_fault m xs message ≡ None) view none,
    is ∙ ap (λ (xs : List Entry). xs ++ entry_after now xs message ∷ []) view,
    ap (λ (t : LogPrefix). t.row) told ∙ (made.0 ∙ h.in_row),
    ap (λ (t : LogPrefix). t.list) told,
  )

  pub slip_of : (list : List Entry) → s.list ≡ list → (place : ℕ) (o : Option LogPrefix)
      → IfSome o (λ slip. (place < length s.list) × (slip ≡ prefix_to (prefix_of s) (place + 1)))
      → IfSome o (λ slip. (place < length list) × (slip.row ≡ row) × (slip.list ≡ take (place + 1) list) × GenuineLog m slip.list)
  slip_of list view place None e = tt
  slip_of list view place (Some slip) e =
      let is : slip.list ≡ take (place + 1) s.list = ap (λ (t : LogPrefix). t.list) e.1 in (
        subst (λ (xs : List Entry). place < length xs) view e.0,
        ap (λ (t : LogPrefix). t.row) e.1 ∙ h.in_row,
        is ∙ ap (take (place + 1)) view,
        subst (GenuineLog m) (sym is) (genuine_take m.reading m.params s.list (place + 1) (((h.behind).sequencer).genuine)),
      )

-- a Tick that is appended to a log that goes on from what was known
pub is_ticked : (now : ℕ) (known log list : List Entry) → IsPrefix known log → list ≡ log ++ entry_after now log Tick ∷ [] → IsTicked now known list
is_ticked now known log list begins is =
    record { more = begins.0; is = is ∙ ap (λ (xs : List Entry). xs ++ entry_after now xs Tick ∷ []) (sym begins.1) }
