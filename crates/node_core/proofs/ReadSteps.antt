-- What the last entry of a genuine list is to a participant that has read the entries before it.
use Rattle.std.proofs.Common.{◌≡◌, ◌<◌, Bool, true, ℕ, List, [], ◌∷◌, ◌++◌, length, take, Some, sym, ap, ◌∙◌, subst}
use Rattle.std.specs.Prelude.{slice_get}
use Rattle.canton_model.specs.Inbox.{Item, inbox, item_after, last_time}
use Rattle.world_model.specs.Messages.{Entry, Request, RequestMessage}
use Rattle.world_model.specs.Node.{read_entry}
use Rattle.node_inbox.specs.Entries.{item_from}
use Rattle.node_inbox.specs.InboxState.{InboxState, params_of, reading_of, with_item}
use Rattle.node_core.specs.Duties.{Kept, state_of}
use Rattle.node_core.specs.Participant.{CanRead, IsPrunedTo, Participant, with_state}
use Rattle.node_core.proofs.LogEnds.{before_last, framed_there, rises}
use Rattle.node_core.proofs.Pruned.{item_is, kept_grown, pruned_alike, pruned_last, stays_pruned, time_stays}

abbrev pub participant_of : InboxState → Bool → Kept → Participant
participant_of i is_paused kept =
    record {
      topology = i.topology;
      packages = i.packages;
      me = i.me;
      base = i.base;
      base_time = i.base_time;
      start = i.start;
      state = state_of i.items is_paused kept;
    }

module _ (i : InboxState) (is_paused : Bool) (kept : Kept) (list : List Entry) (can : CanRead (participant_of i is_paused kept) list)
    (entry : Entry) (there : slice_get list (length i.items) ≡ Some entry) where
  abbrev before : List Item
  before = inbox (reading_of i) i.me (take (length i.items) list)

  pub rises_here : last_time i.items < entry.time
  rises_here =
      subst (λ (t : ℕ). t < entry.time) (sym (pruned_last before (participant_of i is_paused kept) can.before))
      (rises (reading_of i) i.me (params_of i) list (take (length i.items) list) entry can.genuine (before_last list (length i.items) entry can.cursor there))

  pub framed_here : (q : Request) → entry.message ≡ RequestMessage q → (reading_of i).is_framed q ≡ true
  framed_here = framed_there (reading_of i) (params_of i) list (length i.items) entry can.genuine there

  -- it is pruned to its base still
  pub pruned_is : (new : InboxState) (after : Kept) → new ≡ with_item i (item_from (reading_of i) i.me i.items entry)
      → IsPrunedTo (inbox (reading_of i) i.me list) (participant_of new is_paused after)
  pruned_is new after is =
      let n = length i.items in
      let p = participant_of i is_paused kept in
      let was = can.before in
      let alike = pruned_alike before p was in
      let stays = stays_pruned (reading_of i) (params_of i) i.me i.base i.start list n entry can.genuine can.cursor there was.is_base was.starts in
      subst (λ (x : InboxState). IsPrunedTo (inbox (reading_of i) i.me list) (participant_of x is_paused after)) (sym is)
      (record {
        orderly = stays.orderly;
        is_base = stays.based;
        starts = stays.started;
        time =
            was.time
            ∙ sym (time_stays (reading_of i) (params_of i) i.me i.base i.start list n entry can.genuine can.cursor there was.is_base was.starts i.items alike);
        kept =
            kept_grown (reading_of i) (params_of i) i.me i.base i.start list n entry can.genuine can.cursor there was.is_base was.starts i.items alike
            i.base_time was.kept;
      })

  items_are : (front : List Entry) (e : Entry) → list ≡ front ++ e ∷ []
      → i.items ++ item_from (reading_of i) i.me i.items entry ∷ [] ≡ i.items ++ item_after (reading_of i) i.me front e ∷ []
  items_are front e parts =
      let was = can.before in
      ap (λ (x : Item). i.items ++ x ∷ [])
      (item_is (reading_of i) (params_of i) i.me i.base i.start list (length i.items) entry can.genuine can.cursor there was.is_base was.starts i.items
      (pruned_alike before (participant_of i is_paused kept) was) front e parts)

  pub state_is : (new : InboxState) (after : Kept) → new ≡ with_item i (item_from (reading_of i) i.me i.items entry)
      → ((items : List Item) → state_of items is_paused after ≡ state_of items is_paused kept)
      → (front : List Entry) (e : Entry) → list ≡ front ++ e ∷ []
      → participant_of new is_paused after
      ≡ with_state (participant_of i is_paused kept) (read_entry (reading_of i) i.me (state_of i.items is_paused kept) front e)
  state_is new after is same front e parts =
      ap (λ (x : InboxState). participant_of x is_paused after) is
      ∙ (ap (with_state (participant_of i is_paused kept)) (same (i.items ++ item_from (reading_of i) i.me i.items entry ∷ []))
      ∙ ap (λ (items : List Item). with_state (participant_of i is_paused kept) (state_of items is_paused kept)) (items_are front e parts))
