-- What one more item leaves of a participant.
use Rattle.std.proofs.Common.{◌≡◌, ◌≤◌, ◌∷◌, ◌++◌, [], ℕ, Bool, List, append-nil, true, false, length, Some, get_or, refl, sym, ap, ◌∙◌, subst, arith}
use Rattle.std.specs.Prelude.{All, slice_get}
use Rattle.std.proofs.lemmas.Option.{slice_get-get_or}
use Rattle.ledger_terms.specs.declared.topology.Topology.{Topology}
use Rattle.lang_eval.specs.Found.{Packages}
use Rattle.ledger_model.specs.Terms.{ParticipantId}
use Rattle.canton_model.specs.Inbox.{Item}
use Rattle.world_model.specs.Node.{owes_at}
use Rattle.node_inbox.specs.InboxState.{InboxState, params_of, reading_of, with_item}
use Rattle.node_core.specs.Duties.{Kept, with_owed, with_room}
use Rattle.node_core.specs.Kept.{IsKept}
use Rattle.node_core.proofs.Growth.{where_below}
use Rattle.node_core.proofs.KeptSteps.{item_keeps, placed_if}

-- an inbox and what is kept of claims and responses belong to the participant with these: its invariant
abbrev pub BelongTo : ParticipantId → Topology → Packages → InboxState → Kept → Type 0
BelongTo me topology packages i kept =
    (me ≡ i.me) × IsKept (reading_of i) (params_of i) i.me i.items kept × (topology ≡ i.topology) × (packages ≡ i.packages)

-- there is room for the place of the item
module _ {me : ParticipantId} {topology : Topology} {packages : Packages} (i : InboxState) (kept : Kept) (were : BelongTo me topology packages i kept)
    (room : Kept) (same : room ≡ with_room kept room.room) (place : ℕ) (here : place ≡ length i.items) where
  -- what was owed before stands before the item
  pub owed_before : All (λ (k : ℕ). k ≤ place) room.owed
  owed_before k d lt =
      let owed = ap (λ (x : Kept). x.owed) same ∙ (were.1).owed in
      let there = subst (λ (xs : List ℕ). slice_get xs k ≡ Some (get_or room.owed k d)) owed (slice_get-get_or room.owed k d lt) in
      let below = where_below (owes_at (reading_of i) i.me i.items) 0 (length i.items) k (get_or room.owed k d) there in
      omega (arith, below, here)

  module _ (item : Item) (new : InboxState) (came : new ≡ with_item i item) where
    after_item : (owes : Bool) (after : Kept) → owes_at (reading_of new) new.me new.items place ≡ owes → after.owed ≡ room.owed ++ placed_if owes place
        → after.passed ≡ room.passed → after.claimed ≡ room.claimed → after.unfinished ≡ room.unfinished → after.outbox ≡ room.outbox
        → BelongTo me topology packages new after
    after_item owes after is owed passed claimed unfinished outbox =
        let owes_there =
        subst (λ (n : ℕ). owes_at (reading_of i) i.me (i.items ++ item ∷ []) n ≡ owes) here
        (subst (λ (x : InboxState). owes_at (reading_of x) x.me x.items place ≡ owes) came is) in
        let all_owed =
        owed
        ∙ (ap (λ (x : Kept). x.owed ++ placed_if owes place) same
        ∙ (ap (λ (n : ℕ). kept.owed ++ placed_if owes n) here ∙ sym (ap (λ (b : Bool). kept.owed ++ placed_if b (length i.items)) owes_there))) in (
          were.0 ∙ sym (ap (λ (x : InboxState). x.me) came),
          subst (λ (x : InboxState). IsKept (reading_of x) (params_of x) x.me x.items after) (sym came)
              (item_keeps (reading_of i) (params_of i) i.me i.items item kept after were.1 all_owed
              (passed ∙ ap (λ (x : Kept). x.passed) same) (claimed ∙ ap (λ (x : Kept). x.claimed) same)
              (unfinished ∙ ap (λ (x : Kept). x.unfinished) same) (outbox ∙ ap (λ (x : Kept). x.outbox) same)),
          were.2 ∙ sym (ap (λ (x : InboxState). x.topology) came),
          were.3 ∙ sym (ap (λ (x : InboxState). x.packages) came),
        )

    -- verdicts are owed there, and the place is put behind the others
    pub belong_if_owed : owes_at (reading_of new) new.me new.items place ≡ true → (after : Kept) → after ≡ with_room (with_owed room place) after.room
        → BelongTo me topology packages new after
    belong_if_owed owes after owe =
        after_item true after owes (ap (λ (x : Kept). x.owed) owe) (ap (λ (x : Kept). x.passed) owe) (ap (λ (x : Kept). x.claimed) owe)
        (ap (λ (x : Kept). x.unfinished) owe) (ap (λ (x : Kept). x.outbox) owe)

    -- none are owed there
    pub belong_if_not : owes_at (reading_of new) new.me new.items place ≡ false → BelongTo me topology packages new room
    belong_if_not owes = after_item false room owes (sym (append-nil room.owed)) refl refl refl refl
