-- The next place to claim.
use Rattle.std.proofs.Common.{◌≡◌, ℕ, zero, suc, Bool, true, false, ◌&&◌, not, if◌then◌else◌, List, length, find, Option, Some, None, refl, ap, ◌∙◌, inl, inr}
use Rattle.std.specs.Prelude.{is_some}
use Rattle.std.proofs.lemmas.Bool.{cases_Bool, both_ways, and_parts}
use Rattle.ledger_model.specs.Terms.{ParticipantId}
use Rattle.canton_model.specs.Log.{Params}
use Rattle.canton_model.specs.Reading.{Reading}
use Rattle.canton_model.specs.Inbox.{Item, Notice, notice_at}
use Rattle.world_model.specs.Machine.{confirms_some_view}
use Rattle.world_model.specs.Places.{first_from, has_place}
use Rattle.world_model.specs.Node.{is_claimable, is_decided_now, next_claim, owes_at}
use Rattle.world_model.proofs.NodeFacts.{first_from_is}
use Rattle.node_core.specs.Duties.{Kept, is_free, state_of}
use Rattle.node_core.specs.Participant.{is_received_decided, places_where}
use Rattle.node_core.specs.Kept.{IsKept}
use Rattle.node_core.proofs.DutyFacts.{false_if_not}

received_if_asked : (o : Option Notice) → confirms_some_view o ≡ true → is_some o ≡ true
received_if_asked None h = absurd (both_ways false refl h)
received_if_asked (Some notice) h = refl

-- of a request that it owes verdicts to it can tell whether that is decided
pub decided_is : (reading : Reading) (params : Params) (p : ParticipantId) (items : List Item) (k : ℕ) → owes_at reading p items k ≡ true
    → is_received_decided params items k ≡ is_decided_now params items k
decided_is reading params p items k h = rw (received_if_asked (notice_at items k) h) refl

-- the first free one of the owed places
first_free : (owes decided d : ℕ → Bool) (claimed : List ℕ) → ((k : ℕ) → owes k ≡ true → decided k ≡ d k) → (start count : ℕ)
    → find (is_free decided claimed) (places_where owes start count) ≡ first_from (λ k. (owes k && not (d k)) && not (has_place claimed k)) start count
first_free owes decided d claimed agree start zero = refl
first_free owes decided d claimed agree start (suc count) =
    let rest = first_free owes decided d claimed agree (suc start) count in
    elim (cases_Bool (owes start)) [
      | inl b ↦
          rw (b, agree start b)
          (ap (λ (o : Option ℕ). if not (d start) && not (has_place claimed start) then Some start else o) rest)
      | inr b ↦ rw b rest
    ]

module _ (reading : Reading) (params : Params) (p : ParticipantId) (items : List Item) (kept : Kept) (is_paused : Bool) (is : IsKept reading params p items kept) where
  pub free_is_next : find (is_free (is_received_decided params items) kept.claimed) kept.owed ≡ next_claim reading params p (state_of items is_paused kept)
  free_is_next =
      ap (find (is_free (is_received_decided params items) kept.claimed)) is.owed
      ∙ first_free (owes_at reading p items) (is_received_decided params items) (is_decided_now params items) kept.claimed
      (decided_is reading params p items) 0 (length items)

  pub next_is_claimable : (k : ℕ) → next_claim reading params p (state_of items is_paused kept) ≡ Some k
      → is_claimable reading params p (state_of items is_paused kept) k ≡ true
  next_is_claimable k e = (first_from_is (is_claimable reading params p (state_of items is_paused kept)) 0 (length items) k e).passes

  pub next_is_owed : (k : ℕ) → next_claim reading params p (state_of items is_paused kept) ≡ Some k → owes_at reading p items k ≡ true
  next_is_owed k e = (and_parts _ _ (and_parts _ _ (next_is_claimable k e)).0).0

  pub next_is_unclaimed : (k : ℕ) → next_claim reading params p (state_of items is_paused kept) ≡ Some k → has_place kept.claimed k ≡ false
  next_is_unclaimed k e = false_if_not (has_place kept.claimed k) (and_parts _ _ (next_is_claimable k e)).1
