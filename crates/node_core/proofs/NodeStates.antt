-- The state of a participant by its inbox and by what it keeps of claims and responses.
use Rattle.std.proofs.Common.{◌≡◌, ◌≤◌, ℕ, Bool, true, ◌&&◌, not, List, drop, filter, map, take, sym, ap, ◌∙◌, subst}
use Rattle.std.specs.List.Sorted.{IsStrictlyIncreasing}
use Rattle.std.proofs.lemmas.Bool.{and_parts, le-leb, leb-true}
use Rattle.canton_model.specs.Inbox.{Item, last_time}
use Rattle.canton_model.specs.declared.response.Response.{Response}
use Rattle.world_model.specs.Node.{waits_at}
use Rattle.world_model.specs.Places.{has_place}
use Rattle.pruned_inbox.specs.Base.{IsBase}
use Rattle.pruned_inbox.specs.Start.{Start}
use Rattle.node_state.specs.declared.node_state.NodeState.{NodeState as State}
use Rattle.node_inbox.specs.InboxState.{InboxState, params_of, reading_of}
use Rattle.node_inbox.specs.Raw.{AreCame, item_by}
use Rattle.node_core.specs.Duties.{AreToDistinct, Kept, is_done}
use Rattle.node_core.specs.Kept.{IsKept}
use Rattle.node_core.specs.Participant.{IsPrunedTo, Participant, owes_there, pruned_at}
use Rattle.node_core.specs.States.{IsStateOf, start_in}
use Rattle.node_core.proofs.DoneJobs.{done_ascend, done_is}
use Rattle.node_core.proofs.PrunedStates.{came_later, items_later, owes_later}
use Rattle.node_core.proofs.ReadSteps.{participant_of}

module _ (i : InboxState) (is_paused : Bool) (kept : Kept) (is : IsKept (reading_of i) (params_of i) i.me i.items kept) (state : State)
    (me : state.me ≡ i.me) (paused : state.paused ≡ is_paused) (outbox : state.outbox ≡ kept.outbox) (from : ℕ)
    (done : state.done ≡ filter (is_done from kept) kept.owed) where
  abbrev mine : Participant
  mine = participant_of i is_paused kept

  done_there : (k : ℕ) → has_place state.done k ≡ is_done from kept k
  done_there k = ap (λ (ks : List ℕ). has_place ks k) done ∙ done_is (reading_of i) (params_of i) i.me i.items kept is from k

  ascends : IsStrictlyIncreasing state.done
  ascends = subst IsStrictlyIncreasing (sym done) (done_ascend (reading_of i) (params_of i) i.me i.items kept is from)

  parts : (k : ℕ) → has_place state.done k ≡ true → is_done from kept k ≡ true
  parts k h = sym (done_there k) ∙ h

  claimed_owed : (k : ℕ) → has_place state.done k ≡ true → owes_there mine k ≡ true
  claimed_owed k h = is.claimed k (and_parts _ _ (and_parts _ _ (parts k h)).0).1

  not_below : (k : ℕ) → has_place state.done k ≡ true → from ≤ k
  not_below k h = leb-true from k (and_parts _ _ (and_parts _ _ (parts k h)).0).0

  waiting_done : (k : ℕ) → from ≤ k → waits_at state.outbox k ≡ true → has_place state.done k ≡ true
  waiting_done k le h =
      let waits = subst (λ (rs : List Response). waits_at rs k ≡ true) outbox h in
      done_there k
      ∙ (ap (λ (x : Bool). (x && has_place kept.claimed k) && not (has_place kept.unfinished k)) (le-leb from k le)
      ∙ (ap (λ (x : Bool). x && not (has_place kept.unfinished k)) (is.outbox k waits) ∙ ap not (is.finished k waits)))

  waiting_once : AreToDistinct state.outbox
  waiting_once = subst AreToDistinct (sym outbox) is.once

  -- at its base
  pub state_is : from ≡ i.base → state.base ≡ i.base → state.base_time ≡ i.base_time → start_in state ≡ i.start
      → map (item_by i.topology) state.items ≡ drop i.base i.items → AreCame i.topology i.packages i.me i.base i.items state.items → IsStateOf mine state
  state_is here base base_time start items came =
      record {
        me = me;
        base = base;
        base_time = base_time;
        paused = paused;
        start = start;
        items = items;
        came = came;
        outbox = outbox;
        done = λ k. done_there k ∙ ap (λ (n : ℕ). is_done n kept k) here;
        ascend = ascends;
        owes_done = claimed_owed;
        waiting = λ k le h. waiting_done k (subst (λ (n : ℕ). n ≤ k) (sym here) le) h;
        once = waiting_once;
      }

  -- at a later one
  module _ (whole : List Item) (pruned : IsPrunedTo whole mine) (le : i.base ≤ from) (based : IsBase (params_of i) i.items from) where
    pub pruned_state_is : (next : Start) → state.base ≡ from → state.base_time ≡ last_time (take from i.items) → start_in state ≡ next
        → map (item_by i.topology) state.items ≡ drop from i.items → AreCame i.topology i.packages i.me from i.items state.items
        → IsStateOf (pruned_at from next mine) state
    pruned_state_is next base base_time start items came =
        record {
          me = me;
          base = base;
          base_time = base_time;
          paused = paused;
          start = start;
          items = items_later whole mine pruned from le based state.items items came;
          came = came_later whole mine pruned from le based state.items items came;
          outbox = outbox;
          done = done_there;
          ascend = ascends;
          owes_done = λ k h. owes_later whole mine pruned from le based k (not_below k h) (claimed_owed k h);
          waiting = waiting_done;
          once = waiting_once;
        }
