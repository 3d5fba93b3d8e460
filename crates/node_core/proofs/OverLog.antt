-- What a participant that is pruned to its base owes, claims, sends and offers is what it would with its whole inbox.
use Rattle.std.proofs.Common.{◌≡◌, ℕ, zero, suc, ◌<◌, ◌≤◌, Bool, true, false, not, if◌then◌else◌, List, [], ◌∷◌, ◌++◌, drop, length, take}
use Rattle.std.proofs.Common.{Option, Some, None, refl, sym, ap, ◌∙◌, subst, inl, inr, arith, take-append-drop, take-take}
use Rattle.std.specs.Prelude.{◌&&◌, is_some, slice_get}
use Rattle.std.proofs.lemmas.Bool.{cases_Bool, cases_lt, eqb-true}
use Rattle.std.proofs.lemmas.List.{length-append, take-append-le}
use Rattle.canton_model.specs.Genuine.{Genuine}
use Rattle.canton_model.specs.Inbox.{Item, Notice, inbox, is_decided_in, items_after, last_time, notice_at, outcome_in}
use Rattle.canton_model.proofs.InboxOutcomes.{owed_front}
use Rattle.contract_store.specs.Active.{knowns}
use Rattle.world_model.specs.Machine.{confirms_some_view}
use Rattle.world_model.specs.Messages.{Entry, Message, Response}
use Rattle.world_model.specs.Node.{NodeState, claim, finish, is_decided_now, is_to, is_waiting_at, next_claim, outbox_head, owed_at, owes_at, put_back, sent}
use Rattle.world_model.specs.Node.{waiting_to, waits_at, with_flag, with_items}
use Rattle.world_model.specs.Turns.{message_of, waiting_below}
use Rattle.world_model.proofs.Grown.{take_grown}
use Rattle.world_model.proofs.Halves.{owes_stays}
use Rattle.world_model.proofs.NodeFacts.{inbox_append, inbox_length}
use Rattle.pruned_inbox.specs.Alike.{AnswersAlike}
use Rattle.pruned_inbox.specs.Duties.{DutiesAlike}
use Rattle.pruned_inbox.specs.Start.{active_kept}
use Rattle.pruned_inbox.proofs.Duties.{claim_same, head_same}
use Rattle.pruned_inbox.proofs.Kept.{noticed_received}
use Rattle.pruned_inbox.proofs.Later.{kept_later}
use Rattle.node_core.specs.OverLog.{HasInbox, inbox_over, kept_of}
use Rattle.node_core.specs.Participant.{HasForgottenNothing, IsPrunedTo, Participant, is_decided_there, items_of, next_place, next_response, owed_there}
use Rattle.node_core.specs.Participant.{owes_there, params_of, reading_of, whole_state, with_state}
use Rattle.node_core.specs.Preparing.{offered, offered_by}
use Rattle.node_core.proofs.Fronts.{kept_front}
use Rattle.node_core.proofs.Growth.{owes_stays as owes_one, owes_within}
use Rattle.node_core.proofs.KeptSteps.{any_filtered, any_pushed}
use Rattle.node_core.proofs.Pruned.{pruned_alike}
use Rattle.node_core.proofs.Whole.{at_first}

asked : (o : Option Notice) → confirms_some_view o ≡ true → is_some o ≡ true
asked None e = absurd cc
asked (Some notice) e = refl

module _ (whole : List Item) (p : Participant) (has : HasInbox whole p) where
  abbrev full : NodeState
  full = whole_state p whole

  alike : AnswersAlike (reading_of p) (params_of p) p.me whole (items_of p) p.base p.start
  alike = pruned_alike whole p has.pruned

  pub cursor_is : length (items_of p) ≡ length whole
  cursor_is = alike.cursor

  within : p.base ≤ length whole
  within = ((has.pruned).is_base).within

  -- what it owes
  pub owes_from : (k : ℕ) → owes_there p k ≡ true → p.base ≤ k
  owes_from k owes =
      elim (cases_lt k p.base) [
        | inl below ↦
            let none : owes_there p k ≡ false = ap confirms_some_view (alike.unnoticed k below) in
            let wrong : true ≡ false = sym owes ∙ none in absurd (cc)
        | inr far ↦ far
      ]

  pub owes_same : (k : ℕ) → p.base ≤ k → owes_there p k ≡ owes_at (reading_of p) p.me whole k
  owes_same k le = ap confirms_some_view (alike.noticed k le)

  pub owes_whole : (k : ℕ) → owes_there p k ≡ true → owes_at (reading_of p) p.me whole k ≡ true
  owes_whole k owes = sym (owes_same k (owes_from k owes)) ∙ owes

  pub owed_is : (k : ℕ) → owes_there p k ≡ true → owed_there p k ≡ owed_at (reading_of p) (params_of p) p.me whole k
  owed_is k owes =
      kept_front (reading_of p) (params_of p) (items_of p) k p.me p.start
      ∙ (sym (alike.owed k (owes_from k owes)) ∙ sym (owed_front whole k (reading_of p) (params_of p) p.me))

  pub decided_is : (k : ℕ) → owes_there p k ≡ true → is_decided_there p k ≡ is_decided_now (params_of p) whole k
  decided_is k owes =
      ap (is_decided_in (params_of p) (items_of p) k) cursor_is
      ∙ alike.decided k (length whole) (owes_from k owes)
      (noticed_received (slice_get whole k) (asked (notice_at whole k) (owes_whole k owes)))

  pub decided_below : (k : ℕ) → k < p.base → owes_at (reading_of p) p.me whole k ≡ true → is_decided_now (params_of p) whole k ≡ true
  decided_below k below owes =
      alike.decided_below k (length whole) below within (noticed_received (slice_get whole k) (asked (notice_at whole k) owes))

  -- what it claims and sends
  none_below : (k : ℕ) → k < p.base → waits_at p.state.outbox k ≡ false
  none_below k below =
      elim (cases_Bool (waits_at p.state.outbox k)) [
        | inl waits ↦ let far = owes_from k (has.waits k waits) in absurd (omega (arith, far, below))
        | inr none ↦ none
      ]

  duties : DutiesAlike (reading_of p) p.me p.base full p.state
  duties =
      record {
        claims = λ k le. refl;
        waits = λ k le. refl;
        responses = λ k le. refl;
        none_below = none_below;
        owed = λ k waits. owes_whole k (has.waits k waits);
      }

  pub claim_is : next_place p ≡ next_claim (reading_of p) (params_of p) p.me full
  claim_is = claim_same (reading_of p) (params_of p) p.me p.base p.start full p.state alike duties within

  pub head_is : next_response p ≡ outbox_head (params_of p) full
  head_is = head_same (reading_of p) (params_of p) p.me p.base p.start full p.state alike duties within

  waiting_at_is : (k : ℕ) → is_waiting_at (params_of p) p.state k ≡ is_waiting_at (params_of p) full k
  waiting_at_is k =
      elim (cases_Bool (waits_at p.state.outbox k)) [
        | inl waits ↦ ap (λ (decided : Bool). waits_at p.state.outbox k && not decided) (decided_is k (has.waits k waits))
        | inr none ↦
            ap (λ (waits : Bool). waits && not (is_decided_there p k)) none
            ∙ sym (ap (λ (waits : Bool). waits && not (is_decided_now (params_of p) whole k)) none)
      ]

  pub waiting_is : (n : ℕ) → waiting_below (params_of p) p.state n ≡ waiting_below (params_of p) full n
  waiting_is zero = refl
  waiting_is (suc k) =
      ap (λ (before : List Message). before ++ message_of (if is_waiting_at (params_of p) p.state k then waiting_to p.state.outbox k else None)) (waiting_is k)
      ∙ ap (λ (here : Bool). waiting_below (params_of p) full k ++ message_of (if here then waiting_to p.state.outbox k else None)) (waiting_at_is k)

  -- what it was told of requests from its base on
  pub noticed_is : (k : ℕ) → p.base ≤ k → notice_at (items_of p) k ≡ notice_at whole k
  noticed_is k le = alike.noticed k le

  pub outcome_is : (k : ℕ) → p.base ≤ k → is_some (notice_at whole k) ≡ true
      → outcome_in (params_of p) (items_of p) k ≡ outcome_in (params_of p) whole k
  outcome_is k le there = alike.outcome k le (noticed_received (slice_get whole k) there)

  -- what it offers
  pub offered_is : offered_by p ≡ offered (reading_of p) p.me whole
  offered_is =
      ap (λ (n : ℕ). knowns (active_kept (reading_of p) p.me p.start (items_of p) n)) cursor_is
      ∙ sym (ap knowns (alike.active (length whole) within))

  -- with the same items
  pub with_same : (state : NodeState) → state.items ≡ items_of p → ((k : ℕ) → waits_at state.outbox k ≡ true → owes_there p k ≡ true)
      → HasInbox whole (with_state p state)
  with_same state same waits =
      let was = has.pruned in
      record {
        pruned = record { orderly = was.orderly; is_base = was.is_base; starts = was.starts; time = was.time; kept = same ∙ was.kept };
        waits = λ k w. subst (λ (items : List Item). owes_at (reading_of p) p.me items k ≡ true) (sym same) (waits k w);
      }

  pub claimed_one : (k : ℕ) → HasInbox whole (with_state p (claim p.state k))
  claimed_one k = with_same (claim p.state k) refl has.waits

  pub finished_one : (response : Response) → owes_there p response.request ≡ true → HasInbox whole (with_state p (finish p.state response))
  finished_one response owes =
      with_same (finish p.state response) refl
      (λ k waits. elim (any_pushed (is_to k) p.state.outbox response waits) [
        | inl before ↦ has.waits k before
        | inr last ↦ subst (λ (i : ℕ). owes_there p i ≡ true) (eqb-true response.request k last) owes
      ])

  pub sent_one : (k : ℕ) → HasInbox whole (with_state p (sent p.state k))
  sent_one k =
      with_same (sent p.state k) refl (λ i waits. has.waits i (any_filtered (is_to i) (λ (r : Response). not (is_to k r)) p.state.outbox waits))

  pub put_back_one : (k : ℕ) → HasInbox whole (with_state p (put_back p.state k))
  put_back_one k =
      with_same (put_back p.state k) refl
      (λ i waits. has.waits i (any_filtered (is_to i) (λ (r : Response). not (is_to k r)) p.state.outbox waits))

  pub flagged_one : (paused : Bool) → HasInbox whole (with_state p (with_flag p.state paused))
  flagged_one paused = with_same (with_flag p.state paused) refl has.waits

-- with one item more
pub read_one : (whole next : List Item) (p : Participant) (item : Item) → HasInbox whole p
    → IsPrunedTo next (with_state p (with_items p.state (items_of p ++ item ∷ []))) → HasInbox next (with_state p (with_items p.state (items_of p ++ item ∷ [])))
read_one whole next p item has pruned =
    record {
      pruned = pruned;
      waits = λ k waits.
          let owes = has.waits k waits in
          owes_one (params_of p) (items_of p) item (reading_of p) p.me k (owes_within (items_of p) (reading_of p) p.me k owes) ∙ owes;
    }

-- ---- over a log

pub within_log : (log : List Entry) (p : Participant) → HasInbox (inbox_over log p) p → length (items_of p) ≤ length log
within_log log p has =
    let n = length (items_of p) in
    let same : n ≡ length (take n log) = cursor_is (inbox_over log p) p has ∙ inbox_length (reading_of p) p.me [] (take n log) in
    let parts = length-append (take n log) (drop n log) in
    let all = ap length (take-append-drop n log) in omega (arith, same, parts, all)

-- it goes on
pub over_more : (log more : List Entry) (p : Participant) → length (items_of p) ≤ length log → inbox_over (log ++ more) p ≡ inbox_over log p
over_more log more p le = ap (inbox (reading_of p) p.me) (take_grown log more (length (items_of p)) le)

-- it is read on
module _ (p : Participant) (log : List Entry) (genuine : Genuine (reading_of p) (params_of p) log) (n later : ℕ) (order : n ≤ later)
    (short : later ≤ length log) (has : HasInbox (inbox (reading_of p) p.me (take n log)) p) where
  abbrev first : List Item
  first = inbox (reading_of p) p.me (take n log)

  abbrev all : List Item
  all = inbox (reading_of p) p.me (take later log)

  abbrev reader : Participant
  reader = with_state p (with_items p.state (kept_of p all))

  abbrev more : List Item
  more = items_after (reading_of p) p.me (take n log) (drop n (take later log))

  parts : first ++ more ≡ all
  parts =
      sym (inbox_append (reading_of p) p.me [] (take n log) (drop n (take later log)))
      ∙ ap (inbox (reading_of p) p.me)
      (ap (λ (xs : List Entry). xs ++ drop n (take later log)) (sym (take-take n later log order)) ∙ take-append-drop n (take later log))

  pub pruned_later : IsPrunedTo all reader
  pruned_later =
      let was = has.pruned in
      let then_on = kept_later (reading_of p) (params_of p) p.me log p.base n later p.start genuine order short was.is_base was.starts in
      record {
        orderly = then_on.orderly;
        is_base = then_on.based;
        starts = then_on.started;
        time = was.time ∙ ap last_time (sym (take-append-le p.base first more (was.is_base).within) ∙ ap (take p.base) parts);
        kept = refl;
      }

  owes_later : (k : ℕ) → owes_there p k ≡ true → owes_at (reading_of p) p.me (kept_of p all) k ≡ true
  owes_later k owes =
      let there = owes_whole first p has k owes in
      let inside = owes_within first (reading_of p) p.me k there in
      ap confirms_some_view ((pruned_alike all reader pruned_later).noticed k (owes_from first p has k owes))
      ∙ (ap (λ (items : List Item). owes_at (reading_of p) p.me items k) (sym parts)
      ∙ (owes_stays (reading_of p) (params_of p) p.me first more k inside ∙ there))

  pub reads_on : HasInbox all reader
  reads_on = record { pruned = pruned_later; waits = λ k waits. owes_later k (has.waits k waits) }

-- ---- who has forgotten nothing

pub has_whole_inbox : (p : Participant) (read : List Entry) → HasForgottenNothing p → Genuine (reading_of p) (params_of p) read
    → items_of p ≡ inbox (reading_of p) p.me read → ((k : ℕ) → waits_at p.state.outbox k ≡ true → owes_there p k ≡ true)
    → HasInbox (inbox (reading_of p) p.me read) p
has_whole_inbox p read forgot genuine items waits = record { pruned = at_first p read forgot genuine items; waits = waits }
