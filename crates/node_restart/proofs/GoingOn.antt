-- What a participant that has restarted answers, claims and sends, whatever it reads then.
use Rattle.std.proofs.Common.{◌≡◌, ℕ, ◌<◌, ◌≤◌, Bool, true, false, ◌&&◌, not, List, [], ◌∷◌, ◌++◌, append-nil, append_assoc, filter, length, refl, sym, ap, ◌∙◌, subst}
use Rattle.std.specs.Prelude.{nat_eq}
use Rattle.std.proofs.lemmas.Bool.{eqb-true, le-leb}
use Rattle.std.proofs.lemmas.List.{take_at}
use Rattle.std.proofs.lemmas.Map.Views.{any-filter_same}
use Rattle.framed_form.specs.FramedReading.{framed_reading}
use Rattle.ledger_model.specs.Terms.{ParticipantId}
use Rattle.ledger_model.proofs.Lists.{contains_from_In, from_any}
use Rattle.canton_model.specs.Inbox.{Item, inbox, item_after, items_after}
use Rattle.canton_model.specs.Reading.{Reading}
use Rattle.canton_model.specs.declared.response.Response.{Response}
use Rattle.canton_model.proofs.LongerLogs.{genuine_take}
use Rattle.pruned_inbox.specs.Alike.{AnswersAlike}
use Rattle.pruned_inbox.specs.Duties.{DutiesAlike}
use Rattle.pruned_inbox.proofs.Duties.{claim_same, head_same}
use Rattle.world_model.specs.Machine.{GenuineLog, Machine}
use Rattle.world_model.specs.Messages.{Entry}
use Rattle.world_model.specs.Node.{NodeState, is_to, next_claim, outbox_head, owes_at, read_entry, waiting_to, waits_at, with_items}
use Rattle.world_model.specs.Places.{has_place}
use Rattle.world_model.proofs.Halves.{owes_stays}
use Rattle.world_model.proofs.NodeFacts.{inbox_append}
use Rattle.node_core.specs.Answers.{IsOf}
use Rattle.node_core.specs.Participant.{HasRead, Participant, items_of, next_place, next_response, params_of, reading_of, with_state}
use Rattle.node_core.proofs.Alike.{keeps_read}
use Rattle.node_core.proofs.Pruned.{pruned_alike}
use Rattle.node_core.proofs.Restarted.{response_from, waits_from, waits_not_below}
use Rattle.node_restart.specs.GoingOn.{CanGoOn, having_read, never_stopped}

-- ---- it reads one entry after another

module _ (m : Machine) where
  pub reads_on : (p : Participant) (read more : List Entry) → IsOf m p → HasRead m read p → GenuineLog m (read ++ more)
      → HasRead m (read ++ more) (having_read read more p)
  reads_on p read [] is has genuine =
      subst (λ (xs : List Entry). HasRead m xs (having_read read [] p)) (sym (append-nil read))
      (subst (λ (items : List Item). HasRead m read (with_state p (with_items p.state items))) (sym (append-nil (items_of p))) has)
  reads_on p read (entry ∷ more) is has genuine =
      let front = read ++ entry ∷ [] in
      let item = item_after (reading_of p) p.me read entry in
      let rest = items_after (reading_of p) p.me front more in
      let long : front ++ more ≡ read ++ entry ∷ more = append_assoc read (entry ∷ []) more in
      let behind : (items_of p ++ item ∷ []) ++ rest ≡ items_of p ++ item ∷ rest = append_assoc (items_of p) (item ∷ []) rest in
      let grown = subst (GenuineLog m) (sym long) genuine in
      let first = subst (GenuineLog m) (take_at front more (length front) refl) (genuine_take m.reading m.params (front ++ more) (length front) grown) in
      let one = keeps_read m p read has is entry first in
      let all = reads_on (with_state p (read_entry (reading_of p) p.me p.state read entry)) front more (record { reading = is.reading; params = is.params }) one grown in
      subst (λ (items : List Item). HasRead m (read ++ entry ∷ more) (with_state p (with_items p.state items))) behind
      (subst (λ (xs : List Entry). HasRead m xs (with_state p (with_items p.state ((items_of p ++ item ∷ []) ++ rest)))) long all)

-- ---- claims that aren't unfinished

kept_claim : (claimed unfinished : List ℕ) (k : ℕ)
    → has_place (filter (λ (j : ℕ). not (has_place unfinished j)) claimed) k ≡ (has_place claimed k && not (has_place unfinished k))
kept_claim claimed unfinished k =
    any-filter_same (nat_eq k) (λ (j : ℕ). not (has_place unfinished j)) (not (has_place unfinished k))
    (λ j same. ap (λ (i : ℕ). not (has_place unfinished i)) (sym (eqb-true k j same))) claimed
    ∙ swapped (not (has_place unfinished k)) (has_place claimed k)
  where
    swapped : (a b : Bool) → (a && b) ≡ (b && a)
    swapped true true = refl
    swapped true false = refl
    swapped false true = refl
    swapped false false = refl

-- ---- beside one that never stopped

module _ (m : Machine) (log more : List Entry) (before after : Participant) (can : CanGoOn m log more before after) where
  abbrev beyond : Participant
  beyond = having_read log more after

  abbrev whole : List Item
  whole = inbox (reading_of after) after.me (log ++ more)

  abbrev other : NodeState
  other = never_stopped before whole

  reading_is : reading_of before ≡ reading_of after
  reading_is = sym (λ i. framed_reading ((can.restarted).topology i) ((can.restarted).packages i))

  is_of : IsOf m after
  is_of =
      record {
        reading = (can.is_of).reading ∙ reading_is;
        params = (can.is_of).params ∙ sym (λ i. ((can.restarted).topology i).params);
      }

  pub reads : HasRead m (log ++ more) beyond
  reads = reads_on m after log more is_of (can.restarted).read can.genuine

  pub alike : AnswersAlike (reading_of after) (params_of after) after.me whole (items_of beyond) after.base after.start
  alike = pruned_alike whole beyond reads.pruned

  -- what waits is owed in the longer inbox, too
  grown : whole ≡ inbox (reading_of before) before.me log ++ items_after (reading_of after) after.me log more
  grown =
      inbox_append (reading_of after) after.me [] log more
      ∙ ap (λ (items : List Item). items ++ items_after (reading_of after) after.me log more)
      (ap (λ (me : ParticipantId). inbox (reading_of after) me log) (can.restarted).me
      ∙ ap (λ (reading : Reading). inbox reading before.me log) (sym reading_is))

  owed : (k : ℕ) → waits_at (before.state).outbox k ≡ true → owes_at (reading_of after) after.me whole k ≡ true
  owed k waits =
      let found = from_any (is_to k) (before.state).outbox waits in
      let own = ((can.was).node).outbox found.0 (contains_from_In (before.state).outbox found.0 found.1) in
      let here : (found.0).request ≡ k = eqb-true (found.0).request k found.2 in
      let first = inbox (reading_of before) before.me log in
      let lt : k < length first = subst (λ (i : ℕ). i < length first) here own.is_read in
      let owes : owes_at m.reading before.me first k ≡ true = subst (λ (i : ℕ). owes_at m.reading before.me first i ≡ true) here own.owes in
      ap (λ (items : List Item). owes_at (reading_of after) after.me items k) grown
      ∙ (owes_stays (reading_of after) (params_of after) after.me first (items_after (reading_of after) after.me log more) k lt
      ∙ (ap (λ (me : ParticipantId). owes_at (reading_of after) me first k) (can.restarted).me
      ∙ (ap (λ (reading : Reading). owes_at reading before.me first k) (sym is_of.reading) ∙ owes)))

  claims : (k : ℕ) → after.base ≤ k → has_place (after.state).claimed k ≡ has_place other.claimed k
  claims k le =
      (can.restarted).claimed k
      ∙ (ap (λ (b : Bool). (b && has_place (before.state).claimed k) && not (has_place (before.state).unfinished k)) (le-leb after.base k le)
      ∙ sym (kept_claim (before.state).claimed (before.state).unfinished k))

  duties : DutiesAlike (reading_of after) after.me after.base other beyond.state
  duties =
      record {
        claims = claims;
        waits = λ k le. ap (λ (outbox : List Response). waits_at outbox k) (can.restarted).outbox ∙ waits_from after.base (before.state).outbox k le;
        responses = λ k le.
            ap (λ (outbox : List Response). waiting_to outbox k) (can.restarted).outbox ∙ response_from after.base k le (before.state).outbox;
        none_below = λ k lt.
            ap (λ (outbox : List Response). waits_at outbox k) (can.restarted).outbox ∙ waits_not_below after.base (before.state).outbox k lt;
        owed = owed;
      }

  within : after.base ≤ length whole
  within = ((reads.pruned).is_base).within

  pub claims_next : next_place beyond ≡ next_claim (reading_of after) (params_of after) after.me other
  claims_next = claim_same (reading_of after) (params_of after) after.me after.base after.start other beyond.state alike duties within

  pub sends_next : next_response beyond ≡ outbox_head (params_of after) other
  sends_next = head_same (reading_of after) (params_of after) after.me after.base after.start other beyond.state alike duties within
