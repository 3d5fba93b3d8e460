-- A participant that begins again from a state, beside the one of which that is the state.
use Rattle.std.proofs.Common.{◌≡◌, ◌<◌, ◌≤◌, ℕ, Bool, true, false, not, ◌&&◌, if◌then◌else◌, List, [], ◌∷◌, ◌++◌, drop, length, map, take, Some, nat_eq, refl, sym, ap, ◌∙◌, subst, inl, inr, le_refl}
use Rattle.std.specs.Prelude.{nat_le, Contains}
use Rattle.std.proofs.lemmas.Bool.{and_parts, cases_Bool, cases_lt, eqb-true, le-leb, lt-leb, or_parts}
use Rattle.std.proofs.lemmas.Map.Views.{any-filter_same}
use Rattle.ledger_model.specs.Terms.{ParticipantId}
use Rattle.ledger_model.proofs.Lists.{In, contains_from_In, from_filter, in_from_Contains}
use Rattle.canton_model.specs.Inbox.{Item, inbox, last_time}
use Rattle.canton_model.specs.declared.response.Response.{Response}
use Rattle.node_state.specs.declared.node_state.NodeState.{NodeState as State}
use Rattle.node_inbox.specs.Raw.{item_by}
use Rattle.pruned_inbox.specs.Alike.{AnswersAlike}
use Rattle.pruned_inbox.specs.Base.{IsBase}
use Rattle.pruned_inbox.specs.Duties.{DutiesAlike}
use Rattle.pruned_inbox.specs.Forgotten.{silent_front}
use Rattle.pruned_inbox.specs.Start.{IsStart}
use Rattle.pruned_inbox.proofs.Duties.{claim_same, head_same}
use Rattle.world_model.specs.Machine.{Machine}
use Rattle.world_model.specs.Lawful.{IsOwn, NodeHas}
use Rattle.world_model.specs.Messages.{Entry}
use Rattle.world_model.specs.Node.{NodeState, is_to, next_claim, outbox_head, owes_at, put_back, waiting_to, waits_at, without}
use Rattle.world_model.specs.Places.{has_place, without_place}
use Rattle.node_core.specs.OverLog.{HasInbox}
use Rattle.node_core.specs.Participant.{HasRead, IsPrunedTo, Participant, items_of, next_place, next_response, owes_there, params_of, reading_of, whole_state, with_state}
use Rattle.node_core.specs.States.{IsStateOf, begun_again, is_done_from, items_in, responses_from, start_in}
use Rattle.node_core.proofs.Again.{drop_kept}
use Rattle.node_core.proofs.DutyFacts.{gone_place, other_place_stays}
use Rattle.node_core.proofs.Pruned.{pruned_alike}

-- ---- of the responses those from the base on

module _ (base : ℕ) (outbox : List Response) where
  abbrev from_base : Response → Bool
  from_base response = nat_le base response.request

  waits_if : (k : ℕ) (b : Bool) → nat_le base k ≡ b → waits_at (responses_from base outbox) k ≡ (b && waits_at outbox k)
  waits_if k b e = any-filter_same (is_to k) from_base b (λ response same. ap (nat_le base) (eqb-true response.request k same) ∙ e) outbox

  pub waits_from : (k : ℕ) → base ≤ k → waits_at (responses_from base outbox) k ≡ waits_at outbox k
  waits_from k le = waits_if k true (le-leb base k le)

  pub waits_not_below : (k : ℕ) → k < base → waits_at (responses_from base outbox) k ≡ false
  waits_not_below k lt = waits_if k false (lt-leb base k lt)

-- what waits at a place waits there still
pub response_from : (base k : ℕ) → base ≤ k → (outbox : List Response) → waiting_to (responses_from base outbox) k ≡ waiting_to outbox k
response_from base k le [] = refl
response_from base k le (response ∷ rest) =
    elim (cases_Bool (is_to k response)) [
      | inl here ↦
          let far : nat_le base response.request ≡ true = ap (nat_le base) (eqb-true response.request k here) ∙ le-leb base k le in
          rw (far, here) refl
      | inr other ↦ by (nat_le base response.request) other (response_from base k le rest)
    ]
  where
    by : (b : Bool) → is_to k response ≡ false → waiting_to (responses_from base rest) k ≡ waiting_to rest k
        → waiting_to (if b then response ∷ responses_from base rest else responses_from base rest) k
        ≡ (if is_to k response then Some response else waiting_to rest k)
    by true other same = rw other same
    by false other same = rw other same

-- ---- it is pruned to the same base

module _ (whole : List Item) (p : Participant) (is : IsPrunedTo whole p) (state : State) (of : IsStateOf p state) where
  abbrev again : Participant
  again = begun_again p.topology p.packages state

  inside : p.base ≤ length whole
  inside = (is.is_base).within

  rest : map (item_by p.topology) state.items ≡ drop p.base whole
  rest = of.items ∙ (ap (drop p.base) is.kept ∙ drop_kept p.base p.base p.base_time whole (le_refl p.base) inside)

  kept_again : items_in p.topology state ≡ silent_front state.base state.base_time ++ drop state.base whole
  kept_again =
      ap (λ (xs : List Item). silent_front state.base state.base_time ++ xs) rest
      ∙ ap (λ (b : ℕ). silent_front state.base state.base_time ++ drop b whole) (sym of.base)

  pub same_items : items_in p.topology state ≡ items_of p
  same_items =
      kept_again
      ∙ (ap (λ (b : ℕ). silent_front b state.base_time ++ drop b whole) of.base
      ∙ (ap (λ (t : ℕ). silent_front p.base t ++ drop p.base whole) of.base_time ∙ sym is.kept))

  pub pruned_still : IsPrunedTo whole again
  pruned_still =
      record {
        orderly = is.orderly;
        is_base = subst (IsBase (params_of p) whole) (sym of.base) is.is_base;
        starts =
            subst (λ (b : ℕ). IsStart (reading_of p) whole b (start_in state)) (sym of.base)
            (subst (IsStart (reading_of p) whole p.base) (sym of.start) is.starts);
        time = of.base_time ∙ (is.time ∙ ap (λ (b : ℕ). last_time (take b whole)) (sym of.base));
        kept = kept_again;
      }

  same_owes : (k : ℕ) → owes_there again k ≡ owes_there p k
  same_owes k =
      ap (λ (me : ParticipantId). owes_at (reading_of p) me (items_in p.topology state) k) of.me
      ∙ ap (λ (items : List Item). owes_at (reading_of p) p.me items k) same_items

  waits_owed : (k : ℕ) → waits_at (responses_from state.base state.outbox) k ≡ true → owes_there again k ≡ true
  waits_owed k waits =
      elim (cases_lt k state.base) [
        | inl below ↦ let wrong : true ≡ false = sym waits ∙ waits_not_below state.base state.outbox k below in absurd (cc)
        | inr far ↦
            same_owes k
            ∙ of.owes_done k (of.waiting k (subst (λ (b : ℕ). b ≤ k) of.base far) (sym (waits_from state.base state.outbox k far) ∙ waits))
      ]

  pub has_inbox : HasInbox whole again
  has_inbox = record { pruned = pruned_still; waits = waits_owed }

-- ---- it has read what that has read

module _ (m : Machine) (read : List Entry) (p : Participant) (has : HasRead m read p) (state : State) (of : IsStateOf p state) where
  abbrev whole_of : ParticipantId → List Item
  whole_of me = inbox (reading_of p) me read

  abbrev renewed : NodeState
  renewed = (begun_again p.topology p.packages state).state

  abbrev full : NodeState
  full = whole_state (begun_again p.topology p.packages state) (whole_of p.me)

  claimed_there : (k : ℕ) → has_place state.done k ≡ true → has_place (p.state).claimed k ≡ true
  claimed_there k h =
      let done : is_done_from p.base p.state k ≡ true = sym (of.done k) ∙ h in
      (and_parts _ _ (and_parts _ _ done).0).1

  waited_there : (response : Response) → Contains renewed.outbox response → Contains (p.state).outbox response
  waited_there response h =
      let there = from_filter (λ (r : Response). nat_le state.base r.request) state.outbox response (in_from_Contains renewed.outbox response h) in
      contains_from_In (p.state).outbox response (subst (λ (outbox : List Response). In response outbox) of.outbox there.0)

  node_here : NodeHas m p.me read full
  node_here =
      let was = has.node in
      record {
        items = was.items;
        claims = λ k h. was.claims k (claimed_there k h);
        outbox = λ response h. own response (was.outbox response (waited_there response h));
      }
    where
      own : (response : Response) → IsOwn m p.me (whole_state p (whole_of p.me)) response → IsOwn m p.me full response
      own response o = record { is_read = o.is_read; owes = o.owes; is = o.is }

  pub read_again : HasRead m read (begun_again p.topology p.packages state)
  read_again =
      record {
        node = subst (λ (me : ParticipantId). NodeHas m me read (whole_state (begun_again p.topology p.packages state) (whole_of me))) (sym of.me) node_here;
        pruned =
            subst (λ (me : ParticipantId). IsPrunedTo (whole_of me) (begun_again p.topology p.packages state)) (sym of.me)
            (pruned_still (whole_of p.me) p has.pruned state of);
      }

-- ---- what it claims and sends next

only : (a c u : Bool) → a ≡ true → u ≡ false → ((a && c) && not u) ≡ c
only a c u e f = ap (λ (x : Bool). (x && c) && not u) e ∙ (ap (λ (x : Bool). c && not x) f ∙ and_true c)
  where
    and_true : (b : Bool) → (b && true) ≡ b
    and_true true = refl
    and_true false = refl

module _ (whole : List Item) (p : Participant) (is : IsPrunedTo whole p) (state : State) (of : IsStateOf p state)
    (rests : (p.state).unfinished ≡ []) (owed : (k : ℕ) → waits_at (p.state).outbox k ≡ true → owes_at (reading_of p) p.me whole k ≡ true) where
  abbrev after_it : Participant
  after_it = begun_again p.topology p.packages state

  abbrev kept_all : NodeState
  kept_all = whole_state p whole

  alike : AnswersAlike (reading_of p) (params_of p) state.me whole (items_of after_it) state.base (start_in state)
  alike = pruned_alike whole after_it (pruned_still whole p is state of)

  duties : DutiesAlike (reading_of p) state.me state.base kept_all after_it.state
  duties =
      record {
        claims = λ k le.
            of.done k
            ∙ only (nat_le p.base k) (has_place (p.state).claimed k) (has_place (p.state).unfinished k)
            (le-leb p.base k (subst (λ (b : ℕ). b ≤ k) of.base le)) (ap (λ (ks : List ℕ). has_place ks k) rests);
        waits = λ k le. waits_from state.base state.outbox k le ∙ ap (λ (outbox : List Response). waits_at outbox k) of.outbox;
        responses = λ k le. response_from state.base k le state.outbox ∙ ap (λ (outbox : List Response). waiting_to outbox k) of.outbox;
        none_below = waits_not_below state.base state.outbox;
        owed = λ k waits. ap (λ (me : ParticipantId). owes_at (reading_of p) me whole k) of.me ∙ owed k waits;
      }

  within : state.base ≤ length whole
  within = subst (λ (b : ℕ). b ≤ length whole) (sym of.base) (is.is_base).within

  pub claims_next : next_place after_it ≡ next_claim (reading_of p) (params_of p) p.me kept_all
  claims_next =
      claim_same (reading_of p) (params_of p) state.me state.base (start_in state) kept_all after_it.state alike duties within
      ∙ ap (λ (me : ParticipantId). next_claim (reading_of p) (params_of p) me kept_all) of.me

  pub sends_next : next_response after_it ≡ outbox_head (params_of p) kept_all
  sends_next = head_same (reading_of p) (params_of p) state.me state.base (start_in state) kept_all after_it.state alike duties within

-- ---- it is the state, too, of the one that puts back what it hasn't finished

none_without : (k : ℕ) (outbox : List Response) → waits_at outbox k ≡ false → without k outbox ≡ outbox
none_without k [] none = refl
none_without k (response ∷ rest) none =
    let parts = or_parts (is_to k response) (waits_at rest k) none in
    rw parts.0 (ap (λ (xs : List Response). response ∷ xs) (none_without k rest parts.1))

done_anyway : (base : ℕ) (node : NodeState) (k j : ℕ) → has_place node.unfinished k ≡ true → is_done_from base node j ≡ is_done_from base (put_back node k) j
done_anyway base node k j unfinished =
    elim (cases_Bool (nat_eq j k)) [
      | inl same ↦
          let here = eqb-true j k same in
          subst (λ (i : ℕ). is_done_from base node i ≡ is_done_from base (put_back node k) i) (sym here)
          (ap (λ (u : Bool). (nat_le base k && has_place node.claimed k) && not u) unfinished
          ∙ (neither (nat_le base k && has_place node.claimed k) (nat_le base k)
          ∙ ap (λ (c : Bool). (nat_le base k && c) && not (has_place (without_place k node.unfinished) k)) (sym (gone_place k node.claimed))))
      | inr other ↦
          ap (λ (c : Bool). (nat_le base j && c) && not (has_place node.unfinished j)) (sym (other_place_stays k j node.claimed other))
          ∙ ap (λ (u : Bool). (nat_le base j && has_place (without_place k node.claimed) j) && not u) (sym (other_place_stays k j node.unfinished other))
    ]
  where
    neither : (a b : Bool) → (a && false) ≡ ((b && false) && not (has_place (without_place k node.unfinished) k))
    neither true true = refl
    neither true false = refl
    neither false true = refl
    neither false false = refl

pub put_back_same : (p : Participant) (state : State) (k : ℕ) → IsStateOf p state → has_place (p.state).unfinished k ≡ true → waits_at (p.state).outbox k ≡ false
    → IsStateOf (with_state p (put_back p.state k)) state
put_back_same p state k of unfinished none =
    record {
      me = of.me;
      base = of.base;
      base_time = of.base_time;
      paused = of.paused;
      start = of.start;
      items = of.items;
      came = of.came;
      outbox = of.outbox ∙ sym (none_without k (p.state).outbox none);
      done = λ j. of.done j ∙ done_anyway p.base p.state k j unfinished;
      ascend = of.ascend;
      owes_done = of.owes_done;
      waiting = of.waiting;
      once = of.once;
    }
