-- What comes again of a state.
use Rattle.std.proofs.Common.{◌≡◌, ◌+◌, ◌<◌, ◌≤◌, ℕ, zero, suc, Bool, true, false, List, [], ◌∷◌, ◌++◌, length, map, nat_eq, take, None, Some, refl, sym, ap, ◌∙◌, subst, inl, inr, arith, append_assoc, add-one}
use Rattle.std.specs.Prelude.{if◌then◌else◌, nat_le, slice_get}
use Rattle.std.specs.List.{list_any}
use Rattle.std.specs.List.Sorted.{IsStrictlyIncreasing}
use Rattle.std.proofs.lemmas.Bool.{both_ways, cases_Bool, eqb-true, le-leb, lt-leb, or_cases, or_from, or_left, or_right}
use Rattle.std.proofs.lemmas.Option.{none-some, same_Some}
use Rattle.std.proofs.lemmas.List.{map-append}
use Rattle.std.proofs.lemmas.List.Elements.{filter-append}
use Rattle.std.proofs.lemmas.List.Folds.{list_any-append}
use Rattle.ledger_terms.specs.declared.topology.Topology.{Topology}
use Rattle.lang_eval.specs.Found.{Packages}
use Rattle.ledger_model.specs.Terms.{ParticipantId}
use Rattle.canton_model.specs.Inbox.{Item, notice_at}
use Rattle.canton_model.specs.Log.{Params}
use Rattle.canton_model.specs.Reading.{Reading}
use Rattle.canton_model.specs.declared.response.Response.{Response}
use Rattle.world_model.specs.Machine.{confirms_some_view}
use Rattle.world_model.specs.Node.{NodeState, is_to, owes_at, waits_at, with_items}
use Rattle.world_model.specs.Places.{has_place}
use Rattle.world_model.proofs.Steps.{take_next}
use Rattle.pruned_inbox.specs.Forgotten.{silent_front}
use Rattle.pruned_inbox.specs.Start.{Start}
use Rattle.node_state.specs.declared.item.Item.{Item as StateItem}
use Rattle.node_state.specs.declared.node_state.NodeState.{NodeState as State}
use Rattle.node_inbox.specs.InboxState.{InboxState, begun_at, with_item}
use Rattle.node_inbox.specs.Raw.{item_by}
use Rattle.node_core.specs.Duties.{AreToDistinct, Kept, nothing_kept, state_of, with_room}
use Rattle.node_core.specs.Kept.{IsKept}
use Rattle.node_core.specs.Participant.{Participant, items_of, owes_there, places_where, with_state}
use Rattle.node_core.specs.States.{AreToCome, MayBegin, MayWait, begun_again, begun_with, items_in, read_nothing, responses_from, start_in, with_claimed, with_outbox}
use Rattle.node_core.proofs.Once.{none_before, none_filtered, once_none}
use Rattle.node_core.proofs.ReadSteps.{participant_of}

-- ---- nothing is owed below the base

silent_notice : (b t k : ℕ) → notice_at (silent_front b t) k ≡ None
silent_notice zero t k = refl
silent_notice (suc b) t zero = refl
silent_notice (suc b) t (suc k) = silent_notice b t k

none_where : (f : ℕ → Bool) (start count : ℕ) → ((k : ℕ) → f k ≡ false) → places_where f start count ≡ []
none_where f start zero none = refl
none_where f start (suc count) none =
    ap (λ (b : Bool). if b then start ∷ places_where f (suc start) count else places_where f (suc start) count) (none start)
    ∙ none_where f (suc start) count none

pub begun_keeps : (reading : Reading) (params : Params) (p : ParticipantId) (b t : ℕ) (kept : Kept) → kept.owed ≡ [] → kept.passed ≡ 0
    → kept.claimed ≡ [] → kept.unfinished ≡ [] → kept.outbox ≡ [] → IsKept reading params p (silent_front b t) kept
begun_keeps reading params p b t kept owed passed claimed unfinished outbox =
    record {
      owed = owed ∙ sym (none_where (owes_at reading p (silent_front b t)) 0 (length (silent_front b t)) (λ k. ap confirms_some_view (silent_notice b t k)));
      passed = (rw passed (omega arith), rw passed refl);
      claimed = λ k h. absurd (both_ways false refl (rw claimed at h));
      unfinished = λ k h. absurd (both_ways false refl (rw unfinished at h));
      outbox = λ k h. absurd (both_ways false refl (rw outbox at h));
      finished = λ k h. absurd (both_ways false refl (rw outbox at h));
      once = subst AreToDistinct (sym outbox) once_none;
    }

-- ---- items

pub put_next : (topology : Topology) (before : List Item) (items : List StateItem) (k : ℕ) (item : StateItem) → slice_get items k ≡ Some item
    → (before ++ map (item_by topology) (take k items)) ++ item_by topology item ∷ [] ≡ before ++ map (item_by topology) (take (k + 1) items)
put_next topology before items k item there =
    append_assoc before (map (item_by topology) (take k items)) (item_by topology item ∷ [])
    ∙ ap (λ (xs : List Item). before ++ xs)
    (sym (map-append (item_by topology) (take k items) (item ∷ []))
    ∙ ap (map (item_by topology)) (sym (take_next k items item there) ∙ ap (λ (n : ℕ). take n items) (sym (add-one k))))

-- ---- responses

pub wait_next : (base k : ℕ) (before : List Response) (responses : List Response) (response : Response) → slice_get responses k ≡ Some response
    → (before ++ responses_from base (take k responses)) ++ responses_from base (response ∷ []) ≡ before ++ responses_from base (take (k + 1) responses)
wait_next base k before responses response there =
    append_assoc before (responses_from base (take k responses)) (responses_from base (response ∷ []))
    ∙ ap (λ (xs : List Response). before ++ xs)
    (sym (filter-append (λ (r : Response). nat_le base r.request) (take k responses) (response ∷ []))
    ∙ ap (responses_from base) (sym (take_next k responses response there) ∙ ap (λ (n : ℕ). take n responses) (sym (add-one k))))

-- it may wait behind those that came before
pub may_wait_next : (node : NodeState) (base k : ℕ) (responses : List Response) (response : Response) → AreToDistinct responses
    → slice_get responses k ≡ Some response → MayWait node response.request
    → MayWait (with_outbox node (node.outbox ++ responses_from base (take k responses))) response.request
may_wait_next node base k responses response once there may =
    record {
      claimed = may.claimed;
      finished = may.finished;
      first =
          list_any-append (is_to response.request) node.outbox (responses_from base (take k responses))
          ∙ or_from _ _ may.first
          (none_filtered (is_to response.request) (λ (r : Response). nat_le base r.request) (take k responses) (none_before responses k response once there));
    }

pub response_waits : (base : ℕ) (response : Response) → base ≤ response.request → responses_from base (response ∷ []) ≡ response ∷ []
response_waits base response le = ap (λ (b : Bool). if b then response ∷ [] else []) (le-leb base response.request le)

pub response_forgotten : (base : ℕ) (response : Response) → response.request < base → responses_from base (response ∷ []) ≡ []
response_forgotten base response lt = ap (λ (b : Bool). if b then response ∷ [] else []) (lt-leb base response.request lt)

-- ---- where it begins

pub begun_is : (i : InboxState) (is_paused : Bool) (kept : Kept) (topology : Topology) (packages : Packages) (state : State) (b t : ℕ) (start : Start)
    → i ≡ begun_at topology packages state.me b t start → kept ≡ with_room nothing_kept kept.room → b ≡ state.base → t ≡ state.base_time
    → start ≡ start_in state → is_paused ≡ state.paused → participant_of i is_paused kept ≡ read_nothing topology packages state
begun_is i is_paused kept topology packages state b t start inbox duties base time same paused =
    ap (λ (x : InboxState). participant_of x is_paused kept) inbox
    ∙ (λ n.
    record {
      topology = topology;
      packages = packages;
      me = state.me;
      base = base n;
      base_time = time n;
      start = same n;
      state = record {
        items = silent_front (base n) (time n);
        is_paused = paused n;
        claimed = (duties n).claimed;
        unfinished = (duties n).unfinished;
        outbox = (duties n).outbox;
      };
    })

-- ---- one item more

module _ (i : InboxState) (is_paused : Bool) (kept : Kept) (item : Item) where
  pub put_is : (new : InboxState) (after : Kept) → new ≡ with_item i item
      → ((items : List Item) → state_of items is_paused after ≡ state_of items is_paused kept)
      → participant_of new is_paused after
      ≡ with_state (participant_of i is_paused kept) (with_items (state_of i.items is_paused kept) (i.items ++ item ∷ []))
  put_is new after is same =
      ap (λ (x : InboxState). participant_of x is_paused after) is
      ∙ ap (with_state (participant_of i is_paused kept)) (same (i.items ++ item ∷ []))

-- ---- what is there

pub any_at : {X : Type 0} (p : X → Bool) (xs : List X) (k : ℕ) (x : X) → slice_get xs k ≡ Some x → p x ≡ true → list_any p xs ≡ true
any_at p [] k x e h = absurd (none-some x e)
any_at p (y ∷ ys) zero x e h = or_left (p y) (list_any p ys) (ap p (same_Some y x e) ∙ h)
any_at p (y ∷ ys) (suc k) x e h = or_right (p y) (list_any p ys) (any_at p ys k x e h)

-- places that rise are each new
below_here : (xs : List ℕ) → IsStrictlyIncreasing xs → (k : ℕ) (x : ℕ) → slice_get xs k ≡ Some x → (j : ℕ) → has_place (take k xs) j ≡ true → j < x
below_here [] rises k x e j h = absurd (none-some x e)
below_here (y ∷ ys) rises zero x e j h = absurd (both_ways false refl h)
below_here (y ∷ []) rises (suc k) x e j h = absurd (none-some x e)
below_here (y ∷ z ∷ zs) rises (suc k) x e j h =
    elim (or_cases (nat_eq j y) (has_place (take k (z ∷ zs)) j) h) [
      | inl here ↦
          let first : y < z = rises 0 (omega arith) in
          let same = eqb-true j y here in
          let le : z ≤ x = least_first (z ∷ zs) later k x z e refl in omega (arith, first, same, le)
      | inr there ↦ below_here (z ∷ zs) later k x e j there
    ]
  where
    later : IsStrictlyIncreasing (z ∷ zs)
    later i within =
        let next : suc i + 1 ≡ suc (i + 1) = omega arith in
        rw next at (rises (suc i) (omega (arith, within)))

    least_first : (ws : List ℕ) → IsStrictlyIncreasing ws → (i v w : ℕ) → slice_get ws i ≡ Some v → slice_get ws 0 ≡ Some w → w ≤ v
    least_first [] up i v w e f = absurd (none-some v e)
    least_first (u ∷ us) up zero v w e f = let a = same_Some u v e in let b = same_Some u w f in omega (arith, a, b)
    least_first (u ∷ []) up (suc i) v w e f = absurd (none-some v e)
    least_first (u ∷ t ∷ ts) up (suc i) v w e f =
        let a = same_Some u w f in
        let step : u < t = up 0 (omega arith) in
        let rest = least_first (t ∷ ts) (λ j within. let next : suc j + 1 ≡ suc (j + 1) = omega arith in rw next at (up (suc j) (omega (arith, within)))) i v t e refl in
        omega (arith, a, step, rest)

pub place_is_new : (xs : List ℕ) → IsStrictlyIncreasing xs → (k x : ℕ) → slice_get xs k ≡ Some x → has_place (take k xs) x ≡ false
place_is_new xs rises k x e =
    elim (cases_Bool (has_place (take k xs) x)) [
      | inr none ↦ none
      | inl there ↦ let lt = below_here xs rises k x e x there in absurd (omega (arith, lt))
    ]

-- ---- all of a state

module _ (topology : Topology) (packages : Packages) (state : State) (may : MayBegin topology packages state) (p : Participant)
    (begun : p ≡ read_nothing topology packages state) where
  pub may_come : (items : List StateItem) → items ≡ state.items → AreToCome p.topology p.packages p.me (items_of p) items
  may_come items same =
      subst (λ (q : Participant). AreToCome q.topology q.packages q.me (items_of q) items) (sym begun)
      (subst (AreToCome topology packages state.me (silent_front state.base state.base_time)) (sym same) may.items)

  abbrev having : List ℕ → List Response → Participant
  having claimed outbox =
      begun_with topology packages state
      (record { items = items_in topology state; is_paused = state.paused; claimed = claimed; unfinished = []; outbox = outbox })

  module _ (items : List StateItem) (come : items ≡ state.items) (q : Participant)
      (put : q ≡ with_state p (with_items p.state (items_of p ++ map (item_by p.topology) items))) where
    has_come : q ≡ having [] []
    has_come =
        put
        ∙ (ap (λ (r : Participant). with_state r (with_items r.state (items_of r ++ map (item_by r.topology) items))) begun
        ∙ ap
        (λ (xs : List StateItem). with_state (read_nothing topology packages state)
        (with_items (read_nothing topology packages state).state (silent_front state.base state.base_time ++ map (item_by topology) xs))) come)

    pub may_claim : (claims : List ℕ) → claims ≡ state.done → (k : ℕ) → has_place claims k ≡ true → owes_there q k ≡ true
    may_claim claims done k h =
        subst (λ (r : Participant). owes_there r k ≡ true) (sym has_come)
        (may.done k (subst (λ (ks : List ℕ). has_place ks k ≡ true) done h))

    pub none_claimed : q.state.claimed ≡ []
    none_claimed = ap (λ (r : Participant). r.state.claimed) has_come

    module _ (claims : List ℕ) (done : claims ≡ state.done) (c : Participant) (claimed : c ≡ with_state q (with_claimed q.state claims)) where
      has_claimed : c ≡ having state.done []
      has_claimed =
          claimed
          ∙ (ap (λ (r : Participant). with_state r (with_claimed r.state claims)) has_come
          ∙ ap (λ (ks : List ℕ). having ks []) done)

      pub may_wait : (waiting : List Response) → waiting ≡ state.outbox → (k : ℕ) → state.base ≤ k → waits_at waiting k ≡ true → MayWait c.state k
      may_wait waiting same k le h =
          subst (λ (r : Participant). MayWait r.state k) (sym has_claimed)
          (record { claimed = may.waiting k le (subst (λ (rs : List Response). waits_at rs k ≡ true) same h); finished = refl; first = refl })

      pub taken_up : (waiting : List Response) → waiting ≡ state.outbox → (end : Participant)
          → end ≡ with_state c (with_outbox c.state (c.state.outbox ++ responses_from state.base waiting)) → end ≡ begun_again topology packages state
      taken_up waiting same end waited =
          waited
          ∙ (ap (λ (r : Participant). with_state r (with_outbox r.state (r.state.outbox ++ responses_from state.base waiting))) has_claimed
          ∙ ap (λ (rs : List Response). having state.done (responses_from state.base rs)) same)
