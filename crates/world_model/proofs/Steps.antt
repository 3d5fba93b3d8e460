-- Each event keeps a world lawful.
use Rattle.std.proofs.Common.{◌≡◌, ◌⊎◌, ℕ, zero, suc, ◌+◌, ◌<◌, ◌≤◌, Bool, true, false, List, [], ◌∷◌, ◌++◌, take, drop, length, Option, Some, None}
use Rattle.std.proofs.Common.{refl, sym, ap, ◌∙◌, subst, inl, inr, arith, take-append-drop, le_refl}
use Rattle.std.specs.Prelude.{slice_get, nat_eq, not, replicate, option_and_then}
use Rattle.std.proofs.lemmas.Bool.{cases_Bool, and_parts, or_cases, both_ways, eqb-true}
use Rattle.std.proofs.lemmas.List.Folds.{list_any-append}
use Rattle.std.proofs.lemmas.Option.{none-some, same_Some, slice_get_within}
use Rattle.std.proofs.lemmas.List.{length-append, take-append-le}
use Rattle.ledger_terms.specs.declared.submission.Submission.{Submission}
use Rattle.ledger_model.specs.Terms.{ParticipantId}
use Rattle.canton_model.specs.Log.{request_of, request_in}
use Rattle.world_model.specs.Messages.{Entry, Message, RequestMessage, ResponseMessage, VerdictMessage, Tick, Request, Response, Verdict}
use Rattle.canton_model.specs.Checks.{verdicts_owed}
use Rattle.canton_model.specs.Ledger.{VerdictFits, FitsIfVerdict}
use Rattle.canton_model.specs.Genuine.{IsReading}
use Rattle.canton_model.specs.Mediation.{scan}
use Rattle.canton_model.specs.Inbox.{Item, notice_in, item_after, inbox}
use Rattle.ledger_model.proofs.Lists.{In, in_append_cases, in_from_Contains, contains_from_In, from_filter, in_any, from_any}
use Rattle.canton_model.proofs.InboxGrows.{items_push}
use Rattle.world_model.specs.Machine.{Machine, GenuineLog, IsMachine, confirms_some_view}
use Rattle.world_model.specs.Sequencing.{sequenced, reserved}
use Rattle.world_model.specs.Places.{first_from, has_place, without_place}
use Rattle.world_model.specs.Fits.{IsOwed, IsDecision, MayStand}
use Rattle.world_model.specs.Node.{NodeState, owes_at, response_at, is_claimable, next_claim, claim, finish, validate, is_to, waiting_to}
use Rattle.world_model.specs.Node.{is_waiting_at, outbox_head, sent, put_back, with_flag, with_items, read_entry, new_node}
use Rattle.world_model.specs.Mediator.{MediatorState, next_verdict, take_verdict, give_back, read_by_mediator}
use Rattle.world_model.specs.World.{World, Event, Advance, Submit, SubmitRaw, NodeRead, Validate, Reply, LoseReply, MediatorRead, GiveVerdict, LoseVerdict}
use Rattle.world_model.specs.World.{Pause, set_at, with_node, with_mediator, submit_wanted, submit, node_reads, validates, replies, loses_reply}
use Rattle.world_model.specs.World.{at_node, mediator_reads, gives_verdict, loses_verdict, happens, played, new_world}
use Rattle.world_model.specs.Lawful.{IsOwn, NodeHas, MediatorHas, Lawful}
use Rattle.world_model.proofs.Grown.{slice_get_left, take_grown, owed_stands, scan_within}
use Rattle.world_model.proofs.Appended.{sequenced_keeps, sequenced_more, sequenced_within}
use Rattle.world_model.proofs.NodeFacts.{inbox_length, first_from_is, response_owed}
use Rattle.canton_model.proofs.LongerLogs.{genuine_take, scan_grown}
use Rattle.world_model.proofs.MediatorFacts.{VerdictsBelow, cases_push, next_is_decision}

-- lists
module _ {X : Type 0} where
  pub take_next : (n : ℕ) (xs : List X) (x : X) → slice_get xs n ≡ Some x → take (suc n) xs ≡ take n xs ++ x ∷ []
  take_next n [] x e = absurd (none-some x e)
  take_next zero (y ∷ xs) x e = ap (λ (z : X). z ∷ []) (same_Some y x e)
  take_next (suc n) (y ∷ xs) x e = ap (λ (zs : List X). y ∷ zs) (take_next n xs x e)

  pub length_take : (n : ℕ) (xs : List X) → n ≤ length xs → length (take n xs) ≡ n
  length_take zero xs le = refl
  length_take (suc n) [] le = absurd (omega (arith, le))
  length_take (suc n) (x ∷ xs) le = ap suc (length_take n xs (omega (arith, le)))

  pub length_set : (xs : List X) (k : ℕ) (y : X) → length (set_at xs k y) ≡ length xs
  length_set [] k y = refl
  length_set (x ∷ xs) zero y = refl
  length_set (x ∷ xs) (suc k) y = ap suc (length_set xs k y)

  pub set_cases : (xs : List X) (k i : ℕ) (y x : X) → slice_get (set_at xs k y) i ≡ Some x → ((i ≡ k) × (y ≡ x)) ⊎ (slice_get xs i ≡ Some x)
  set_cases [] k i y x e = inr e
  set_cases (z ∷ xs) zero zero y x e = inl (refl, same_Some y x e)
  set_cases (z ∷ xs) zero (suc i) y x e = inr e
  set_cases (z ∷ xs) (suc k) zero y x e = inr e
  set_cases (z ∷ xs) (suc k) (suc i) y x e = elim (set_cases xs k i y x e) [ inl h ↦ inl (ap suc h.0, h.1) | inr h ↦ inr h ]

-- what a genuine log tells of its requests and verdicts
request_message : (message : Message) (q : Request) → request_of message ≡ Some q → message ≡ RequestMessage q
request_message (RequestMessage r) q e = ap RequestMessage (same_Some r q e)
request_message (ResponseMessage r) q e = absurd (none-some q e)
request_message (VerdictMessage r) q e = absurd (none-some q e)
request_message Tick q e = absurd (none-some q e)

pub entry_of_request : (o : Option Entry) (q : Request) → request_in o ≡ Some q → (e : Entry) × (o ≡ Some e) × (e.message ≡ RequestMessage q)
entry_of_request None q e = absurd (none-some q e)
entry_of_request (Some x) q e = (x, refl, request_message x.message q e)

-- what is found in an outbox stands there
pub waiting_in : (outbox : List Response) (k : ℕ) (r : Response) → waiting_to outbox k ≡ Some r → In r outbox × (r.request ≡ k)
waiting_in [] k r e = absurd (none-some r e)
waiting_in (x ∷ xs) k r e =
    elim (cases_Bool (is_to k x)) [
      | inl b ↦ let same : x ≡ r = same_Some x r (rw b at e) in (inl same, ap (λ (y : Response). y.request) (sym same) ∙ eqb-true x.request k b)
      | inr b ↦ let w = waiting_in xs k r (rw b at e) in (inr w.0, w.1)
    ]

module _ (m : Machine) where
  pub verdicts_below : (log : List Entry) → GenuineLog m log → VerdictsBelow log
  verdicts_below log g k e v at is =
      let fit : VerdictFits m.params log k e.time v = subst (FitsIfVerdict m.params log k e.time) is ((g.timely).verdicts k e at) in
      let w = scan_within m.params (take k log) v.request v.decision fit.decided in
      let within = slice_get_within log k e at in
      let l = length_take k log (omega (arith, within)) in omega arith

  -- the parts of a world
  abbrev NodeAt : List Entry → ParticipantId → NodeState → Type 0
  NodeAt log p node = (n : ℕ) × (n ≤ length log) × NodeHas m p (take n log) node

  node_grown : (log more : List Entry) (p : ParticipantId) (node : NodeState) → NodeAt log p node → NodeAt (log ++ more) p node
  node_grown log more p node h =
      let long = length-append log more in
      (h.0, let le = h.1 in omega arith, subst (λ (xs : List Entry). NodeHas m p xs node) (sym (take_grown log more h.0 h.1)) h.2)

  pub lawful_grown : (w : World) (more : List Entry) (now : ℕ) → Lawful m w → GenuineLog m (w.log ++ more) → reserved (w.log ++ more) ≤ m.capacity
      → Lawful m (record { log = w.log ++ more; now = now; mediator = w.mediator; nodes = w.nodes })
  lawful_grown w more now h g le =
      record {
        genuine = g;
        within_capacity = le;
        hosts = h.hosts;
        node = λ p node at. node_grown w.log more p node (h.node p node at);
        mediator =
            let long = length-append w.log more in let k = h.mediator in
            (k.0, let le = k.1 in omega arith, subst (λ (xs : List Entry). MediatorHas m xs w.mediator) (sym (take_grown w.log more k.0 k.1)) k.2);
      }

  pub lawful_append : (w : World) (now : ℕ) (message : Message) → Lawful m w → MayStand m w.log message
      → Lawful m (record { log = sequenced m now w.log message; now = now; mediator = w.mediator; nodes = w.nodes })
  lawful_append w now message h may =
      let more = sequenced_more m now w.log message in
      let g = sequenced_keeps m now w.log message h.genuine may in
      subst (λ (log : List Entry). Lawful m (record { log = log; now = now; mediator = w.mediator; nodes = w.nodes })) (sym more.1)
      (lawful_grown w more.0 now h (subst (GenuineLog m) more.1 g)
      (subst (λ (log : List Entry). reserved log ≤ m.capacity) more.1 (sequenced_within m now w.log message h.within_capacity)))

  pub lawful_with_node : (w : World) (p : ParticipantId) (node : NodeState) → Lawful m w → NodeAt w.log p node → Lawful m (with_node w p node)
  lawful_with_node w p node h n =
      record {
        genuine = h.genuine;
        within_capacity = h.within_capacity;
        hosts = length_set w.nodes p node ∙ h.hosts;
        node = λ q x at. elim (set_cases w.nodes p q node x at) [
          | inl here ↦ subst (λ (i : ℕ). NodeAt w.log i x) (sym here.0) (subst (NodeAt w.log p) here.1 n)
          | inr there ↦ h.node q x there
        ];
        mediator = h.mediator;
      }

  pub lawful_with_mediator : (w : World) (mediator : MediatorState) → Lawful m w
      → (n : ℕ) × (n ≤ length w.log) × MediatorHas m (take n w.log) mediator → Lawful m (with_mediator w mediator)
  lawful_with_mediator w mediator h n = record { genuine = h.genuine; within_capacity = h.within_capacity; hosts = h.hosts; node = h.node; mediator = n }

  without_has : (k n : ℕ) (places : List ℕ) → has_place (without_place k places) n ≡ true → has_place places n ≡ true
  without_has k n places h =
      let w = from_any (nat_eq n) (without_place k places) h in
      in_any (nat_eq n) places w.0 (from_filter (λ (i : ℕ). not (nat_eq i k)) places w.0 w.1).0 w.2

  -- what each call keeps
  has_fewer : (p : ParticipantId) (read : List Entry) (node after : NodeState) → NodeHas m p read node → after.items ≡ node.items
      → ((k : ℕ) → has_place after.claimed k ≡ true → k < length node.items) → ((r : Response) → In r after.outbox → In r node.outbox) → NodeHas m p read after
  has_fewer p read node after h same claims fewer =
      record {
        items = same ∙ h.items;
        claims = λ k c. rw same (claims k c);
        outbox = λ r c.
            let o = h.outbox r (contains_from_In node.outbox r (fewer r (in_from_Contains after.outbox r c))) in
            record {
              is_read = rw same o.is_read;
              owes = rw same o.owes;
              is = o.is ∙ ap (λ (items : List Item). response_at m.reading m.params p items r.request) (sym same);
            };
      }

  pub has_sent : (p : ParticipantId) (read : List Entry) (node : NodeState) (k : ℕ) → NodeHas m p read node → NodeHas m p read (sent node k)
  has_sent p read node k h = has_fewer p read node (sent node k) h refl h.claims (λ r i. (from_filter (λ (x : Response). not (is_to k x)) node.outbox r i).0)

  pub has_put_back : (p : ParticipantId) (read : List Entry) (node : NodeState) (k : ℕ) → NodeHas m p read node → NodeHas m p read (put_back node k)
  has_put_back p read node k h =
      has_fewer p read node (put_back node k) h refl (λ n c. h.claims n (without_has k n node.claimed c))
      (λ r i. (from_filter (λ (x : Response). not (is_to k x)) node.outbox r i).0)

  pub has_flag : (p : ParticipantId) (read : List Entry) (node : NodeState) (b : Bool) → NodeHas m p read node → NodeHas m p read (with_flag node b)
  has_flag p read node b h = has_fewer p read node (with_flag node b) h refl h.claims (λ r i. i)

  pub has_claim : (p : ParticipantId) (read : List Entry) (node : NodeState) (k : ℕ) → NodeHas m p read node → k < length node.items
      → NodeHas m p read (claim node k)
  has_claim p read node k h lt =
      has_fewer p read node (claim node k) h refl
      (λ n c. elim (or_cases (has_place node.claimed n) (has_place (k ∷ []) n) (sym (list_any-append (nat_eq n) node.claimed (k ∷ [])) ∙ c)) [
        | inl old ↦ h.claims n old
        | inr new ↦ elim
            (or_cases (nat_eq n k) false new) [
              | inl here ↦ subst (λ (i : ℕ). i < length node.items) (sym (eqb-true n k here)) lt
              | inr none ↦ absurd
                  (both_ways _ refl none)
            ]
      ]) (λ r i. i)

  pub has_finish : (p : ParticipantId) (read : List Entry) (node : NodeState) (k : ℕ) → NodeHas m p read node → k < length node.items
      → owes_at m.reading p node.items k ≡ true → NodeHas m p read (finish node (response_at m.reading m.params p node.items k))
  has_finish p read node k h lt owes =
      record {
        items = h.items;
        claims = h.claims;
        outbox = λ r c. elim
            (in_append_cases node.outbox (response_at m.reading m.params p node.items k ∷ []) r
            (in_from_Contains (node.outbox ++ response_at m.reading m.params p node.items k ∷ []) r c)) [
              | inl old ↦
                  let o = h.outbox r (contains_from_In node.outbox r old) in
                  record { is_read = o.is_read; owes = o.owes; is = o.is }
              | inr new ↦ elim new [
                | inl same ↦
                    subst (IsOwn m p (finish node (response_at m.reading m.params p node.items k))) same
                    (record { is_read = lt; owes = owes; is = refl })
                | inr none ↦ absurd none
              ]
            ];
      }

  pub has_validated : (p : ParticipantId) (read : List Entry) (node : NodeState) (k : ℕ) → NodeHas m p read node → k < length node.items
      → owes_at m.reading p node.items k ≡ true → NodeHas m p read (validate m.reading m.params p node k)
  has_validated p read node k h lt owes = has_finish p read (claim node k) k (has_claim p read node k h lt) lt owes

  -- what waits is the same after more was read
  own_grown : (p : ParticipantId) (node : NodeState) (more : List Item) (r : Response) → IsOwn m p node r → IsOwn m p (with_items node (node.items ++ more)) r
  own_grown p node more r o =
      let long = length-append node.items more in
      let lt = o.is_read in
      record {
        is_read = omega arith;
        owes = ap (λ (x : Option Item). confirms_some_view (notice_in x)) (slice_get_left node.items more r.request lt) ∙ o.owes;
        is = o.is
            ∙ ap (λ (items : List Item). record { from = p; request = r.request; verdicts = verdicts_owed m.reading m.params p items r.request })
            (sym (take-append-le (suc r.request) node.items more (omega (arith, lt))));
      }

  pub has_more : (p : ParticipantId) (read all : List Entry) (node : NodeState) (more : List Item) → NodeHas m p read node
      → node.items ++ more ≡ inbox m.reading p all → NodeHas m p all (with_items node (node.items ++ more))
  has_more p read all node more h is =
      record {
        items = is;
        claims = λ k c. let lt = h.claims k c in let long = length-append node.items more in omega arith;
        outbox = λ r c. own_grown p node more r (h.outbox r c);
      }

  pub has_read : (p : ParticipantId) (read : List Entry) (node : NodeState) (e : Entry) → NodeHas m p read node
      → NodeHas m p (read ++ e ∷ []) (read_entry m.reading p node read e)
  has_read p read node e h =
      has_more p read (read ++ e ∷ []) node (item_after m.reading p read e ∷ []) h
      (ap (λ (items : List Item). items ++ item_after m.reading p read e ∷ []) h.items ∙ sym (items_push m.reading p [] read e))

  -- the response that waits is owed
  pub waiting_owed : (p : ParticipantId) (read : List Entry) (node : NodeState) (r : Response) → IsReading m.reading → GenuineLog m read → NodeHas m p read node
      → In r node.outbox → IsOwed m.reading m.params read r
  waiting_owed p read node r is g h i =
      let o = h.outbox r (contains_from_In node.outbox r i) in
      let owes : owes_at m.reading p (inbox m.reading p read) r.request ≡ true =
      ap (λ (items : List Item). owes_at m.reading p items r.request) (sym h.items) ∙ o.owes in
      let same : r ≡ response_at m.reading m.params p (inbox m.reading p read) r.request =
      o.is ∙ ap (λ (items : List Item). response_at m.reading m.params p items r.request) h.items in
      subst (IsOwed m.reading m.params read) (sym same) (response_owed m p read r.request is g owes)

  pub mediator_has_read : (read : List Entry) (mediator : MediatorState) (e : Entry) → MediatorHas m read mediator
      → MediatorHas m (read ++ e ∷ []) (read_by_mediator m.params mediator e)
  mediator_has_read read mediator e h =
      record {
        cursor = let long = length-append read (e ∷ []) in let one : length (e ∷ []) ≡ 1 = refl in let c = h.cursor in omega arith;
        cases = rw (h.cursor, h.cases) (sym (cases_push m.params read e));
        given = λ k c. let r = h.given k c in (r.0, scan_grown m.params read (e ∷ []) k r.0 r.1);
      }

  pub mediator_has_taken : (read : List Entry) (mediator : MediatorState) (v : Verdict) → GenuineLog m read → MediatorHas m read mediator
      → next_verdict mediator ≡ Some v → IsDecision m.params read v × MediatorHas m read (take_verdict mediator v.request)
  mediator_has_taken read mediator v g h e =
      let decided : IsDecision m.params read v = next_is_decision m.params read mediator.given v (verdicts_below read g) (rw h.cases at e) in (
        decided,
        record {
          cursor = h.cursor;
          cases = h.cases;
          given = λ k c. elim (or_cases (nat_eq k v.request) (has_place mediator.given k) c) [
            | inl here ↦ (v.decision, subst (λ (i : ℕ). scan m.params read i ≡ Some v.decision) (sym (eqb-true k v.request here)) decided)
            | inr old ↦ h.given k old
          ];
        },
      )

  pub mediator_has_back : (read : List Entry) (mediator : MediatorState) (k : ℕ) → MediatorHas m read mediator → MediatorHas m read (give_back mediator k)
  mediator_has_back read mediator k h = record { cursor = h.cursor; cases = h.cases; given = λ n c. h.given n (without_has k n mediator.given c) }

  -- a response in an outbox may stand in the log
  whole_log : (n : ℕ) (log : List Entry) (r : Response) → IsOwed m.reading m.params (take n log) r → IsOwed m.reading m.params log r
  whole_log n log r o =
      subst (λ (xs : List Entry). IsOwed m.reading m.params xs r) (take-append-drop n log) (owed_stands m.reading m.params (take n log) (drop n log) r o)

  whole_decision : (n : ℕ) (log : List Entry) (v : Verdict) → IsDecision m.params (take n log) v → IsDecision m.params log v
  whole_decision n log v o =
      subst (λ (xs : List Entry). IsDecision m.params xs v) (take-append-drop n log) (scan_grown m.params (take n log) (drop n log) v.request v.decision o)

  module _ (machine : IsMachine m) (w : World) (h : Lawful m w) where
    reads : (p : ParticipantId) (node : NodeState) (o : Option Entry) → slice_get w.nodes p ≡ Some node → slice_get w.log (length node.items) ≡ o
        → Lawful m (node_reads m w p node o)
    reads p node None at e = h
    reads p node (Some x) at e =
        let n = h.node p node at in
        let long : length node.items ≡ n.0 = ap length (n.2).items ∙ (inbox_length m.reading p [] (take n.0 w.log) ∙ length_take n.0 w.log n.1) in
        let there : slice_get w.log n.0 ≡ Some x = ap (slice_get w.log) (sym long) ∙ e in
        let within = slice_get_within w.log n.0 x there in
        lawful_with_node w p (read_entry m.reading p node (take (length node.items) w.log) x) h (
          suc n.0,
          omega (arith, within),
          subst (λ (xs : List Entry). NodeHas m p xs (read_entry m.reading p node (take (length node.items) w.log) x)) (sym (take_next n.0 w.log x there))
              (subst (λ (k : ℕ). NodeHas m p (take n.0 w.log ++ x ∷ []) (read_entry m.reading p node (take k w.log) x)) (sym long)
              (has_read p (take n.0 w.log) node x n.2)),
        )

    validated : (p : ParticipantId) (node : NodeState) (o : Option ℕ) → slice_get w.nodes p ≡ Some node → next_claim m.reading m.params p node ≡ o
        → Lawful m (validates m w p node o)
    validated p node None at e = h
    validated p node (Some k) at e =
        let n = h.node p node at in
        let is = first_from_is (is_claimable m.reading m.params p node) 0 (length node.items) k e in
        let lt = is.below in
        let owes = (and_parts (owes_at m.reading p node.items k) _ (and_parts _ _ is.passes).0).0 in
        lawful_with_node w p (validate m.reading m.params p node k) h (n.0, n.1, has_validated p (take n.0 w.log) node k n.2 (omega arith) owes)

    in_outbox : (p : ParticipantId) (node : NodeState) (r : Response) → slice_get w.nodes p ≡ Some node → outbox_head m.params node ≡ Some r
        → IsOwed m.reading m.params w.log r
    in_outbox p node r at e =
        let n = h.node p node at in
        whole_log n.0 w.log _
        (waiting_owed p (take n.0 w.log) node r machine.is_reading (genuine_take m.reading m.params w.log n.0 h.genuine) n.2
        (head_waits (first_from (is_waiting_at m.params node) 0 (length node.items)) e))
      where
        head_waits : (o : Option ℕ) → option_and_then (waiting_to node.outbox) o ≡ Some r → In r node.outbox
        head_waits None e = absurd (none-some r e)
        head_waits (Some k) e = (waiting_in node.outbox k r e).0

    less : (p : ParticipantId) (node : NodeState) (k : ℕ) → slice_get w.nodes p ≡ Some node → Lawful m (with_node w p (sent node k))
    less p node k at = let n = h.node p node at in lawful_with_node w p (sent node k) h (n.0, n.1, has_sent p (take n.0 w.log) node k n.2)

    replied : (p : ParticipantId) (node : NodeState) (o : Option Response) → slice_get w.nodes p ≡ Some node → outbox_head m.params node ≡ o
        → Lawful m (replies m w p node o)
    replied p node None at e = h
    replied p node (Some r) at e =
        lawful_append (with_node w p (sent node r.request)) w.now (ResponseMessage r) (less p node r.request at) (in_outbox p node r at e)

    lost : (p : ParticipantId) (node : NodeState) (o : Option Response) → slice_get w.nodes p ≡ Some node → Lawful m (loses_reply w p node o)
    lost p node None at = h
    lost p node (Some r) at = less p node r.request at

    mediator_read : (o : Option Entry) → slice_get w.log (w.mediator).cursor ≡ o → Lawful m (mediator_reads m w o)
    mediator_read None e = h
    mediator_read (Some x) e =
        let n = h.mediator in
        let at : (w.mediator).cursor ≡ n.0 = (n.2).cursor ∙ length_take n.0 w.log n.1 in
        let there : slice_get w.log n.0 ≡ Some x = ap (slice_get w.log) (sym at) ∙ e in
        let within = slice_get_within w.log n.0 x there in
        lawful_with_mediator w (read_by_mediator m.params w.mediator x) h (
          suc n.0,
          omega (arith, within),
          subst (λ (xs : List Entry). MediatorHas m xs (read_by_mediator m.params w.mediator x))
              (sym (take_next n.0 w.log x there)) (mediator_has_read (take n.0 w.log) w.mediator x n.2),
        )

    taken : (v : Verdict) → next_verdict w.mediator ≡ Some v
        → IsDecision m.params (take (h.mediator).0 w.log) v × MediatorHas m (take (h.mediator).0 w.log) (take_verdict w.mediator v.request)
    taken v e = let n = h.mediator in mediator_has_taken (take n.0 w.log) w.mediator v (genuine_take m.reading m.params w.log n.0 h.genuine) n.2 e

    took : (v : Verdict) → next_verdict w.mediator ≡ Some v → Lawful m (with_mediator w (take_verdict w.mediator v.request))
    took v e = let n = h.mediator in lawful_with_mediator w (take_verdict w.mediator v.request) h (n.0, n.1, (taken v e).1)

    gave : (o : Option Verdict) → next_verdict w.mediator ≡ o → Lawful m (gives_verdict m w o)
    gave None e = h
    gave (Some v) e =
        lawful_append (with_mediator w (take_verdict w.mediator v.request)) w.now (VerdictMessage v) (took v e)
        (whole_decision (h.mediator).0 w.log v (taken v e).0)

    kept : (o : Option Verdict) → next_verdict w.mediator ≡ o → Lawful m (loses_verdict w o)
    kept None e = h
    kept (Some v) e = took v e

    wanted : (o : Option Request) → Lawful m (submit_wanted m w o)
    wanted None = h
    wanted (Some q) = lawful_append w w.now (RequestMessage q) h tt

    submitted : (what : Submission) (node : NodeState) → Lawful m (submit m w what node)
    submitted what node = elim (cases_Bool node.is_paused) [ inl b ↦ rw b h | inr b ↦ rw b (wanted (m.prepare what node.items w.now)) ]

    at : (o : Option NodeState) (p : ParticipantId) (step : NodeState → World) → slice_get w.nodes p ≡ o
        → ((node : NodeState) → slice_get w.nodes p ≡ Some node → Lawful m (step node)) → Lawful m (at_node w o step)
    at None p step e f = h
    at (Some node) p step e f = f node e

    pub happens_keeps : (event : Event) → Lawful m (happens m w event)
    happens_keeps (Advance by) = elim (cases_Bool (nat_eq by 0)) [ inl b ↦ rw b h | inr b ↦ rw b (lawful_append w (w.now + by) Tick h tt) ]
    happens_keeps (Submit what) = at (slice_get w.nodes what.participant) what.participant _ refl (λ node e. submitted what node)
    happens_keeps (SubmitRaw q) = lawful_append w w.now (RequestMessage q) h tt
    happens_keeps (NodeRead p) = at (slice_get w.nodes p) p _ refl (λ node e. reads p node (slice_get w.log (length node.items)) e refl)
    happens_keeps (Validate p) = at (slice_get w.nodes p) p _ refl (λ node e. validated p node (next_claim m.reading m.params p node) e refl)
    happens_keeps (Reply p) = at (slice_get w.nodes p) p _ refl (λ node e. replied p node (outbox_head m.params node) e refl)
    happens_keeps (LoseReply p) = at (slice_get w.nodes p) p _ refl (λ node e. lost p node (outbox_head m.params node) e)
    happens_keeps MediatorRead = mediator_read (slice_get w.log (w.mediator).cursor) refl
    happens_keeps GiveVerdict = gave (next_verdict w.mediator) refl
    happens_keeps LoseVerdict = kept (next_verdict w.mediator) refl
    happens_keeps (Pause p b) =
        at (slice_get w.nodes p) p _ refl
        (λ node e. let n = h.node p node e in lawful_with_node w p (with_flag node b) h (n.0, n.1, has_flag p (take n.0 w.log) node b n.2))

  pub played_keeps : (machine : IsMachine m) (w : World) (events : List Event) → Lawful m w → Lawful m (played m w events)
  played_keeps machine w [] h = h
  played_keeps machine w (event ∷ rest) h = played_keeps machine (happens m w event) rest (happens_keeps machine w h event)

in_replicate : {X : Type 0} (n i : ℕ) (y x : X) → slice_get (replicate n y) i ≡ Some x → y ≡ x
in_replicate zero i y x e = absurd (none-some x e)
in_replicate (suc n) zero y x e = same_Some y x e
in_replicate (suc n) (suc i) y x e = in_replicate n i y x e

length_replicate : {X : Type 0} (n : ℕ) (y : X) → length (replicate n y) ≡ n
length_replicate zero y = refl
length_replicate (suc n) y = ap suc (length_replicate n y)

pub new_lawful : (m : Machine) → Lawful m (new_world m)
new_lawful m =
    record {
      genuine = record {
        timely = record { times = tt; verdicts = λ k e at. absurd (none-some e at) };
        requests = λ k e at. absurd (none-some e at);
        responses = λ k e at. absurd (none-some e at);
      };
      within_capacity = omega arith;
      hosts = length_replicate m.hosts new_node;
      node = λ p node at.
          let same = in_replicate m.hosts p new_node node at in
          subst (λ (x : NodeState). (n : ℕ) × (n ≤ 0) × NodeHas m p (take n []) x) same
          (0, le_refl 0, record { items = refl; claims = λ k c. cc; outbox = λ r c. absurd (in_from_Contains [] r c) });
      mediator = (0, le_refl 0, record { cursor = refl; cases = refl; given = λ k c. cc });
    }
