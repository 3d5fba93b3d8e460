-- A ready participant's turn appends what is due of it.
use Rattle.std.proofs.Common.{◌≡◌, ℕ, zero, suc, ◌+◌, ◌<◌, ◌≤◌, Bool, true, false, List, [], ◌∷◌, ◌++◌, take, drop, length, Option, Some, None, refl}
use Rattle.std.proofs.Common.{sym, ap, ◌∙◌, subst, inl, inr, arith, not, ne_eqb, append_assoc, append-nil, take-append-drop, le_refl}
use Rattle.std.specs.Prelude.{nat_eq, ◌||◌}
use Rattle.std.specs.List.{list_any}
use Rattle.std.proofs.lemmas.Bool.{cases_Bool, cases_order, and_from, and_parts, or_left, or_right, or_from, both_ways, lt-ltb, ltb-true, eq-eqb}
use Rattle.std.proofs.lemmas.List.Sums.{fold-append}
use Rattle.std.proofs.lemmas.List.Folds.{list_any-append}
use Rattle.ledger_model.specs.Terms.{ParticipantId}
use Rattle.canton_model.specs.Log.{Params, request_at, decision_time_of}
use Rattle.world_model.specs.Messages.{Entry, Message, RequestMessage, ResponseMessage, VerdictMessage, Tick, Response}
use Rattle.canton_model.specs.Timeline.{or_else}
use Rattle.canton_model.specs.Reading.{Reading}
use Rattle.canton_model.specs.Mediation.{is_response_of, has_responded}
use Rattle.canton_model.specs.Inbox.{Item, items_after, inbox}
use Rattle.ledger_model.proofs.Lists.{contains_from_In}
use Rattle.world_model.specs.Machine.{Machine, GenuineLog}
use Rattle.world_model.specs.Sequencing.{last_time_from, last_time, time_after, entry_after, first_from, AppendFault, TooLate, if_already, if_late}
use Rattle.world_model.specs.Sequencing.{append_fault, unless_refused, sequenced}
use Rattle.world_model.specs.Places.{has_place}
use Rattle.world_model.specs.Node.{NodeState, owes_at, response_at, is_decided_now, is_open_at, is_claimable, is_to, waits_at, waiting_to, is_waiting_at}
use Rattle.world_model.specs.Lawful.{NodeHas}
use Rattle.world_model.specs.Settled.{is_late, is_undecided, is_asked_in, is_due, message_if, owed_response, due_at, due_below, append_each}
use Rattle.world_model.specs.Turns.{caught_up, validate_below, message_of, waiting_at, waiting_below, IsReady}
use Rattle.world_model.proofs.Grown.{request_within, decision_time_grown}
use Rattle.world_model.proofs.Appended.{sequenced_more}
use Rattle.canton_model.proofs.InboxOutcomes.{decided_same}
use Rattle.world_model.proofs.NodeFacts.{inbox_length, inbox_append, asked_request, asked_receives, owes_is, owed_is}
use Rattle.world_model.proofs.Steps.{has_validated, has_more, waiting_in, length_take}

-- refusals
pub last_snoc : (before : ℕ) (log : List Entry) (e : Entry) → last_time_from before (log ++ e ∷ []) ≡ e.time
last_snoc before [] e = refl
last_snoc before (x ∷ log) e = last_snoc x.time log e

time_rises : (now : ℕ) (message : Message) (log : List Entry) → last_time log ≤ time_after now message log
time_rises now Tick log = omega arith
time_rises now (RequestMessage q) log = omega arith
time_rises now (ResponseMessage q) log = omega arith
time_rises now (VerdictMessage q) log = omega arith

pub first_some : (test : Message → Bool) (k : ℕ) (log : List Entry) → list_any (λ (e : Entry). test e.message) log ≡ true
    → (i : ℕ) × (first_from test k log ≡ Some i)
first_some test k [] h = cc
first_some test k (x ∷ log) h =
    elim (cases_Bool (test x.message)) [
      | inl b ↦ (k, rw b refl)
      | inr b ↦ let later : list_any (λ (e : Entry). test e.message) log ≡ true = rw b at h in let r = first_some test (suc k) log later in (r.0, rw b r.1)
    ]

module _ (m : Machine) (now : ℕ) where
  rises : (log : List Entry) (x : Message) → last_time log ≤ last_time (sequenced m now log x)
  rises log x = by_fault (append_fault m log x)
    where
      by_fault : (o : Option AppendFault) → last_time log ≤ last_time (unless_refused o log (log ++ entry_after now log x ∷ []))
      by_fault (Some f) = le_refl (last_time log)
      by_fault None = let s = last_snoc 0 log (entry_after now log x) in let t = time_rises now x log in omega arith

  pub each_rises : (log : List Entry) (xs : List Message) → last_time log ≤ last_time (append_each m now log xs)
  each_rises log [] = le_refl (last_time log)
  each_rises log (x ∷ xs) = let a = rises log x in let b = each_rises (sequenced m now log x) xs in omega arith

  pub each_more : (log : List Entry) (xs : List Message) → (more : List Entry) × (append_each m now log xs ≡ log ++ more)
  each_more log [] = ([], sym (append-nil log))
  each_more log (x ∷ xs) =
      let a = sequenced_more m now log x in
      let b = each_more (sequenced m now log x) xs in
      (a.0 ++ b.0, b.1 ∙ (ap (λ (ys : List Entry). ys ++ b.0) a.1 ∙ append_assoc log a.0 b.0))

  refuses : (log : List Entry) (x : Message) (f : AppendFault) → append_fault m log x ≡ Some f → sequenced m now log x ≡ log
  refuses log x f e = ap (λ (o : Option AppendFault). unless_refused o log (log ++ entry_after now log x ∷ [])) e

  already_refused : (log : List Entry) (r : Response) → has_responded r.request log r.from ≡ true → sequenced m now log (ResponseMessage r) ≡ log
  already_refused log r h =
      let s = first_some (is_response_of r.from r.request) 0 log h in
      refuses log (ResponseMessage r) _ (ap (λ (o : Option ℕ). or_else (if_already o) (if_late m.params log r.request)) s.1)

  late_refused : (log : List Entry) (r : Response) → is_late m.params log r.request ≡ true → sequenced m now log (ResponseMessage r) ≡ log
  late_refused log r h = by_first (first_from (is_response_of r.from r.request) 0 log) refl
    where
      by_first : (o : Option ℕ) → first_from (is_response_of r.from r.request) 0 log ≡ o → sequenced m now log (ResponseMessage r) ≡ log
      by_first (Some i) e = refuses log (ResponseMessage r) _ (ap (λ (o : Option ℕ). or_else (if_already o) (if_late m.params log r.request)) e)
      by_first None e =
          let late : if_late m.params log r.request ≡ Some (TooLate (decision_time_of m.params log r.request) (last_time log + 1)) = rw h refl in
          refuses log (ResponseMessage r) _ (ap (λ (o : Option ℕ). or_else (if_already o) (if_late m.params log r.request)) e ∙ late)

-- which responses wait after a turn's validation
module _ (reading : Reading) (params : Params) (p : ParticipantId) (node : NodeState) where
  pub items_same : (n : ℕ) → (validate_below reading params p node n).items ≡ node.items
  items_same zero = refl
  items_same (suc n) =
      let it = validate_below reading params p node n in
      elim (cases_Bool (is_claimable reading params p it n)) [ inl b ↦ rw b (items_same n) | inr b ↦ rw b (items_same n) ]

  waits_still : (n k : ℕ) → waits_at node.outbox k ≡ true → waits_at (validate_below reading params p node n).outbox k ≡ true
  waits_still zero k h = h
  waits_still (suc n) k h =
      let it = validate_below reading params p node n in
      let more : waits_at (it.outbox ++ response_at reading params p it.items n ∷ []) k ≡ true =
      list_any-append (is_to k) it.outbox (response_at reading params p it.items n ∷ []) ∙ or_left _ _ (waits_still n k h) in
      elim (cases_Bool (is_claimable reading params p it n)) [ inl b ↦ rw b more | inr b ↦ rw b (waits_still n k h) ]

  pub claimed_same : (n k : ℕ) → n ≤ k → has_place (validate_below reading params p node n).claimed k ≡ has_place node.claimed k
  claimed_same zero k le = refl
  claimed_same (suc n) k le =
      let it = validate_below reading params p node n in
      let rest = claimed_same n k (omega (arith, le)) in
      let other : has_place (n ∷ []) k ≡ false = or_from (nat_eq k n) _ (ne_eqb k n (λ e. omega arith)) refl in
      let more : has_place (it.claimed ++ n ∷ []) k ≡ has_place node.claimed k =
      list_any-append (nat_eq k) it.claimed (n ∷ [])
      ∙ (ap (λ (b : Bool). has_place it.claimed k || b) other ∙ (or_none (has_place it.claimed k) ∙ rest)) in
      elim (cases_Bool (is_claimable reading params p it n)) [ inl b ↦ rw b more | inr b ↦ rw b rest ]
    where
      or_none : (b : Bool) → (b || false) ≡ b
      or_none true = refl
      or_none false = refl

  opened_waits : (n k : ℕ) → k < n → is_open_at reading params p node.items k ≡ true → has_place node.claimed k ≡ false
      → waits_at (validate_below reading params p node n).outbox k ≡ true
  opened_waits zero k lt o c = absurd (omega arith)
  opened_waits (suc n) k lt o c =
      let it = validate_below reading params p node n in
      let response = response_at reading params p it.items n in
      elim (cases_order k n) [
        | inl here ↦
            let open' : is_open_at reading params p it.items n ≡ true =
            ap (λ (its : List Item). is_open_at reading params p its n) (items_same n)
            ∙ subst (λ (i : ℕ). is_open_at reading params p node.items i ≡ true) here o in
            let free : has_place it.claimed n ≡ false = claimed_same n n (le_refl n) ∙ subst (λ (i : ℕ). has_place node.claimed i ≡ false) here c in
            let claimable : is_claimable reading params p it n ≡ true = and_from _ _ open' (ap not free) in
            let last : is_to k response ≡ true = eq-eqb n k (sym here) in
            rw claimable (list_any-append (is_to k) it.outbox (response ∷ []) ∙ or_right (waits_at it.outbox k) _ (or_left _ _ last))
        | inr s ↦ elim s [
          | inl below ↦
              let ih = opened_waits n k below o c in
              let more : waits_at (it.outbox ++ response ∷ []) k ≡ true = list_any-append (is_to k) it.outbox (response ∷ []) ∙ or_left _ _ ih in
              elim (cases_Bool (is_claimable reading params p it n)) [ inl b ↦ rw b more | inr b ↦ rw b ih ]
          | inr above ↦ absurd (omega arith)
        ]
      ]

pub waits_found : (outbox : List Response) (k : ℕ) → waits_at outbox k ≡ true → (r : Response) × (waiting_to outbox k ≡ Some r)
waits_found [] k h = cc
waits_found (x ∷ xs) k h =
    elim (cases_Bool (is_to k x)) [
      | inl b ↦ (x, rw b refl)
      | inr b ↦ let later : waits_at xs k ≡ true = rw b at h in let w = waits_found xs k later in (w.0, rw b w.1)
    ]

module _ (m : Machine) (now : ℕ) (p : ParticipantId) (log : List Entry) (genuine : GenuineLog m log) where
  abbrev its_items : List Item
  its_items = inbox m.reading p log

  pub caught : (n : ℕ) (node : NodeState) → n ≤ length log → NodeHas m p (take n log) node → NodeHas m p log (caught_up m.reading p log node)
  caught n node le h =
      let long : length node.items ≡ n = ap length h.items ∙ (inbox_length m.reading p [] (take n log) ∙ length_take n log le) in
      let items : node.items ++ items_after m.reading p (take (length node.items) log) (drop (length node.items) log) ≡ its_items =
      ap (λ (i : ℕ). node.items ++ items_after m.reading p (take i log) (drop i log)) long
      ∙ (ap (λ (its : List Item). its ++ items_after m.reading p (take n log) (drop n log)) h.items
      ∙ (sym (inbox_append m.reading p [] (take n log) (drop n log)) ∙ ap (inbox m.reading p) (take-append-drop n log))) in
      has_more m p (take n log) log node (items_after m.reading p (take (length node.items) log) (drop (length node.items) log)) h items

  -- validation keeps what a node has
  pub validated_has : (node : NodeState) → NodeHas m p log node → (n : ℕ) → n ≤ length log → NodeHas m p log (validate_below m.reading m.params p node n)
  validated_has node h zero le = h
  validated_has node h (suc n) le =
      let it = validate_below m.reading m.params p node n in
      let has = validated_has node h n (omega (arith, le)) in
      let long : length it.items ≡ length log = ap length has.items ∙ inbox_length m.reading p [] log in
      elim (cases_Bool (is_claimable m.reading m.params p it n)) [
        | inl b ↦
            let owes = (and_parts (owes_at m.reading p it.items n) _ (and_parts (is_open_at m.reading m.params p it.items n) _ b).0).0 in
            rw b (has_validated m p log it n has (omega (arith, le, long)) owes)
        | inr b ↦ rw b has
      ]

  -- what a participant that has read the whole log finds there
  module _ (node : NodeState) (has : NodeHas m p log node) where
    owes_same : (k : ℕ) → owes_at m.reading p node.items k ≡ is_asked_in m.reading p (request_at log k)
    owes_same k = ap (λ (its : List Item). owes_at m.reading p its k) has.items ∙ owes_is m.reading p log k

    pub undecided_same : (k : ℕ) → is_asked_in m.reading p (request_at log k) ≡ true → not (is_decided_now m.params node.items k) ≡ is_undecided m.params log k
    undecided_same k asked =
        let q = asked_request m.reading p (request_at log k) asked in
        let here = asked_receives m.reading p q.0 q.2 in
        ap (λ (its : List Item). not (is_decided_now m.params its k)) has.items ∙ ap not (decided_same m.reading m.params p log k q.0 genuine.timely q.1 here)

    waiting_is : (k : ℕ) → waits_at node.outbox k ≡ true → (waiting_to node.outbox k ≡ Some (owed_response m p log k))
        × (is_asked_in m.reading p (request_at log k) ≡ true)
    waiting_is k w =
        let f = waits_found node.outbox k w in
        let i = waiting_in node.outbox k f.0 f.1 in
        let own = has.outbox f.0 (contains_from_In node.outbox f.0 i.0) in
        let is : f.0 ≡ owed_response m p log k =
        own.is ∙ (ap (response_at m.reading m.params p node.items) i.1
        ∙ (ap (λ (its : List Item). response_at m.reading m.params p its k) has.items
        ∙ ap (λ vs. record { from = p; request = k; verdicts = vs }) (owed_is m.reading m.params p log k))) in
        (f.1 ∙ ap Some is, sym (owes_same k) ∙ (ap (owes_at m.reading p node.items) (sym i.1) ∙ own.owes))

    message_at : (k : ℕ) → message_of (waiting_at m.params node k) ≡ message_if (is_waiting_at m.params node k) (ResponseMessage (owed_response m p log k))
    message_at k =
        elim (cases_Bool (is_waiting_at m.params node k)) [
          | inl w ↦ rw w (ap message_of (waiting_is k (and_parts (waits_at node.outbox k) _ w).0).0)
          | inr w ↦ rw w refl
        ]

  module _ (node : NodeState) (h : NodeHas m p log node) (ready : IsReady m p log node) where
    abbrev it : NodeState
    it = validate_below m.reading m.params p node (length log)

    pub has : NodeHas m p log it
    has = validated_has node h (length log) (le_refl (length log))

    abbrev owed : ℕ → Message
    owed k = ResponseMessage (owed_response m p log k)

    due_not : (k : ℕ) → is_asked_in m.reading p (request_at log k) ≡ true → is_undecided m.params log k ≡ true → is_due m log p k ≡ false
        → has_responded k log p ≡ true
    due_not k a u d = elim (cases_Bool (has_responded k log p)) [ inl b ↦ b | inr b ↦ absurd (both_ways _ d (and_from _ _ a (and_from _ _ (ap not b) u))) ]

    -- one place
    same_place : (k : ℕ) (more : List Entry) → last_time log ≤ last_time (log ++ more)
        → append_each m now (log ++ more) (message_if (is_waiting_at m.params it k) (owed k)) ≡ append_each m now (log ++ more) (due_at m p log k)
    same_place k more later =
        elim (cases_Bool (is_waiting_at m.params it k)) [
          | inl w ↦
              let parts = and_parts (waits_at it.outbox k) _ w in
              let asked = (waiting_is it has k parts.0).1 in
              elim (cases_Bool (is_due m log p k)) [
                | inl d ↦ rw (w, d) refl
                | inr d ↦
                    let open' : is_undecided m.params log k ≡ true = sym (undecided_same it has k asked) ∙ parts.1 in
                    let responded : has_responded k log p ≡ true = due_not k asked open' d in
                    let responded' : has_responded k (log ++ more) p ≡ true =
                    list_any-append (λ (x : Entry). is_response_of p k x.message) log more ∙ or_left _ _ responded in
                    rw (w, d) (already_refused m now (log ++ more) (owed_response m p log k) responded')
              ]
          | inr w ↦ elim (cases_Bool (is_due m log p k)) [
            | inr d ↦ rw (w, d) refl
            | inl d ↦
                let parts = and_parts (is_asked_in m.reading p (request_at log k)) _ d in
                let asked = parts.0 in
                let open' = (and_parts (not (has_responded k log p)) _ parts.1).1 in
                let q = asked_request m.reading p (request_at log k) asked in
                let lt = request_within log k q.0 q.1 in
                elim (cases_Bool (is_late m.params log k)) [
                  | inl late ↦
                      let before = ltb-true (decision_time_of m.params log k) (last_time log + 1) late in
                      let dec = decision_time_grown log more m.params k lt in
                      let late' : is_late m.params (log ++ more) k ≡ true =
                      lt-ltb (decision_time_of m.params (log ++ more) k) (last_time (log ++ more) + 1) (omega arith) in
                      rw (w, d) (sym (late_refused m now (log ++ more) (owed_response m p log k) late'))
                  | inr timely ↦
                      let there : waits_at it.outbox k ≡ true = elim (ready.ready k d timely) [
                        | inr waits ↦ waits_still m.reading m.params p node (length log) k waits
                        | inl free ↦ opened_waits m.reading m.params p node (length log) k lt
                            (and_from _ _ (owes_same node h k ∙ asked) (undecided_same node h k asked ∙ open')) free
                      ] in
                      absurd (both_ways _ w (and_from _ _ there (undecided_same it has k asked ∙ open')))
                ]
          ]
        ]

    pub same_below : (n : ℕ) → append_each m now log (waiting_below m.params it n) ≡ append_each m now log (due_below m p log n)
    same_below zero = refl
    same_below (suc n) =
        let grown = each_more m now log (due_below m p log n) in
        let later : last_time log ≤ last_time (log ++ grown.0) = let r =
        each_rises m now log (due_below m p log n) in subst (λ (xs : List Entry). last_time log ≤ last_time xs) grown.1 r in
        let here = same_place n grown.0 later in
        let one = message_if (is_waiting_at m.params it n) (owed n) in
        ap (λ (xs : List Message). append_each m now log (waiting_below m.params it n ++ xs)) (message_at it has n)
        ∙ (fold-append (sequenced m now) log (waiting_below m.params it n) one
        ∙ (ap (λ (xs : List Entry). append_each m now xs one) (same_below n)
        ∙ (subst (λ (xs : List Entry). append_each m now xs one ≡ append_each m now xs (due_at m p log n)) (sym grown.1) here
        ∙ sym (fold-append (sequenced m now) log (due_below m p log n) (due_at m p log n)))))
