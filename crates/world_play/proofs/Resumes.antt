-- What is put back, and given back, open request after open request.
use Rattle.std.proofs.Common.{◌≡◌, ℕ, zero, suc, ◌+◌, ◌<◌, ◌≤◌, Bool, true, false, not, List, [], ◌∷◌, ◌++◌, take, length, map, Option, Some, None}
use Rattle.std.proofs.Common.{refl, sym, ap, ◌∙◌, subst, inl, inr, arith, append-nil}
use Rattle.std.specs.Prelude.{slice_get, slice_index_or, is_some, nat_lt, ◌&&◌, fold}
use Rattle.std.proofs.lemmas.Bool.{and_parts, cases_Bool, le-ltb, lt-ltb, ltb-true}
use Rattle.std.proofs.lemmas.List.{take_all}
use Rattle.std.proofs.lemmas.Option.{slice_get_within}
use Rattle.ledger_model.specs.Terms.{ParticipantId}
use Rattle.canton_model.specs.Log.{Params, request_at}
use Rattle.canton_model.specs.Mediation.{has_responded}
use Rattle.canton_model.specs.Reading.{Reading}
use Rattle.world_model.specs.Messages.{Entry, Request}
use Rattle.world_model.specs.Machine.{Machine, is_asked}
use Rattle.world_model.specs.Mediator.{MediatorState, give_back}
use Rattle.world_model.specs.Node.{NodeState, owes_at, put_back}
use Rattle.world_model.specs.Settled.{is_asked_in, is_due, is_undecided}
use Rattle.world_model.specs.Settling.{resume_at, resume_below, resumed, resume_each, return_at, return_below, returned}
use Rattle.canton_model.specs.Inbox.{Item}
use Rattle.world_model.specs.Lawful.{Lawful}
use Rattle.world_model.proofs.Steps.{mediator_has_back, take_next}
use Rattle.mediator.specs.KeptCases.{KeptMediator, Keeps}
use Rattle.seq_log.specs.OpenRequests.{is_open, open_requests, place_if, places_below}
use Rattle.seq_log.specs.Sequenced.{Sequenced, IsFor}
use Rattle.seq_log.proofs.Queues.{place_passes}
use Rattle.node_core.specs.OverLog.{HasInbox, inbox_over, state_over}
use Rattle.node_core.specs.Participant.{Participant as NodeValue, reading_of, with_state}
use Rattle.node_core.proofs.OverLog.{cursor_is, put_back_one}
use Rattle.world_play.specs.Parts.{IsMediator, IsParticipant}
use Rattle.world_play.specs.Worlds.{world_with, AreNodesOf}
use Rattle.world_play.proofs.Dues.{owes_due}
use Rattle.world_play.proofs.Each.{AreDone}
use Rattle.world_play.proofs.Passing.{in_turn, item_at}
use Rattle.world_play.proofs.Turns.{cursor_of}

-- a walk over all places that does nothing where a test fails is one over the places where it holds
module _ {X : Type 0} (step : X → ℕ → X) where
  pub fold_on : (x : X) (xs : List ℕ) (k : ℕ) → fold step x (xs ++ k ∷ []) ≡ step (fold step x xs) k
  fold_on x [] k = refl
  fold_on x (i ∷ xs) k = fold_on (step x i) xs k

  abbrev all_below : X → ℕ → X
  all_below x zero = x
  all_below x (suc k) = step (all_below x k) k

open_only : {X : Type 0} (step : X → ℕ → X) (test : ℕ → Bool) → ((x : X) (k : ℕ) → test k ≡ false → step x k ≡ x) → (x : X) (n : ℕ)
    → fold step x (places_below test n) ≡ all_below step x n
open_only step test rest x zero = refl
open_only {X} step test rest x (suc k) = by (test k) refl (open_only step test rest x k)
  where
    by : (b : Bool) → test k ≡ b → fold step x (places_below test k) ≡ all_below step x k
        → fold step x (places_below test k ++ place_if b k) ≡ step (all_below step x k) k
    by true is before = fold_on step x (places_below test k) k ∙ ap (λ (y : X). step y k) before
    by false is before = ap (fold step x) (append-nil (places_below test k)) ∙ (before ∙ sym (rest (all_below step x k) k is))

not_asked : (reading : Reading) (p : ParticipantId) (o : Option Request) (h u : Bool) → (is_some o && u) ≡ false
    → (is_asked_in reading p o && (not h && u)) ≡ false
not_asked reading p None h u closed = refl
not_asked reading p (Some request) h u closed = rw closed (never (is_asked reading p request) (not h))
  where
    never : (a b : Bool) → (a && (b && false)) ≡ false
    never true true = refl
    never true false = refl
    never false b = refl

closed_rests : (m : Machine) (log : List Entry) (p : ParticipantId) (node : NodeState) (k : ℕ) → is_open m.params log k ≡ false
    → resume_at m log p node k ≡ node
closed_rests m log p node k closed =
    let no = not_asked m.reading p (request_at log k) (has_responded k log p) (is_undecided m.params log k) closed in rw no refl

closed_returns : (params : Params) (log : List Entry) (mediator : MediatorState) (k : ℕ) → is_open params log k ≡ false
    → return_at params log mediator k ≡ mediator
closed_returns params log mediator k closed = elim (cases_Bool (is_some (request_at log k))) [
  | inl r ↦ let no : is_undecided params log k ≡ false = rw r at closed in rw (r, no) refl
  | inr r ↦ rw r refl
]

-- the open requests of a sequencer
abbrev pub open_of : Sequenced → List ℕ
open_of s = open_requests (s.topology).params s.list

pub open_at : (s q : Sequenced) → q ≡ s → (places : List ℕ) → places ≡ open_of q → (n k : ℕ) → n < length places
    → k ≡ slice_index_or places n k → slice_get (open_of s) n ≡ Some k
open_at s q same places is n k lt read =
    ap (λ (xs : List ℕ). slice_get xs n) (sym (is ∙ ap open_of same)) ∙ (item_at places n k lt ∙ ap Some (sym read))

pub within_open : (s q : Sequenced) → q ≡ s → (first now : List ℕ) → first ≡ open_of s → now ≡ open_of q → (n end long : ℕ) → n < end → end ≡ long
    → long ≡ length first → n < length now
within_open s q same first now was is n end long lt ends fits =
    let a = ap length was in
    let b = ap length is in
    let c = ap (λ (x : Sequenced). length (open_of x)) same in omega (arith, lt, ends, fits, a, b, c)

pub open_passes : (s : Sequenced) (n k : ℕ) → slice_get (open_of s) n ≡ Some k → is_open (s.topology).params s.list k ≡ true
open_passes s n k there = (place_passes (is_open (s.topology).params s.list) (length s.list) n k there).0

pub one_more : (s : Sequenced) (n k : ℕ) → slice_get (open_of s) n ≡ Some k → take n (open_of s) ++ k ∷ [] ≡ take (n + 1) (open_of s)
one_more s n k there =
    let one : suc n ≡ n + 1 = omega arith in
    sym (take_next n (open_of s) k there) ∙ ap (λ (i : ℕ). take i (open_of s)) one

pub all_taken : (s : Sequenced) (n : ℕ) → length (open_of s) ≤ n → take n (open_of s) ≡ open_of s
all_taken s n le = take_all n (open_of s) le

resumed_open : (m : Machine) (s : Sequenced) → IsFor m s → (p : ParticipantId) (node : NodeState)
    → fold (resume_at m s.list p) node (open_requests (s.topology).params s.list) ≡ resumed m s.list p node
resumed_open m s f p node =
    ap (λ (q : Params). fold (resume_at m s.list p) node (open_requests q s.list)) (sym f.params)
    ∙ (open_only (resume_at m s.list p) (is_open m.params s.list) (closed_rests m s.list p) node (length s.list) ∙ below (length s.list))
  where
    below : (n : ℕ) → all_below (resume_at m s.list p) node n ≡ resume_below m s.list p node n
    below zero = refl
    below (suc k) = ap (λ (x : NodeState). resume_at m s.list p x k) (below k)

returned_open : (m : Machine) (s : Sequenced) → IsFor m s → (mediator : MediatorState)
    → fold (return_at m.params s.list) mediator (open_requests (s.topology).params s.list) ≡ returned m.params s.list mediator
returned_open m s f mediator =
    ap (λ (q : Params). fold (return_at m.params s.list) mediator (open_requests q s.list)) (sym f.params)
    ∙ (open_only (return_at m.params s.list) (is_open m.params s.list) (closed_returns m.params s.list) mediator (length s.list) ∙ below (length s.list))
  where
    below : (n : ℕ) → all_below (return_at m.params s.list) mediator n ≡ return_below m.params s.list mediator n
    below zero = refl
    below (suc k) = ap (λ (x : MediatorState). return_at m.params s.list x k) (below k)

-- a participant
module _ (at : ℕ) (first : NodeValue) (s : Sequenced) where
  pub record IsResumer (node : NodeValue) (places : List ℕ) : Type 0 where
    pub same : node ≡ with_state first node.state
    pub items : (node.state).items ≡ (first.state).items
    pub inbox : HasInbox (inbox_over s.list first) first → HasInbox (inbox_over s.list node) node
    pub resumed_to : (m : Machine) → IsParticipant m at first s → state_over s.list node ≡ fold (resume_at m s.list at) (state_over s.list first) places

  pub resumer_starts : IsResumer first []
  resumer_starts = record { same = refl; items = refl; inbox = λ has. has; resumed_to = λ m given. refl }

  module _ (node : NodeValue) (places : List ℕ) (r : IsResumer node places) (k : ℕ) (test : Bool)
      (is : (m : Machine) → IsParticipant m at first s → test ≡ (is_due m s.list at k && nat_lt k (length (node.state).items))) where
    holds : (m : Machine) → IsParticipant m at first s → (b : Bool) → test ≡ b
        → (is_due m s.list at k && nat_lt k (length (fold (resume_at m s.list at) (state_over s.list first) places).items)) ≡ b
    holds m given b t =
        ap (λ (x : NodeState). is_due m s.list at k && nat_lt k (length x.items)) (sym (r.resumed_to m given))
        ∙ (ap (λ (n : ℕ). is_due m s.list at k && nat_lt k n) (sym (cursor_is (inbox_over s.list node) node (r.inbox given.inbox)))
        ∙ (sym (is m given) ∙ t))

    pub resumer_past : test ≡ false → IsResumer node (places ++ k ∷ [])
    resumer_past no_test =
        record {
          same = r.same;
          items = r.items;
          inbox = r.inbox;
          resumed_to = λ m given.
              let h = holds m given false no_test in rw (fold_on (resume_at m s.list at) (state_over s.list first) places k, h) (r.resumed_to m given);
        }

    module _ (yes_test : test ≡ true) where
      pub may_put_back : (m : Machine) → IsParticipant m at first s → owes_at (reading_of node) node.me (node.state).items k ≡ true
      may_put_back m given =
          let both = and_parts (is_due m s.list at k) _ (sym (is m given) ∙ yes_test) in
          let within : k < length (node.state).items = ltb-true k (length (node.state).items) both.1 in
          let long = ap length r.items in
          let cursor = cursor_of m at first s given in
          let read : k < given.read = omega (arith, within, long, cursor) in
          let due = and_parts (is_asked_in m.reading at (request_at s.list k)) _ both.0 in
          let undecided = (and_parts (not (has_responded k s.list at)) _ due.1).1 in
          subst (λ (x : NodeValue). owes_at (reading_of x) x.me (node.state).items k ≡ true) (sym r.same)
          (ap (λ (items : List Item). owes_at (reading_of first) first.me items k) r.items ∙ owes_due m at first s given k read due.0 undecided)

      pub resumer_on : (after : NodeValue) → after ≡ with_state node (put_back node.state k) → IsResumer after (places ++ k ∷ [])
      resumer_on after a =
          let here : after ≡ with_state first (put_back node.state k) = a ∙ ap (λ (x : NodeValue). with_state x (put_back node.state k)) r.same in
          record {
            same = here ∙ ap (λ (x : NodeValue). with_state first x.state) (sym here);
            items = ap (λ (x : NodeValue). (x.state).items) here ∙ r.items;
            inbox = λ has.
                subst (λ (x : NodeValue). HasInbox (inbox_over s.list x) x) (sym a) (put_back_one (inbox_over s.list node) node (r.inbox has) k);
            resumed_to = λ m given.
                let h = holds m given true yes_test in
                rw (fold_on (resume_at m s.list at) (state_over s.list first) places k, h)
                (ap (state_over s.list) a ∙ ap (λ (x : NodeState). put_back x k) (r.resumed_to m given));
          }

  pub resumer_ends : (node : NodeValue) (places : List ℕ) → IsResumer node places → places ≡ open_of s → (m : Machine) → IsParticipant m at first s
      → state_over s.list node ≡ resumed m s.list at (state_over s.list first)
  resumer_ends node places r end m given =
      r.resumed_to m given
      ∙ (ap (fold (resume_at m s.list at) (state_over s.list first)) end ∙ resumed_open m s given.is_for at (state_over s.list first))

-- the mediator
module _ (first : KeptMediator) (s : Sequenced) where
  pub record IsReturner (mediator : KeptMediator) (places : List ℕ) : Type 0 where
    pub returned_to : (m : Machine) (state : MediatorState) (n : ℕ) → IsMediator m state n first s
        → IsMediator m (fold (return_at m.params s.list) state places) n mediator s

  pub returner_starts : IsReturner first []
  returner_starts = record { returned_to = λ m state n i. i }

  module _ (mediator : KeptMediator) (places : List ℕ) (r : IsReturner mediator places) (k : ℕ) (stays : is_open (s.topology).params s.list k ≡ true) where
    gives : (m : Machine) (state : MediatorState) (n : ℕ) → IsMediator m state n first s → (b : Bool) → nat_lt k mediator.cursor ≡ b
        → (is_some (request_at s.list k)
        && (is_undecided m.params s.list k && nat_lt k (fold (return_at m.params s.list) state places).cursor)) ≡ b
    gives m state n i b t =
        let now = r.returned_to m state n i in
        let now_open : is_open m.params s.list k ≡ true = ap (λ (q : Params). is_open q s.list k) (now.is_for).params ∙ stays in
        let both = and_parts (is_some (request_at s.list k)) (is_undecided m.params s.list k) now_open in
        rw (both.0, both.1) (ap (nat_lt k) (sym (now.keeps).cursor) ∙ t)

    pub returner_past : mediator.cursor ≤ k → IsReturner mediator (places ++ k ∷ [])
    returner_past past =
        record {
          returned_to = λ m state n i.
              let h = gives m state n i false (le-ltb k mediator.cursor past) in
              rw (fold_on (return_at m.params s.list) state places k, h) (r.returned_to m state n i);
        }

    pub returner_on : k < mediator.cursor → (after : KeptMediator) → after.params ≡ mediator.params
        → ((state : MediatorState) → Keeps mediator state → Keeps after (give_back state k)) → IsReturner after (places ++ k ∷ [])
    returner_on read after same step =
        record {
          returned_to = λ m state n i.
              let h = gives m state n i true (lt-ltb k mediator.cursor read) in
              let now = r.returned_to m state n i in
              rw (fold_on (return_at m.params s.list) state places k, h) (given_back m (fold (return_at m.params s.list) state places) n now);
        }
      where
        given_back : (m : Machine) (state : MediatorState) (n : ℕ) → IsMediator m state n mediator s → IsMediator m (give_back state k) n after s
        given_back m state n now =
            record {
              is_for = now.is_for;
              behind = now.behind;
              params = same ∙ now.params;
              keeps = step state now.keeps;
              within = now.within;
              has = mediator_has_back m (take n s.list) state k now.has;
            }

  pub returner_ends : (mediator : KeptMediator) (places : List ℕ) → IsReturner mediator places → places ≡ open_of s → (m : Machine) (state : MediatorState)
      (n : ℕ) → IsMediator m state n first s → IsMediator m (returned m.params s.list state) n mediator s
  returner_ends mediator places r end m state n i =
      subst (λ (x : MediatorState). IsMediator m x n mediator s)
      (ap (fold (return_at m.params s.list) state) end ∙ returned_open m s i.is_for state) (r.returned_to m state n i)

-- all participants
abbrev pub Resumed : Sequenced → ℕ → NodeValue → NodeValue → Type 0
Resumed s i x y =
    (y ≡ with_state x y.state) × (HasInbox (inbox_over s.list x) x → HasInbox (inbox_over s.list y) y)
    × ((m : Machine) → IsParticipant m i x s → state_over s.list y ≡ resumed m s.list i (state_over s.list x))

each_is : (m : Machine) (log : List Entry) (p : ℕ) (xs ys : List NodeValue) → length ys ≡ length xs
    → ((i : ℕ) (x y : NodeValue) → slice_get xs i ≡ Some x → slice_get ys i ≡ Some y → state_over log y ≡ resumed m log (p + i) (state_over log x))
    → map (state_over log) ys ≡ resume_each m log p (map (state_over log) xs)
each_is m log p [] [] long h = refl
each_is m log p [] (y ∷ ys) long h = absurd (omega (arith, long))
each_is m log p (x ∷ xs) [] long h = absurd (omega (arith, long))
each_is m log p (x ∷ xs) (y ∷ ys) long h =
    let z : p + 0 ≡ p = omega arith in
    let head : state_over log y ≡ resumed m log p (state_over log x) = h 0 x y refl refl ∙ ap (λ (n : ℕ). resumed m log n (state_over log x)) z in
    let rest =
    each_is m log (suc p) xs ys (omega (arith, long))
    (λ i u v a b.
    let n : p + suc i ≡ suc p + i = omega arith in h (suc i) u v a b ∙ ap (λ (j : ℕ). resumed m log j (state_over log u)) n) in
    ap (λ (t : NodeState). t ∷ map (state_over log) ys) head ∙ ap (λ (ts : List NodeState). resumed m log p (state_over log x) ∷ ts) rest

pub resumed_states : (first : List NodeValue) (s : Sequenced) (nodes : List NodeValue) (k : ℕ) → AreDone (Resumed s) first nodes k → k ≡ length nodes
    → (m : Machine) (now : ℕ) (state : MediatorState) → AreNodesOf m first s → Lawful m (world_with now state first s)
    → map (state_over s.list) nodes ≡ resume_each m s.list 0 (map (state_over s.list) first)
resumed_states first s nodes k r end m now state a l =
    each_is m s.list 0 first nodes r.long
    (λ i x y at there.
    let within = slice_get_within nodes i y there in
    let z : i ≡ 0 + i = omega arith in
    (r.before i x y (omega (arith, within, end)) at there).2 m (in_turn first s i x at m now state a l)
    ∙ ap (λ (j : ℕ). resumed m s.list j (state_over s.list x)) z)
