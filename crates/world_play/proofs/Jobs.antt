-- A participant's jobs one after another.
use Rattle.std.proofs.Common.{◌≡◌, ℕ, ◌<◌, true, false, List, [], ◌∷◌, ◌++◌, length, not, Some, None, refl, sym, ap, ◌∙◌, subst, arith}
use Rattle.std.specs.Prelude.{nat_eq, OnOk, OnErr, Result, Ok, Err}
use Rattle.std.proofs.lemmas.Bool.{and_from, and_parts, and_right, both_ways, eq-eqb, not-true, not_from_true, or_left, or_parts, or_right}
use Rattle.std.proofs.lemmas.List.Folds.{list_any-append}
use Rattle.ledger_model.specs.Terms.{ParticipantId}
use Rattle.canton_model.specs.Inbox.{Item}
use Rattle.canton_model.specs.Log.{Params}
use Rattle.canton_model.specs.Reading.{Reading}
use Rattle.world_model.specs.Messages.{Entry, Response, ViewVerdict}
use Rattle.world_model.specs.Machine.{Machine}
use Rattle.world_model.specs.Places.{has_place}
use Rattle.world_model.specs.Node.{NodeState, next_claim, claim, finish, validate, response_at, owes_at, is_decided_now, is_open_at, is_claimable}
use Rattle.world_model.specs.Lawful.{NodeHas}
use Rattle.world_model.specs.Turns.{validate_below}
use Rattle.world_model.proofs.Loops.{claims_on, claims_none}
use Rattle.world_model.proofs.NodeFacts.{first_from_is}
use Rattle.world_model.proofs.Steps.{has_claim, has_validated}
use Rattle.node_core.specs.Participant.{Participant as NodeValue, owed_there, owes_there, places_where, reading_of, response_there, whole_state, with_state}
use Rattle.validate_job.specs.declared.finished.Finished.{Finished}
use Rattle.validate_job.specs.Outcome.{IsOutcome}
use Rattle.validate_job.specs.Job.{Assignment}
use Rattle.validate_job.specs.Owed.{owed_on_each}
use Rattle.node_core.specs.Machines.{IsNodeOf}
use Rattle.node_core.specs.OverLog.{HasInbox}
use Rattle.node_core.proofs.OverLog.{claim_is, claimed_one, cursor_is, finished_one, owed_is, owes_whole}
use Rattle.world_play.specs.Moves.{validated_if}
use Rattle.world_play.proofs.Fewer.{fewer}
use Rattle.world_play.proofs.Moved.{from_machine}

-- what is claimed next
module _ (reading : Reading) (params : Params) (p : ParticipantId) (node : NodeState) (k : ℕ) (next : next_claim reading params p node ≡ Some k) where
  pub claim_open : (is_open_at reading params p node.items k ≡ true) × (k < length node.items)
  claim_open =
      let f = first_from_is (is_claimable reading params p node) 0 (length node.items) k next in
      let b = f.below in ((and_parts (is_open_at reading params p node.items k) _ f.passes).0, omega arith)

  claim_passes : is_claimable reading params p node k ≡ true
  claim_passes = (first_from_is (is_claimable reading params p node) 0 (length node.items) k next).passes

  pub claim_undecided : is_decided_now params node.items k ≡ false
  claim_undecided = not-true _ (and_parts (owes_at reading p node.items k) _ claim_open.0).1

  pub claim_owes : owes_at reading p node.items k ≡ true
  claim_owes = (and_parts (owes_at reading p node.items k) _ claim_open.0).0

  -- fewer places may be claimed then
  fewer_then : (response : Response) → length (places_where (is_claimable reading params p (finish (claim node k) response)) 0 (length node.items))
      < length (places_where (is_claimable reading params p node) 0 (length node.items))
  fewer_then response =
      let lt = claim_open.1 in
      let there : has_place (node.claimed ++ k ∷ []) k ≡ true =
      list_any-append (nat_eq k) node.claimed (k ∷ []) ∙ or_right (has_place node.claimed k) _ (or_left _ _ (eq-eqb k k refl)) in
      fewer (is_claimable reading params p node) (is_claimable reading params p (finish (claim node k) response)) 0 (length node.items) k before
      (omega arith) (omega (arith, lt)) claim_passes (and_right (is_open_at reading params p node.items k) _ (not_from_true _ there))
    where
      before : (i : ℕ) → is_claimable reading params p (finish (claim node k) response) i ≡ true → is_claimable reading params p node i ≡ true
      before i c =
          let parts = and_parts (is_open_at reading params p node.items i) _ c in
          let out : has_place (node.claimed ++ k ∷ []) i ≡ false = not-true _ parts.1 in
          let two = or_parts (has_place node.claimed i) (has_place (k ∷ []) i) (sym (list_any-append (nat_eq i) node.claimed (k ∷ [])) ∙ out) in
          and_from _ _ parts.0 (ap not two.0)

pub claimed_unfinished : (node : NodeState) (k : ℕ) → has_place (claim node k).unfinished k ≡ true
claimed_unfinished node k =
    list_any-append (nat_eq k) node.unfinished (k ∷ []) ∙ or_right (has_place node.unfinished k) _ (or_left _ _ (eq-eqb k k refl))

pub when_open : {X Y : Type 0} (r : Result X Y) (G : Type 0) (b : _) → b ≡ false → OnErr r (b ≡ true) → OnOk r G → G
when_open (Ok x) G b f e o = o
when_open (Err y) G b f e o = absurd (both_ways b f e)

-- how many places it may claim
abbrev pub claimable_of : NodeValue → ℕ
claimable_of node = length (places_where (is_claimable (reading_of node) (node.topology).params node.me node.state) 0 (length (node.state).items))

module _ (first : NodeValue) where
  abbrev pub below : NodeState → NodeState
  below node = validate_below (reading_of first) (first.topology).params first.me node (length node.items)

  pub record IsKept (node : NodeValue) : Type 0 where
    pub same : node ≡ with_state first node.state
    pub items : (node.state).items ≡ (first.state).items
    pub inbox : (whole : List Item) → HasInbox whole first → HasInbox whole node
    pub has : (m : Machine) (p : ParticipantId) (read : List Entry) (whole : List Item) → IsNodeOf m p first → HasInbox whole first
        → NodeHas m p read (whole_state first whole) → NodeHas m p read (whole_state node whole)

  pub record IsValidator (node : NodeValue) : Type 0 where
    pub kept : IsKept node
    pub on : (whole : List Item) → HasInbox whole first → below (whole_state node whole) ≡ below (whole_state first whole)

  pub starts : IsValidator first
  starts = record { kept = record { same = refl; items = refl; inbox = λ whole i. i; has = λ m p read whole is i h. h }; on = λ whole i. refl }

  pub kept_still : (node after : NodeValue) → IsKept node → after ≡ node → IsKept after
  kept_still node after k same = subst IsKept (sym same) k

  module _ (node : NodeValue) (v : IsValidator node) (k : ℕ)
      (next : next_claim (reading_of node) (node.topology).params node.me node.state ≡ Some k) (claimed : NodeValue)
      (c : claimed ≡ with_state node (claim node.state k)) where
    abbrev mine : NodeValue
    mine = with_state first node.state

    next_first : next_claim (reading_of first) (first.topology).params first.me node.state ≡ Some k
    next_first = subst (λ (x : NodeValue). next_claim (reading_of x) (x.topology).params x.me node.state ≡ Some k) (v.kept).same next

    claimed_first : claimed ≡ with_state first (claim node.state k)
    claimed_first = c ∙ ap (λ (x : NodeValue). with_state x (claim node.state k)) (v.kept).same

    inbox_mine : (whole : List Item) → HasInbox whole first → HasInbox whole mine
    inbox_mine whole i = subst (HasInbox whole) (v.kept).same ((v.kept).inbox whole i)

    owes_mine : owes_there mine k ≡ true
    owes_mine = claim_owes (reading_of first) (first.topology).params first.me node.state k next_first

    within_mine : (whole : List Item) → HasInbox whole first → k < length whole
    within_mine whole i =
        let lt = (claim_open (reading_of first) (first.topology).params first.me node.state k next_first).1 in
        let long = cursor_is whole mine (inbox_mine whole i) in omega (arith, lt, long)

    pub left_claimed : IsKept claimed
    left_claimed =
        subst IsKept (sym claimed_first)
        (record {
          same = refl;
          items = (v.kept).items;
          inbox = λ whole i. claimed_one whole mine (inbox_mine whole i) k;
          has = λ m p read whole is i h. has_claim m p read (whole_state mine whole) k ((v.kept).has m p read whole is i h) (within_mine whole i);
        })

    module _ (given : Assignment) (done : Finished) (o : IsOutcome given done) (at : given.place ≡ k)
        (owed : owed_on_each given.input given.views ≡ owed_there node given.place) where
      place_is : done.place ≡ k
      place_is = o.place ∙ at

      pub may_finish : has_place (claimed.state).unfinished done.place ≡ true
      may_finish =
          subst (λ (i : ℕ). has_place (claimed.state).unfinished i ≡ true) (sym place_is)
          (subst (λ (x : NodeValue). has_place (x.state).unfinished k ≡ true) (sym c) (claimed_unfinished node.state k))

      owed_node : done.verdicts ≡ owed_there node done.place
      owed_node = o.verdicts ∙ (owed ∙ ap (owed_there node) (sym o.place))

      pub owed_then : done.verdicts ≡ owed_there claimed done.place
      owed_then = subst (λ (x : NodeValue). done.verdicts ≡ owed_there x done.place) (sym c) owed_node

      module _ {X : Type 0} {Y : Type 0} (after : NodeValue) (r : Result X Y)
          (decided : OnErr r (is_decided_now (claimed.topology).params (claimed.state).items done.place ≡ true))
          (ok : OnOk r (after ≡ with_state claimed (finish claimed.state (response_there claimed done.place)))) where
        undecided : is_decided_now (claimed.topology).params (claimed.state).items done.place ≡ false
        undecided =
            subst (λ (i : ℕ). is_decided_now (claimed.topology).params (claimed.state).items i ≡ false) (sym place_is)
            (subst (λ (x : NodeValue). is_decided_now (x.topology).params (x.state).items k ≡ false) (sym c)
            (claim_undecided (reading_of node) (node.topology).params node.me node.state k next))

        finished : after ≡ with_state claimed (finish claimed.state (record { from = claimed.me; request = done.place; verdicts = done.verdicts }))
        finished =
            when_open r _ _ undecided decided ok
            ∙ ap (λ (vs : List ViewVerdict). with_state claimed (finish claimed.state (record { from = claimed.me; request = done.place; verdicts = vs })))
            (sym owed_then)

        -- its response
        abbrev answer : Response
        answer = record { from = first.me; request = k; verdicts = done.verdicts }

        after_is : after ≡ with_state first (finish (claim node.state k) answer)
        after_is =
            finished
            ∙ (ap (λ (x : NodeValue). with_state x (finish x.state (record { from = x.me; request = done.place; verdicts = done.verdicts }))) claimed_first
            ∙ ap (λ (i : ℕ). with_state first (finish (claim node.state k) (record { from = first.me; request = i; verdicts = done.verdicts }))) place_is)

        owed_mine : done.verdicts ≡ owed_there mine k
        owed_mine = subst (λ (x : NodeValue). done.verdicts ≡ owed_there x k) (v.kept).same (owed_node ∙ ap (owed_there node) place_is)

        answer_is : (whole : List Item) → HasInbox whole first → response_at (reading_of first) (first.topology).params first.me whole k ≡ answer
        answer_is whole i =
            ap (λ (vs : List ViewVerdict). record { from = first.me; request = k; verdicts = vs })
            (sym (owed_is whole mine (inbox_mine whole i) k owes_mine) ∙ sym owed_mine)

        pub whole_after : (whole : List Item) → HasInbox whole first
            → whole_state after whole ≡ validate (reading_of first) (first.topology).params first.me (whole_state node whole) k
        whole_after whole i =
            ap (λ (x : NodeValue). whole_state x whole) after_is
            ∙ ap (λ (response : Response). finish (claim (whole_state node whole) k) response) (sym (answer_is whole i))

        next_whole : (whole : List Item) → HasInbox whole first
            → next_claim (reading_of first) (first.topology).params first.me (whole_state node whole) ≡ Some k
        next_whole whole i = sym (claim_is whole mine (inbox_mine whole i)) ∙ next_first

        has_after : (m : Machine) (p : ParticipantId) (read : List Entry) (whole : List Item) → IsNodeOf m p first → HasInbox whole first
            → NodeHas m p read (whole_state first whole) → NodeHas m p read (finish (claim (whole_state node whole) k) answer)
        has_after m p read whole is i h =
            subst (λ (response : Response). NodeHas m p read (finish (claim (whole_state node whole) k) response)) (answer_is whole i)
            (from_machine m p first is
            (λ (r : Reading) (q : Params) (j : ParticipantId). owes_at r j whole k ≡ true → NodeHas m p read (validate r q j (whole_state node whole) k))
            (λ owes. has_validated m p read (whole_state node whole) k ((v.kept).has m p read whole is i h) (within_mine whole i) owes)
            (owes_whole whole mine (inbox_mine whole i) k owes_mine))

        pub kept_after : IsKept after
        kept_after =
            subst IsKept (sym after_is)
            (record {
              same = refl;
              items = (v.kept).items;
              inbox = λ whole i.
                  finished_one whole (with_state first (claim node.state k)) (claimed_one whole mine (inbox_mine whole i) k) answer owes_mine;
              has = has_after;
            })

        pub goes_on : IsValidator after
        goes_on =
            record {
              kept = kept_after;
              on = λ whole i.
                  ap below (whole_after whole i)
                  ∙ (claims_on (reading_of first) (first.topology).params first.me (whole_state node whole) k (next_whole whole i) ∙ v.on whole i);
            }

        pub smaller : claimable_of after < claimable_of node
        smaller =
            let now = ap claimable_of after_is in
            let was = ap claimable_of (v.kept).same in
            let less = fewer_then (reading_of first) (first.topology).params first.me node.state k next_first answer in omega (arith, now, was, less)

        -- in the words of one event
        pub validated_one : (whole : List Item) → HasInbox whole first
            → whole_state after whole ≡ validated_if (reading_of first) (first.topology).params first.me (whole_state node whole)
            (next_claim (reading_of first) (first.topology).params first.me (whole_state node whole))
        validated_one whole i =
            whole_after whole i
            ∙ sym (ap (validated_if (reading_of first) (first.topology).params first.me (whole_state node whole)) (next_whole whole i))

  module _ (node now : NodeValue) (v : IsValidator node) (next : next_claim (reading_of node) (node.topology).params node.me node.state ≡ None)
      (same : now ≡ node) where
    none_whole : (whole : List Item) → HasInbox whole first
        → next_claim (reading_of first) (first.topology).params first.me (whole_state node whole) ≡ None
    none_whole whole i =
        sym (claim_is whole (with_state first node.state) (subst (HasInbox whole) (v.kept).same ((v.kept).inbox whole i)))
        ∙ subst (λ (x : NodeValue). next_claim (reading_of x) (x.topology).params x.me node.state ≡ None) (v.kept).same next

    pub done_all : (whole : List Item) → HasInbox whole first
        → whole_state now whole ≡ validate_below (reading_of first) (first.topology).params first.me (whole_state first whole) (length whole)
    done_all whole i =
        ap (λ (x : NodeValue). whole_state x whole) same
        ∙ (sym (claims_none (reading_of first) (first.topology).params first.me (whole_state node whole) (none_whole whole i)) ∙ v.on whole i)

    pub validated_none : (whole : List Item) → HasInbox whole first
        → whole_state now whole ≡ validated_if (reading_of first) (first.topology).params first.me (whole_state node whole)
        (next_claim (reading_of first) (first.topology).params first.me (whole_state node whole))
    validated_none whole i =
        ap (λ (x : NodeValue). whole_state x whole) same
        ∙ sym (ap (validated_if (reading_of first) (first.topology).params first.me (whole_state node whole)) (none_whole whole i))
