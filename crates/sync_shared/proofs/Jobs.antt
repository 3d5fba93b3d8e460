-- A job of a participant behind its lock: what is claimed, and what a job that is done leaves there.
use Rattle.std.proofs.Common.{◌≡◌, ℕ, ◌<◌, ◌≤◌, true, false, List, [], length, option_map, Option, Some, None, Result, refl, sym, ap, ◌∙◌, subst, arith}
use Rattle.std.specs.Prelude.{Ok, Err, IfOk, IfSome, IfNone, OnOk, OnErr, is_some}
use Rattle.std.proofs.lemmas.Bool.{and_parts, both_ways}
use Rattle.std.proofs.lemmas.List.{length-append}
use mathlib.Core.List.{IsPrefix}
use Rattle.ledger_terms.specs.declared.topology.Topology.{Topology}
use Rattle.ledger_model.specs.Terms.{ParticipantId}
use Rattle.lang_eval.specs.Found.{Packages}
use Rattle.canton_model.specs.Log.{Params}
use Rattle.canton_model.specs.Reading.{Reading}
use Rattle.canton_model.specs.Inbox.{Item, Notice, inbox, items_after, notice_at}
use Rattle.world_model.specs.Messages.{Entry, Response, ViewVerdict}
use Rattle.world_model.specs.Machine.{Machine, confirms_some_view}
use Rattle.world_model.specs.Rounds.{Why}
use Rattle.world_model.specs.Places.{first_from}
use Rattle.world_model.specs.Node.{NodeState, claim, finish, next_claim, is_claimable, is_open_at, is_waiting_at, waiting_to, owed_at, owes_at, response_at}
use Rattle.world_model.specs.Fits.{IsOwed}
use Rattle.world_model.specs.Lawful.{NodeHas}
use Rattle.world_model.specs.Locks.{Claimed}
use Rattle.world_model.proofs.Halves.{owes_stays, same_verdicts}
use Rattle.world_model.proofs.NodeFacts.{first_from_is, inbox_append, inbox_length}
use Rattle.world_model.proofs.Steps.{has_claim, has_finish, waiting_in, waiting_owed}
use Rattle.std.specs.Prelude.{option_and_then}
use Rattle.std.proofs.lemmas.Option.{none-some}
use Rattle.ledger_model.proofs.Lists.{In}
use Rattle.validate_job.specs.Job.{Job}
use Rattle.validate_job.specs.Owed.{owed_on_each}
use Rattle.node_core.specs.Bases.{Bases}
use Rattle.node_core.specs.Participant.{Participant as NodeValue, items_of, next_place, next_response, owed_there, owes_there, params_of, reading_of}
use Rattle.node_core.specs.Participant.{response_there, whole_state, with_state}
use Rattle.node_core.proofs.OverLog.{claimed_one, cursor_is, finished_one, owed_is, owes_from, owes_same, owes_whole}
use Rattle.prepare_request.specs.declared.submit_fault.SubmitFault.{SubmitFault}
use Rattle.sync_shared.specs.Behind.{IsNodeBehind}
use Rattle.sync_shared.proofs.Nodes.{items_length, with_new_duties}

-- what is claimed next
module _ (reading : Reading) (params : Params) (p : ParticipantId) (node : NodeState) (k : ℕ) (next : next_claim reading params p node ≡ Some k) where
  claim_open : (is_open_at reading params p node.items k ≡ true) × (k < length node.items)
  claim_open =
      let f = first_from_is (is_claimable reading params p node) 0 (length node.items) k next in
      let b = f.below in ((and_parts (is_open_at reading params p node.items k) _ f.passes).0, omega arith)

  claim_owes : owes_at reading p node.items k ≡ true
  claim_owes = (and_parts (owes_at reading p node.items k) _ claim_open.0).0

-- what is asked was received
told_if_asked : (o : Option Notice) → confirms_some_view o ≡ true → is_some o ≡ true
told_if_asked None h = absurd (both_ways false refl h)
told_if_asked (Some notice) h = refl

module _ (topology : Topology) (packages : Packages) (m : Machine) (why : Why SubmitFault) (bases : Bases) (p : ParticipantId) (list : List Entry)
    (node : NodeValue) (b : IsNodeBehind topology packages m why bases p list node) where
  abbrev Behind : NodeValue → Type 0
  Behind x = IsNodeBehind topology packages m why bases p list x

  abbrev items : List Item
  items = items_of node

  abbrev whole : List Item
  whole = inbox m.reading p list

  -- what is said by its own setup, said by the machine
  to_machine : (F : Reading → Params → ParticipantId → Type 0) → F (reading_of node) (params_of node) node.me → F m.reading m.params p
  to_machine F x =
      subst (λ (i : ParticipantId). F m.reading m.params i) (b.is).me
      (subst (λ (q : Params). F m.reading q node.me) (b.is).params (subst (λ (r : Reading). F r (params_of node) node.me) (b.is).reading x))

  owed_by_machine : (k : ℕ) → owes_there node k ≡ true → owed_there node k ≡ owed_at m.reading m.params p whole k
  owed_by_machine k owes =
      owed_is whole node b.inbox k owes
      ∙ to_machine (λ (r : Reading) (q : Params) (i : ParticipantId). owed_at (reading_of node) (params_of node) node.me whole k ≡ owed_at r q i whole k) refl

  module _ (k : ℕ) (next : next_place node ≡ Some k) where
    owes_next : owes_there node k ≡ true
    owes_next = claim_owes (reading_of node) (params_of node) node.me node.state k next

    pub claimed_place : Claimed m p list k
    claimed_place =
        let lt = (claim_open (reading_of node) (params_of node) node.me node.state k next).1 in
        let long = items_length topology packages m why bases p list node b in
        record {
          is_read = omega (arith, lt, long);
          owes = to_machine (λ (r : Reading) (q : Params) (i : ParticipantId). owes_at r i whole k ≡ true) (owes_whole whole node b.inbox k owes_next);
        }

    pub claimed_from : bases p ≤ k
    claimed_from = let far = owes_from whole node b.inbox k owes_next in let base = b.base in omega (arith, far, base)

    claims : (after : NodeValue) → after ≡ with_state node (claim node.state k) → Behind after
    claims after is =
        let lt = (claim_open (reading_of node) (params_of node) node.me node.state k next).1 in
        let long = cursor_is whole node b.inbox in
        with_new_duties topology packages m why bases p list node b after (claim node.state k) is (claimed_one whole node b.inbox k)
        (has_claim m p list (whole_state node whole) k (b.behind).has (omega (arith, lt, long)))

  pub job_claims : {E : Type 0} (r : Result (Option Job) E) (after : NodeValue)
      → IfOk r (λ o. option_map (λ (job : Job). job.given.place) o ≡ next_place node)
      → IfOk r (λ o. IfNone o (after ≡ node))
      → IfOk r (λ o. IfSome o (λ job. after ≡ with_state node (claim node.state job.given.place)))
      → OnErr r (after ≡ node) → Behind after
  job_claims (Err e) after place none some err = subst Behind (sym err) b
  job_claims (Ok None) after place none some err = subst Behind (sym none) b
  job_claims (Ok (Some job)) after place none some err = claims job.given.place (sym place) after some

  pub job_claimed : {E : Type 0} (r : Result (Option Job) E) → IfOk r (λ o. option_map (λ (job : Job). job.given.place) o ≡ next_place node)
      → IfOk r (λ o. IfSome o (λ job. Claimed m p list job.given.place))
  job_claimed (Err e) h = tt
  job_claimed (Ok None) h = tt
  job_claimed (Ok (Some job)) h = claimed_place job.given.place (sym h)

  pub job_from : {E : Type 0} (r : Result (Option Job) E) → IfOk r (λ o. option_map (λ (job : Job). job.given.place) o ≡ next_place node)
      → IfOk r (λ o. IfSome o (λ job. bases p ≤ job.given.place))
  job_from (Err e) h = tt
  job_from (Ok None) h = tt
  job_from (Ok (Some job)) h = claimed_from job.given.place (sym h)

  pub job_owes : {E : Type 0} (r : Result (Option Job) E) → IfOk r (λ o. option_map (λ (job : Job). job.given.place) o ≡ next_place node)
      → IfOk r (λ o. IfSome o (λ job. owed_on_each job.given.input job.given.views ≡ owed_there node job.given.place))
      → IfOk r (λ o. IfSome o (λ job. owed_on_each job.given.input job.given.views
      ≡ owed_at m.reading m.params p (inbox m.reading p list) job.given.place))
  job_owes (Err e) place h = tt
  job_owes (Ok None) place h = tt
  job_owes (Ok (Some job)) place h = h ∙ owed_by_machine job.given.place (owes_next job.given.place (sym place))

  -- a job that was claimed over what was known then
  module _ (known : List Entry) (follows : IsPrefix known list) (k : ℕ) (c : Claimed m p known k) (from : bases p ≤ k) where
    verdicts_then : owed_at m.reading m.params p (inbox m.reading p list) k ≡ owed_at m.reading m.params p (inbox m.reading p known) k
    verdicts_then =
        subst (λ (xs : List Entry). owed_at m.reading m.params p (inbox m.reading p xs) k ≡ owed_at m.reading m.params p (inbox m.reading p known) k) follows.1
        (same_verdicts m p known follows.0 k c)

    known_within : k < length (inbox m.reading p known)
    known_within = let l = inbox_length m.reading p [] known in let lt = c.is_read in omega arith

    owes_then : owes_at m.reading p (inbox m.reading p list) k ≡ true
    owes_then =
        subst (λ (xs : List Entry). owes_at m.reading p (inbox m.reading p xs) k ≡ true) follows.1
        (ap (λ (its : List Item). owes_at m.reading p its k) (inbox_append m.reading p [] known follows.0)
        ∙ (owes_stays m.reading m.params p (inbox m.reading p known) (items_after m.reading p known follows.0) k known_within ∙ c.owes))

    owes_now : owes_there node k ≡ true
    owes_now =
        let base = b.base in
        owes_same whole node b.inbox k (omega (arith, from, base))
        ∙ (to_machine (λ (r : Reading) (q : Params) (i : ParticipantId). owes_at (reading_of node) node.me whole k ≡ owes_at r i whole k) refl ∙ owes_then)

    pub verdicts_now : (verdicts : List ViewVerdict) → verdicts ≡ owed_at m.reading m.params p (inbox m.reading p known) k → verdicts ≡ owed_there node k
    verdicts_now verdicts h = h ∙ (sym verdicts_then ∙ sym (owed_by_machine k owes_now))

    pub is_received : is_some (notice_at items k) ≡ true
    is_received = told_if_asked (notice_at items k) owes_now

    within : k < length whole
    within =
        let long = inbox_length m.reading p [] list in
        let a = length-append known follows.0 in
        let e = ap length follows.1 in
        let lt = c.is_read in omega arith

    finishes : (after : NodeValue) → after ≡ with_state node (finish node.state (response_there node k)) → Behind after
    finishes after is =
        let same : response_at m.reading m.params p whole k ≡ response_there node k =
        sym (ap (λ (verdicts : List ViewVerdict). record { from = node.me; request = k; verdicts = verdicts }) (owed_is whole node b.inbox k owes_now)
        ∙ to_machine (λ (r : Reading) (q : Params) (i : ParticipantId).
        response_at (reading_of node) (params_of node) node.me whole k ≡ response_at r q i whole k) refl) in
        with_new_duties topology packages m why bases p list node b after (finish node.state (response_there node k)) is
        (finished_one whole node b.inbox (response_there node k) owes_now)
        (subst (λ (x : Response). NodeHas m p list (finish (whole_state node whole) x)) same
        (has_finish m p list (whole_state node whole) k (b.behind).has within owes_then))

    pub job_done : {X Y : Type 0} (r : Result X Y) (after : NodeValue) → OnOk r (after ≡ with_state node (finish node.state (response_there node k)))
        → OnErr r (after ≡ node) → Behind after
    job_done (Ok x) after ok err = finishes after ok
    job_done (Err y) after ok err = subst Behind (sym err) b

  -- what is sent next is owed
  in_outbox : (response : Response) (o : Option ℕ) → option_and_then (waiting_to (node.state).outbox) o ≡ Some response → In response (node.state).outbox
  in_outbox response None e = absurd (none-some response e)
  in_outbox response (Some k) e = (waiting_in (node.state).outbox k response e).0

  pub head_owed : {E : Type 0} (r : Result (Option Response) E) → IfOk r (λ o. o ≡ next_response node)
      → IfOk r (λ o. IfSome o (IsOwed m.reading m.params list))
  head_owed (Err e) h = tt
  head_owed (Ok None) h = tt
  head_owed (Ok (Some response)) h =
      waiting_owed m p list (whole_state node whole) response b.is_reading (b.behind).genuine (b.behind).has
      (in_outbox response (first_from (is_waiting_at (params_of node) node.state) 0 (length items)) (sym h))
