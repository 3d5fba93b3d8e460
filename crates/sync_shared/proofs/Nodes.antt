-- A participant behind its lock: it reads one entry more, and its calls keep what lies there.
use Rattle.std.proofs.Common.{◌≡◌, ℕ, ◌+◌, ◌<◌, ◌≤◌, Bool, true, List, [], ◌∷◌, ◌++◌, length, take, Option, Some, refl, sym, ap, ◌∙◌, subst, arith}
use Rattle.std.specs.Prelude.{is_some, nat_eq, option_map, slice_get, ◌||◌}
use Rattle.std.proofs.lemmas.Bool.{eq-eqb}
use mathlib.Core.List.{IsPrefix}
use Rattle.ledger_terms.specs.declared.topology.Topology.{Topology}
use Rattle.ledger_model.specs.Terms.{ParticipantId}
use Rattle.lang_eval.specs.Found.{Packages}
use Rattle.canton_model.specs.Log.{Params, request_at, decision_time_of}
use Rattle.canton_model.specs.Timeline.{outcome_of, timeline_of}
use Rattle.canton_model.specs.Reading.{Reading, is_recipient, sees_some_view}
use Rattle.canton_model.specs.Genuine.{Genuine}
use Rattle.canton_model.specs.Inbox.{Item, content_of, inbox, item_after, notice_at, notice_by, notice_in, outcome_in}
use Rattle.canton_model.proofs.InboxFacts.{notice_received}
use Rattle.canton_model.proofs.InboxGrows.{items_push}
use Rattle.canton_model.proofs.InboxOutcomes.{outcome_same}
use Rattle.world_model.specs.Messages.{Entry, Message}
use Rattle.world_model.specs.Machine.{Machine, GenuineLog}
use Rattle.world_model.specs.Rounds.{Why}
use Rattle.world_model.specs.Node.{NodeState, read_entry, sent, with_flag, with_items}
use Rattle.world_model.specs.Lawful.{NodeHas}
use Rattle.world_model.specs.Locks.{NodeBehind}
use Rattle.world_model.proofs.Grown.{request_grown}
use Rattle.world_model.proofs.NodeFacts.{inbox_length, item_at}
use Rattle.world_model.proofs.Steps.{entry_of_request, has_read, has_flag, has_sent}
use Rattle.node_core.specs.Completion.{completion_of}
use Rattle.node_core.specs.Bases.{Bases}
use Rattle.node_core.specs.OverLog.{HasInbox}
use Rattle.node_core.specs.Participant.{CanRead, IsPrunedTo, Participant as NodeValue, items_of, params_of, reading_of, whole_state, with_state}
use Rattle.node_core.proofs.OverLog.{cursor_is, flagged_one, noticed_is, outcome_is, read_one, sent_one}
use Rattle.prepare_request.specs.declared.submit_fault.SubmitFault.{SubmitFault}
use Rattle.threads_model.proofs.Begins.{front_of}
use Rattle.sync_shared.specs.Behind.{IsNodeBehind}
use Rattle.sync_shared.specs.Clients.{IsRequestBy}
use Rattle.sync_shared.proofs.Prefixes.{one_longer}

module _ (topology : Topology) (packages : Packages) (m : Machine) (why : Why SubmitFault) (bases : Bases) (p : ParticipantId) where
  abbrev Behind : List Entry → NodeValue → Type 0
  Behind list node = IsNodeBehind topology packages m why bases p list node

  module _ (list : List Entry) (node : NodeValue) (b : IsNodeBehind topology packages m why bases p list node) where
    abbrev whole : List Item
    whole = inbox m.reading p list

    pub items_length : length (items_of node) ≡ length list
    items_length = cursor_is whole node b.inbox ∙ inbox_length m.reading p [] list

    pub base_within : bases p ≤ length list
    base_within =
        let within = (((b.inbox).pruned).is_base).within in
        let long = inbox_length m.reading p [] list in
        let base = b.base in omega (arith, within, long, base)

    -- after a call that changes its state alone
    pub with_new_state : (after : NodeValue) (state : NodeState) (now : List Entry) → after ≡ with_state node state
        → HasInbox (inbox m.reading p now) (with_state node state) → NodeBehind m p now (whole_state (with_state node state) (inbox m.reading p now))
        → Behind now after
    with_new_state after state now is has behind =
        subst (Behind now) (sym is)
        (record {
          set_up = b.set_up;
          is_reading = b.is_reading;
          is_host = b.is_host;
          own_topology = b.own_topology;
          own_packages = b.own_packages;
          is = record { reading = (b.is).reading; params = (b.is).params; me = (b.is).me; prepares = (b.is).prepares };
          base = b.base;
          inbox = has;
          behind = behind;
        })

    pub with_new_duties : (after : NodeValue) (state : NodeState) → after ≡ with_state node state → HasInbox whole (with_state node state)
        → NodeHas m p list (whole_state (with_state node state) whole) → Behind list after
    with_new_duties after state is inbox_is has =
        with_new_state after state list is inbox_is (record { genuine = (b.behind).genuine; has = has })

    pub flagged : (after : NodeValue) (flag : Bool) → after ≡ with_state node (with_flag node.state flag) → Behind list after
    flagged after flag is =
        with_new_duties after (with_flag node.state flag) is (flagged_one whole node b.inbox flag)
        (has_flag m p list (whole_state node whole) flag (b.behind).has)

    pub response_sent : (after : NodeValue) (k : ℕ) → after ≡ with_state node (sent node.state k) → Behind list after
    response_sent after k is =
        with_new_duties after (sent node.state k) is (sent_one whole node b.inbox k) (has_sent m p list (whole_state node whole) k (b.behind).has)

    own_genuine : (xs : List Entry) → GenuineLog m xs → Genuine (reading_of node) (params_of node) xs
    own_genuine xs g =
        subst (λ (r : Reading). Genuine r (params_of node) xs) (sym (b.is).reading) (subst (λ (ps : Params). Genuine m.reading ps xs) (sym (b.is).params) g)

    pub own_inbox : (xs : List Entry) → inbox m.reading p xs ≡ inbox (reading_of node) node.me xs
    own_inbox xs = ap (λ (r : Reading). inbox r p xs) (sym (b.is).reading) ∙ ap (λ (i : ParticipantId). inbox (reading_of node) i xs) (sym (b.is).me)

    -- it can read a list that is longer by one, and then has read that
    module _ (next : List Entry) (begins : IsPrefix list next) (long : length next ≡ length list + 1) (genuine : GenuineLog m next) where
      pub can_read : CanRead node next
      can_read =
          record {
            cursor = long ∙ ap (λ (n : ℕ). n + 1) (sym items_length);
            genuine = own_genuine next genuine;
            before =
                subst (λ (items : List Item). IsPrunedTo items node)
                (own_inbox list
                ∙ ap (inbox (reading_of node) node.me) (sym (ap (λ (n : ℕ). take n next) items_length ∙ front_of list next begins))) (b.inbox).pruned;
          }

      pub reads : (after : NodeValue) → ((before : List Entry) (entry : Entry) → next ≡ before ++ entry ∷ []
          → after ≡ with_state node (read_entry (reading_of node) node.me node.state before entry))
          → IsPrunedTo (inbox (reading_of node) node.me next) after → Behind next after
      reads after step pruned =
          let one = one_longer list next begins long in
          let item = item_after (reading_of node) node.me list one.0 in
          let is = step list one.0 one.1 in
          let all = inbox m.reading p next in
          let here : IsPrunedTo all (with_state node (read_entry (reading_of node) node.me node.state list one.0)) =
          subst (λ (items : List Item). IsPrunedTo items (with_state node (read_entry (reading_of node) node.me node.state list one.0))) (sym (own_inbox next))
          (subst (IsPrunedTo (inbox (reading_of node) node.me next)) is pruned) in
          with_new_state after (read_entry (reading_of node) node.me node.state list one.0) next is (read_one whole all node item b.inbox here)
          (record {
            genuine = genuine;
            has =
                subst (λ (xs : List Entry). NodeHas m p xs (with_items node.state (inbox m.reading p xs))) (sym one.1)
                (subst (λ (items : List Item). NodeHas m p (list ++ one.0 ∷ []) (with_items node.state items)) (sym (items_push m.reading p [] list one.0))
                (has_read m p list (whole_state node whole) one.0 (b.behind).has));
          })

    -- what became of a request of its own
    module _ (place : ℕ) (first : List Entry) (begins : IsPrefix first list) (by : IsRequestBy p place first) (far : bases p ≤ place) where
      its_place : place < length first
      its_place = let l = by.last in omega arith

      its_request : request_at list place ≡ Some by.request
      its_request = subst (λ (xs : List Entry). request_at xs place ≡ Some by.request) begins.1 (request_grown first begins.0 place its_place ∙ by.there)

      is_to : is_recipient m.reading p by.request ≡ true
      is_to =
          ap (λ (sender : ParticipantId). nat_eq p sender || sees_some_view m.reading p by.request) by.sender
          ∙ ap (λ (b : Bool). b || sees_some_view m.reading p by.request) (eq-eqb p p refl)

      from_base : node.base ≤ place
      from_base = let base = b.base in omega (arith, far, base)

      noticed : is_some (notice_at whole place) ≡ true
      noticed =
          let e = entry_of_request (slice_get list place) by.request its_request in
          let before = take place list in
          ap (λ (o : Option Item). is_some (notice_in o))
          (item_at m.reading p place [] list ∙ ap (option_map (item_after m.reading p before)) e.1)
          ∙ (ap (λ (x : Message). is_some (notice_by (content_of m.reading p before x))) e.2
          ∙ ap is_some (notice_received m.reading p by.request is_to))

      pub its_item : is_some (notice_at (items_of node) place) ≡ true
      its_item = ap is_some (noticed_is whole node b.inbox place from_base) ∙ noticed

      pub its_outcome : outcome_in (params_of node) (items_of node) place ≡ outcome_of (timeline_of list) place (decision_time_of m.params list place)
      its_outcome =
          outcome_is whole node b.inbox place from_base noticed
          ∙ (ap (λ (ps : Params). outcome_in ps whole place) (b.is).params
          ∙ outcome_same m.reading m.params p list place by.request ((b.behind).genuine).timely its_request is_to)

      pub its_completion : completion_of (length (items_of node)) (outcome_in (params_of node) (items_of node) place)
          ≡ completion_of (length list) (outcome_of (timeline_of list) place (decision_time_of m.params list place))
      its_completion = ap (λ (n : ℕ). completion_of n (outcome_in (params_of node) (items_of node) place)) items_length ∙ ap (completion_of (length list)) its_outcome
