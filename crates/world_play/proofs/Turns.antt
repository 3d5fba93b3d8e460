-- A participant's turn, step by step.
use Rattle.std.proofs.Common.{◌≡◌, ℕ, ◌≤◌, List, [], ◌++◌, take, drop, length, refl, sym, ap, ◌∙◌, subst, arith, le_refl, take-append-drop}
use Rattle.std.proofs.lemmas.List.{take_all}
use Rattle.ledger_model.specs.Terms.{ParticipantId}
use Rattle.canton_model.specs.Log.{Params}
use Rattle.canton_model.specs.Reading.{Reading}
use Rattle.canton_model.specs.Genuine.{Genuine}
use Rattle.canton_model.specs.Inbox.{Item, items_after, inbox}
use Rattle.world_model.specs.Messages.{Entry}
use Rattle.world_model.specs.Machine.{Machine}
use Rattle.world_model.specs.Node.{NodeState, with_items}
use Rattle.world_model.specs.Lawful.{NodeHas}
use Rattle.world_model.specs.Turns.{caught_up, validate_below, waiting_below, prepared, turn_messages}
use Rattle.world_model.proofs.Grown.{take_grown}
use Rattle.world_model.proofs.NodeFacts.{inbox_length, inbox_append}
use Rattle.world_model.proofs.Steps.{length_take, has_more}
use Rattle.world_model.proofs.TurnFacts.{caught}
use Rattle.seq_log.specs.Sequenced.{Sequenced}
use Rattle.node_core.specs.OverLog.{HasInbox, inbox_over, state_over}
use Rattle.node_core.specs.Participant.{Participant as NodeValue, reading_of, whole_state, with_state}
use Rattle.node_core.proofs.OverLog.{cursor_is, waiting_is as waiting_alike, within_log}
use Rattle.world_play.specs.Reading.{Reads, IsReader, has_read}
use Rattle.node_core.specs.Machines.{IsNodeOf}
use Rattle.world_play.specs.Parts.{IsParticipant, GoesOn}
use Rattle.world_play.proofs.Moved.{to_machine, from_machine}
use Rattle.world_play.proofs.Readers.{inbox_then, long_then, take_take}

module _ (m : Machine) (p : ParticipantId) where
  pub node_with : (node : NodeValue) (state : NodeState) → IsNodeOf m p node → IsNodeOf m p (with_state node state)
  node_with node state is = record { reading = is.reading; params = is.params; me = is.me; prepares = is.prepares }

  module _ (first : NodeValue) (s : Sequenced) (given : IsParticipant m p first s) where
    pub cursor_of : length (first.state).items ≡ given.read
    cursor_of =
        cursor_is (inbox_over s.list first) first given.inbox
        ∙ (ap length (given.has).items ∙ (inbox_length m.reading p [] (take given.read s.list) ∙ length_take given.read s.list given.within))

    pub reads_of : Reads first s.list
    reads_of =
        record {
          genuine =
              from_machine m p first given.is (λ (r : Reading) (q : Params) (i : ParticipantId). Genuine r q s.list) (given.behind).genuine;
          inbox = given.inbox;
        }

    -- after reading
    module _ (n : ℕ) (from : given.read ≤ n) where
      abbrev more : List Item
      more = items_after m.reading p (take given.read s.list) (drop given.read (take n s.list))

      items_more : inbox_over s.list first ++ more ≡ inbox m.reading p (take n s.list)
      items_more =
          ap (λ (items : List Item). items ++ more) (given.has).items
          ∙ (sym (inbox_append m.reading p [] (take given.read s.list) (drop given.read (take n s.list)))
          ∙ ap (inbox m.reading p)
          (ap (λ (xs : List Entry). xs ++ drop given.read (take n s.list)) (sym (take_take given.read n s.list from))
          ∙ take-append-drop given.read (take n s.list)))

      has_then : NodeHas m p (take n s.list) (with_items first.state (inbox m.reading p (take n s.list)))
      has_then =
          subst (λ (items : List Item). NodeHas m p (take n s.list) (with_items first.state items)) items_more
          (has_more m p (take given.read s.list) (take n s.list) (state_over s.list first) more given.has items_more)

      has_now : NodeHas m p (take n s.list) (with_items first.state (inbox (reading_of first) first.me (take n s.list)))
      has_now =
          from_machine m p first given.is
          (λ (r : Reading) (q : Params) (i : ParticipantId). NodeHas m p (take n s.list) (with_items first.state (inbox r i (take n s.list)))) has_then

      module _ (le : n ≤ length s.list) where
        abbrev reader : NodeValue
        reader = has_read first (take n s.list)

        from_here : length (first.state).items ≤ n
        from_here = let c = cursor_of in omega (arith, c, from)

        over_is : inbox_over s.list reader ≡ inbox (reading_of first) first.me (take n s.list)
        over_is = ap (λ (k : ℕ). inbox (reading_of first) first.me (take k s.list)) (long_then first s.list reads_of n from_here le)

        pub read_is : (node : NodeValue) → node ≡ reader → IsParticipant m p node s
        read_is node is =
            subst (λ (x : NodeValue). IsParticipant m p x s) (sym is)
            (record {
              is_reading = given.is_reading;
              is_for = given.is_for;
              behind = given.behind;
              is = node_with first reader.state given.is;
              read = n;
              within = le;
              has = subst (λ (whole : List Item). NodeHas m p (take n s.list) (whole_state reader whole)) (sym over_is) has_now;
              inbox = subst (λ (whole : List Item). HasInbox whole reader) (sym over_is) (inbox_then first s.list reads_of n from_here le);
            })

    pub reader_is : (node : NodeValue) → IsReader first s.list node → IsParticipant m p node s
    reader_is node r = read_is r.read (let c = cursor_of in let f = r.from in omega arith) r.within node r.is

    -- after reading all
    module _ (node : NodeValue) (is : node ≡ has_read first s.list) where
      abbrev whole : List Item
      whole = inbox (reading_of first) first.me s.list

      all_taken : take (length s.list) s.list ≡ s.list
      all_taken = take_all (length s.list) s.list (le_refl (length s.list))

      all_is : node ≡ has_read first (take (length s.list) s.list)
      all_is = is ∙ ap (has_read first) (sym all_taken)

      pub all_read : IsParticipant m p node s
      all_read = read_is (length s.list) given.within (le_refl (length s.list)) node all_is

      pub inbox_all : HasInbox whole node
      inbox_all =
          subst (HasInbox whole) (sym is)
          (subst (λ (xs : List Entry). HasInbox (inbox (reading_of first) first.me xs) (has_read first xs)) all_taken
          (inbox_then first s.list reads_of (length s.list) (within_log s.list first given.inbox) (le_refl (length s.list))))

      pub all_long : length (node.state).items ≡ length s.list
      all_long = cursor_is whole node inbox_all ∙ inbox_length (reading_of first) first.me [] s.list

      whole_is : whole_state node whole ≡ with_items first.state whole
      whole_is = ap (λ (x : NodeValue). whole_state x whole) is

      caught_whole : whole_state node whole ≡ caught_up m.reading p s.list (state_over s.list first)
      caught_whole =
          whole_is
          ∙ (to_machine m p first given.is
          (λ (r : Reading) (q : Params) (i : ParticipantId). with_items first.state whole ≡ with_items first.state (inbox r i s.list)) refl
          ∙ ap (with_items first.state)
          (sym (caught m 0 p s.list (given.behind).genuine given.read (state_over s.list first) given.within given.has).items))

      pub caught_is : state_over s.list node ≡ caught_up m.reading p s.list (state_over s.list first)
      caught_is =
          ap (whole_state node)
          (ap (λ (k : ℕ). inbox (reading_of node) node.me (take k s.list)) all_long
          ∙ (ap (inbox (reading_of node) node.me) all_taken ∙ ap (λ (x : NodeValue). inbox (reading_of x) x.me s.list) is))
          ∙ caught_whole

      -- after validating
      module _ (after : NodeValue) (same : after ≡ with_state node after.state) (items : (after.state).items ≡ (node.state).items)
          (inbox_still : (its : List Item) → HasInbox its node → HasInbox its after)
          (valid : (its : List Item) → HasInbox its node
          → whole_state after its ≡ validate_below (reading_of node) (node.topology).params node.me (whole_state node its) (length its)) where
        prepared_is : whole_state after whole ≡ prepared m p s.list (state_over s.list first)
        prepared_is =
            valid whole inbox_all
            ∙ (to_machine m p node all_read.is
            (λ (r : Reading) (q : Params) (i : ParticipantId).
            validate_below (reading_of node) (node.topology).params node.me (whole_state node whole) (length whole)
            ≡ validate_below r q i (whole_state node whole) (length whole)) refl
            ∙ (ap (validate_below m.reading m.params p (whole_state node whole)) (inbox_length (reading_of first) first.me [] s.list)
            ∙ ap (λ (x : NodeState). validate_below m.reading m.params p x (length s.list)) caught_whole))

        params_are : (after.topology).params ≡ m.params
        params_are = ap (λ (x : NodeValue). (x.topology).params) same ∙ (all_read.is).params

        pub waiting_is : waiting_below (after.topology).params after.state (length (after.state).items)
            ≡ turn_messages m p s.list (state_over s.list first)
        waiting_is =
            waiting_alike whole after (inbox_still whole inbox_all) (length (after.state).items)
            ∙ (ap (λ (q : Params). waiting_below q (whole_state after whole) (length (after.state).items)) params_are
            ∙ (ap (waiting_below m.params (whole_state after whole)) (ap length items ∙ all_long)
            ∙ ap (λ (x : NodeState). waiting_below m.params x (length s.list)) prepared_is))

  -- what was read before the log went on
  pub read_before : (node : NodeValue) (before s : Sequenced) → GoesOn before s → IsParticipant m p node s → length (node.state).items ≡ length before.list
      → NodeHas m p before.list (state_over s.list node)
  read_before node before s on given long =
      let n : given.read ≡ length before.list = sym (cursor_of node s given) ∙ long in
      subst (λ (xs : List Entry). NodeHas m p xs (state_over s.list node))
      (ap (λ (i : ℕ). take i s.list) n
      ∙ (ap (take (length before.list)) on.is_more
      ∙ (take_grown before.list on.more (length before.list) (le_refl (length before.list))
      ∙ take_all (length before.list) before.list (le_refl (length before.list))))) given.has

  -- after validating, in whole or in part
  pub validated_is : (node after : NodeValue) (s : Sequenced) → IsParticipant m p node s → after ≡ with_state node after.state
      → (after.state).items ≡ (node.state).items → ((its : List Item) → HasInbox its node → HasInbox its after)
      → ((read : List Entry) (its : List Item) → HasInbox its node → NodeHas m p read (whole_state node its) → NodeHas m p read (whole_state after its))
      → IsParticipant m p after s
  validated_is node after s given same items inbox_still has =
      let over_same : inbox_over s.list after ≡ inbox_over s.list node =
      ap (inbox_over s.list) same ∙ ap (λ (its : List Item). inbox (reading_of node) node.me (take (length its) s.list)) items in
      record {
        is_reading = given.is_reading;
        is_for = given.is_for;
        behind = given.behind;
        is = subst (IsNodeOf m p) (sym same) (node_with node after.state given.is);
        read = given.read;
        within = given.within;
        has = subst (λ (its : List Item). NodeHas m p (take given.read s.list) (whole_state after its)) (sym over_same)
            (has (take given.read s.list) (inbox_over s.list node) given.inbox given.has);
        inbox = subst (λ (its : List Item). HasInbox its after) (sym over_same) (inbox_still (inbox_over s.list node) given.inbox);
      }
