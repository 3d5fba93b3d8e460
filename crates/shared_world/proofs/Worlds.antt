-- From a lawful world to what lies behind the locks, and back.
use Rattle.std.proofs.Common.{◌≡◌, ℕ, zero, suc, ◌≤◌, List, [], ◌∷◌, take, drop, length, map, Some, refl, sym, ap, ◌∙◌, subst, arith}
use Rattle.std.proofs.Common.{take-append-drop}
use Rattle.std.specs.Prelude.{slice_get}
use Rattle.std.proofs.lemmas.List.{length-map}
use Rattle.std.proofs.lemmas.Option.{none-some, same_Some, slice_get_within}
use mathlib.Core.List.{IsPrefix}
use Rattle.ledger_terms.specs.declared.topology.Topology.{Topology}
use Rattle.lang_eval.specs.Found.{Packages}
use Rattle.canton_model.specs.Genuine.{IsReading}
use Rattle.canton_model.specs.Inbox.{Item, inbox}
use Rattle.canton_model.specs.Reading.{Reading}
use Rattle.canton_model.proofs.LongerLogs.{genuine_take}
use Rattle.world_model.specs.Messages.{Entry}
use Rattle.world_model.specs.Machine.{Machine}
use Rattle.world_model.specs.Mediator.{MediatorState}
use Rattle.world_model.specs.Lawful.{Lawful, NodeHas}
use Rattle.world_model.specs.Locks.{NodeBehind}
use Rattle.world_model.specs.Rounds.{Why}
use Rattle.world_model.proofs.NodeFacts.{inbox_length}
use Rattle.world_model.proofs.Steps.{length_take}
use Rattle.node_core.specs.Bases.{AreBases, Bases}
use Rattle.node_core.specs.OverLog.{HasInbox, inbox_over, state_over}
use Rattle.node_core.specs.Participant.{Participant as NodeValue, items_of, reading_of, whole_state}
use Rattle.node_core.proofs.OverLog.{cursor_is}
use Rattle.log_row.specs.LogPrefix.{RowName}
use Rattle.prepare_request.specs.declared.submit_fault.SubmitFault.{SubmitFault}
use Rattle.threads_model.specs.Behind.{Parted}
use Rattle.threads_model.proofs.Begins.{begins_itself, front_of}
use Rattle.threads_model.proofs.Parted.{parted_is_lawful}
use Rattle.world_play.specs.declared.world.World.{World}
use Rattle.world_play.specs.Submitting.{AreSetUp}
use Rattle.world_play.specs.WorldOf.{IsWorldOf, world_of}
use Rattle.sync_shared.specs.SetUp.{IsSetUp}
use Rattle.sync_shared.specs.Behind.{IsLogBehind, IsMediatorBehind, IsNodeBehind, AreNodesBehind}

module _ {X Y : Type 0} (f : X → Y) where
  mapped_at : (xs : List X) (k : ℕ) (x : X) → slice_get xs k ≡ Some x → slice_get (map f xs) k ≡ Some (f x)
  mapped_at [] k x e = absurd (none-some x e)
  mapped_at (y ∷ xs) zero x e = ap (λ (z : X). Some (f z)) (same_Some y x e)
  mapped_at (y ∷ xs) (suc k) x e = mapped_at xs k x e

  from_mapped : (xs : List X) (k : ℕ) (y : Y) → slice_get (map f xs) k ≡ Some y → (x : X) × (slice_get xs k ≡ Some x) × (f x ≡ y)
  from_mapped [] k y e = absurd (none-some y e)
  from_mapped (x ∷ xs) zero y e = (x, refl, same_Some (f x) y e)
  from_mapped (x ∷ xs) (suc k) y e = from_mapped xs k y e

pub begun_by : (n : ℕ) (xs : List Entry) → IsPrefix (take n xs) xs
begun_by n xs = (drop n xs, take-append-drop n xs)

module _ (topology : Topology) (packages : Packages) (m : Machine) (why : Why SubmitFault) (bases : Bases) (set_up : IsSetUp topology packages m why) where
  module _ (world : World) (nodes : AreSetUp topology packages (world.nodes).items) (based : AreBases bases (world.nodes).items) (state : MediatorState) (w : IsWorldOf m state world)
      (l : Lawful m (world_of state world)) where
    abbrev log : List Entry
    log = (world.sequencer).list

    pub world_log : (row : RowName) → (world.sequencer).row ≡ row → IsLogBehind row m log 0 world.sequencer
    world_log row is =
        record {
          in_row = is;
          is_for = (w.nodes).is_for;
          behind = record { sequencer = record { genuine = l.genuine; within_capacity = l.within_capacity }; begins = begins_itself log; count = omega arith };
        }

    pub world_nodes : AreNodesBehind topology packages m why bases log (world.nodes).items
    world_nodes =
        record {
          each = λ p node at.
              let n = l.node p (state_over log node) (mapped_at (state_over log) (world.nodes).items p node at) in
              let is = (w.nodes).node p node at in
              let read : inbox_over log node ≡ inbox m.reading p (take n.0 log) = (n.2).items in
              let own = nodes.each p node at in
              let within = slice_get_within (world.nodes).items p node at in
              let many = nodes.many in (
                take n.0 log,
                begun_by n.0 log,
                record {
                  set_up = set_up;
                  is_reading = (w.nodes).is_reading;
                  is_host = omega (arith, within, many);
                  own_topology = own.0;
                  own_packages = own.1;
                  is = is;
                  base = based p node at;
                  inbox = subst (λ (whole : List Item). HasInbox whole node) read ((w.nodes).inbox p node at);
                  behind = record {
                    genuine = genuine_take m.reading m.params log n.0 l.genuine;
                    has = subst (λ (whole : List Item). NodeHas m p (take n.0 log) (whole_state node whole)) read n.2;
                  };
                },
              );
        }

    mediator_read : (world.mediator).cursor ≡ (l.mediator).0
    mediator_read =
        let n = l.mediator in
        ((w.mediator).keeps).cursor ∙ ((n.2).cursor ∙ length_take n.0 log n.1)

    pub mediator_within : (world.mediator).cursor ≤ length log
    mediator_within = let e = mediator_read in let le = (l.mediator).1 in omega arith

    pub world_mediator : IsMediatorBehind m (take (world.mediator).cursor log) world.mediator
    world_mediator =
        let k = l.mediator in
        subst (λ (i : ℕ). IsMediatorBehind m (take i log) world.mediator) (sym mediator_read)
        (record {
          genuine = genuine_take m.reading m.params log k.0 l.genuine;
          knows = record { params = (w.mediator).params; state = state; keeps = (w.mediator).keeps; has = k.2 };
        })

    pub world_hosts : length (world.nodes).items ≡ length topology.hosts
    world_hosts = nodes.many

  -- the parts of a world, each of which has read a beginning of the log
  module _ (is_reading : IsReading m.reading) (world : World) (row : RowName) (start : List Entry) (total : ℕ)
      (log : IsLogBehind row m start total world.sequencer)
      (nodes : AreNodesBehind topology packages m why bases (world.sequencer).list (world.nodes).items)
      (count : length (world.nodes).items ≡ length topology.hosts) (read : List Entry) (begins : IsPrefix read (world.sequencer).list)
      (mediator : IsMediatorBehind m read world.mediator) where
    pub parts_set_up : AreSetUp topology packages (world.nodes).items
    parts_set_up = record { many = count; each = λ p node at. let b = (nodes.each p node at).2 in (b.own_topology, b.own_packages) }

    pub parts_based : AreBases bases (world.nodes).items
    parts_based p node at = ((nodes.each p node at).2).base

    abbrev state : MediatorState
    state = (mediator.knows).state

    -- what it has read, by the log
    read_by : (p : ℕ) (node : NodeValue) → slice_get (world.nodes).items p ≡ Some node → (xs : List Entry)
        → IsPrefix xs (world.sequencer).list → IsNodeBehind topology packages m why bases p xs node
        → inbox m.reading p xs ≡ inbox_over (world.sequencer).list node
    read_by p node at xs begins_log b =
        let whole = inbox m.reading p xs in
        let long : length xs ≡ length (items_of node) = sym (cursor_is whole node b.inbox ∙ inbox_length m.reading p [] xs) in
        ap (inbox m.reading p) (sym (front_of xs (world.sequencer).list begins_log) ∙ ap (λ (n : ℕ). take n (world.sequencer).list) long)
        ∙ (ap (λ (r : Reading). inbox r p (take (length (items_of node)) (world.sequencer).list)) (sym (b.is).reading)
        ∙ ap (λ (i : ℕ). inbox (reading_of node) i (take (length (items_of node)) (world.sequencer).list)) (sym (b.is).me))

    is_world : IsWorldOf m state world
    is_world =
        record {
          nodes = record {
            is_reading = is_reading;
            is_for = log.is_for;
            node = λ p node at. ((nodes.each p node at).2).is;
            inbox = λ p node at.
                let b = nodes.each p node at in
                subst (λ (whole : List Item). HasInbox whole node) (read_by p node at b.0 b.1 b.2) (b.2).inbox;
          };
          mediator = record { params = (mediator.knows).params; keeps = (mediator.knows).keeps };
        }

    is_parted : Parted m (world_of state world)
    is_parted =
        record {
          sequencer = (log.behind).sequencer;
          hosts = length-map (world.nodes).items (state_over (world.sequencer).list) ∙ (count ∙ sym (ap (λ (x : Machine). x.hosts) set_up.machine_is));
          node = λ p node at.
              let f = from_mapped (state_over (world.sequencer).list) (world.nodes).items p node at in
              let b = nodes.each p f.0 f.1 in
              let behind =
              subst (λ (whole : List Item). NodeBehind m p b.0 (whole_state f.0 whole)) (read_by p f.0 f.1 b.0 b.1 b.2) (b.2).behind in
              (b.0, b.1, subst (NodeBehind m p b.0) f.2 behind);
          mediator = (read, begins, record { genuine = mediator.genuine; has = (mediator.knows).has });
        }

    pub parts_are_lawful : (s : MediatorState) × IsWorldOf m s world × Lawful m (world_of s world)
    parts_are_lawful = (state, is_world, parted_is_lawful m (world_of state world) is_parted)
