-- One participant that reads to the end of the log and restarts.
use Rattle.std.proofs.Common.{◌≡◌, ℕ, ◌<◌, ◌≤◌, ◌^◌, List, [], length, take, refl, sym, ap, ◌∙◌, subst, le_refl}
use Rattle.std.proofs.lemmas.List.{take_all}
use Rattle.canton_model.specs.Inbox.{Item, inbox}
use Rattle.canton_model.specs.Reading.{Reading}
use Rattle.framed_form.specs.FramedReading.{framed_reading}
use Rattle.ledger_terms.specs.declared.topology.Topology.{Topology}
use Rattle.ledger_model.specs.Terms.{ParticipantId}
use Rattle.pruned_inbox.specs.Base
use Rattle.world_model.specs.Lawful.{NodeHas}
use Rattle.world_model.specs.Machine.{Machine}
use Rattle.world_model.specs.Messages.{Entry}
use Rattle.world_model.proofs.NodeFacts.{inbox_length}
use Rattle.seq_log.specs.Sequenced.{Sequenced}
use Rattle.node_core.specs.Machines.{IsNodeOf, wanted_request}
use Rattle.node_core.specs.OverLog.{HasInbox, inbox_over, state_over}
use Rattle.node_core.specs.Participant.{Participant as NodeValue, items_of, params_of, reading_of, whole_state}
use Rattle.node_core.specs.States.{is_done_from, responses_from}
use Rattle.node_core.proofs.OverLog.{cursor_is}
use Rattle.node_restart.specs.Restarted.{CanRestart, HasRestarted}
use Rattle.world_play.specs.Reading.{IsReader, has_read}
use Rattle.world_play.specs.Parts.{IsParticipant}
use Rattle.world_play.proofs.Catches.{reader_same}
use Rattle.world_play.proofs.Turns.{all_long, all_read, cursor_of, inbox_all, reader_is}
use Rattle.world_restart.specs.Restarting.{IsRestarted, StaysParticipant}

pub remains_so : (s : Sequenced) (node : NodeValue) → StaysParticipant s node node
remains_so s node = record { topology = refl; packages = refl; paused = refl; is = λ m p given. given }

-- it has read some of the log
pub reader_remains : (s : Sequenced) (first node : NodeValue) → IsReader first s.list node → StaysParticipant s first node
reader_remains s first node r =
    record {
      topology = ap (λ (x : NodeValue). x.topology) (reader_same first node s.list r);
      packages = ap (λ (x : NodeValue). x.packages) (reader_same first node s.list r);
      paused = ap (λ (x : NodeValue). (x.state).is_paused) r.is;
      is = λ m p given. reader_is m p first s given node r;
    }

-- it has read all of it
module _ (m : Machine) (p : ParticipantId) (first : NodeValue) (s : Sequenced) (given : IsParticipant m p first s) (node : NodeValue)
    (is : node ≡ has_read first s.list) where
  abbrev whole : List Item
  whole = inbox (reading_of node) node.me s.list

  there : IsParticipant m p node s
  there = all_read m p first s given node is

  all_taken : take (length s.list) s.list ≡ s.list
  all_taken = take_all (length s.list) s.list (le_refl (length s.list))

  taken : take (length (items_of node)) s.list ≡ s.list
  taken = ap (λ (n : ℕ). take n s.list) (all_long m p first s given node is) ∙ all_taken

  has_all : HasInbox whole node
  has_all =
      subst (λ (items : List Item). HasInbox items node) (sym (ap (λ (x : NodeValue). inbox (reading_of x) x.me s.list) is))
      (inbox_all m p first s given node is)

  node_has : NodeHas m node.me s.list (whole_state node whole)
  node_has =
      subst (λ (i : ParticipantId). NodeHas m i s.list (whole_state node whole)) (sym (there.is).me)
      (subst (λ (xs : List Entry). NodeHas m p xs (whole_state node (inbox (reading_of node) node.me xs))) taken
      (subst (λ (n : ℕ). NodeHas m p (take n s.list) (state_over s.list node)) (sym (cursor_of m p node s there)) there.has))

  pub can_restart : (topology : Topology) → first.topology ≡ topology → length topology.hosts ≤ 255 → length s.list < 2 ^ 15
      → CanRestart m s.list node
  can_restart topology same few short =
      record {
        is_of = record { reading = sym (there.is).reading; params = sym (there.is).params };
        hosts = subst (λ (t : Topology). length t.hosts ≤ 255) (sym (ap (λ (x : NodeValue). x.topology) is ∙ same)) few;
        genuine = (given.behind).genuine;
        short = short;
        read = record { node = node_has; pruned = has_all.pruned };
      }

  -- and restarts there
  module _ (after : NodeValue) (r : HasRestarted m s.list node after) where
    cursor : length (items_of after) ≡ length s.list
    cursor = cursor_is whole after r.inbox ∙ inbox_length (reading_of node) node.me [] s.list

    reading_is : reading_of after ≡ reading_of node
    reading_is = ap (λ (t : Topology). framed_reading t after.packages) r.topology ∙ ap (framed_reading node.topology) r.packages

    over_is : inbox_over s.list after ≡ inbox (reading_of after) after.me s.list
    over_is =
        ap (λ (n : ℕ). inbox (reading_of after) after.me (take n s.list)) cursor ∙ ap (inbox (reading_of after) after.me) all_taken

    whole_is : inbox (reading_of after) after.me s.list ≡ whole
    whole_is =
        ap (λ (reading : Reading). inbox reading after.me s.list) reading_is ∙ ap (λ (i : ParticipantId). inbox (reading_of node) i s.list) r.me

    is_node : IsNodeOf m p after
    is_node =
        record {
          reading = reading_is ∙ (there.is).reading;
          params = ap (λ (t : Topology). t.params) r.topology ∙ (there.is).params;
          me = r.me ∙ (there.is).me;
          prepares = (there.is).prepares
              ∙ sym (ap (λ (t : Topology). wanted_request t after.packages) r.topology ∙ ap (wanted_request node.topology) r.packages);
        }

    pub restarted_is : IsParticipant m p after s
    restarted_is =
        record {
          is_reading = given.is_reading;
          is_for = given.is_for;
          behind = given.behind;
          is = is_node;
          read = length s.list;
          within = le_refl (length s.list);
          has = subst (λ (items : List Item). NodeHas m p (take (length s.list) s.list) (whole_state after items)) (sym over_is)
              (subst (λ (xs : List Entry). NodeHas m p xs (whole_state after (inbox (reading_of after) after.me s.list))) (sym all_taken)
              (subst (λ (i : ParticipantId). NodeHas m i s.list (whole_state after (inbox (reading_of after) after.me s.list)))
              (r.me ∙ (there.is).me) (r.read).node));
          inbox = subst (λ (items : List Item). HasInbox items after) (sym (over_is ∙ whole_is)) r.inbox;
        }

    pub is_restarted : IsRestarted s.list first after
    is_restarted =
        record {
          topology = r.topology ∙ ap (λ (x : NodeValue). x.topology) is;
          packages = r.packages ∙ ap (λ (x : NodeValue). x.packages) is;
          me = r.me ∙ ap (λ (x : NodeValue). x.me) is;
          cursor = cursor;
          base = r.base ∙ ap (λ (x : NodeValue). Base.base (params_of x) (inbox (reading_of x) x.me s.list)) is;
          inbox = subst (λ (items : List Item). HasInbox items after) (ap (λ (x : NodeValue). inbox (reading_of x) x.me s.list) is) r.inbox;
          paused = r.paused ∙ ap (λ (x : NodeValue). (x.state).is_paused) is;
          claimed = λ k. r.claimed k ∙ ap (λ (x : NodeValue). is_done_from after.base x.state k) is;
          unfinished = r.unfinished;
          outbox = r.outbox ∙ ap (λ (x : NodeValue). responses_from after.base (x.state).outbox) is;
        }

-- it is still the participant of each machine
module _ (first : NodeValue) (s : Sequenced) (topology : Topology) (same : first.topology ≡ topology) (few : length topology.hosts ≤ 255)
    (short : length s.list < 2 ^ 15) (given : (m : Machine) × (p : ParticipantId) × IsParticipant m p first s) (node : NodeValue)
    (is : node ≡ has_read first s.list) (after : NodeValue)
    (done : (m : Machine) (log : List Entry) → CanRestart m log node → HasRestarted m log node after) where
  one : HasRestarted given.0 s.list node after
  one = done given.0 s.list (can_restart given.0 given.1 first s given.2 node is topology same few short)

  pub now_restarted : IsRestarted s.list first after
  now_restarted = is_restarted given.0 given.1 first s given.2 node is after one

  pub restarted_remains : StaysParticipant s first after
  restarted_remains =
      record {
        topology = now_restarted.topology;
        packages = now_restarted.packages;
        paused = now_restarted.paused;
        is = λ m p participant.
            restarted_is m p first s participant node is after (done m s.list (can_restart m p first s participant node is topology same few short));
      }
