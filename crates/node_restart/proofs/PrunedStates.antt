-- A participant of which the state was taken and pruned, and that begins from that.
use Rattle.std.proofs.Common.{◌≡◌, ℕ, ◌≤◌, Bool, true, false, ◌&&◌, not, Contains, List, refl, sym, ap, ◌∙◌, subst, arith}
use Rattle.std.specs.Prelude.{nat_le}
use Rattle.std.proofs.lemmas.Bool.{and_parts, le-leb, leb-true}
use Rattle.ledger_model.specs.Terms.{ParticipantId}
use Rattle.canton_model.specs.Inbox.{Item, inbox}
use Rattle.canton_model.specs.declared.response.Response.{Response}
use Rattle.pruned_inbox.specs.Base as base_specs
use Rattle.world_model.specs.Lawful.{IsOwn, NodeHas}
use Rattle.world_model.specs.Machine.{Machine}
use Rattle.world_model.specs.Messages.{Entry}
use Rattle.world_model.specs.Places.{has_place}
use Rattle.node_state.specs.declared.node_state.NodeState.{NodeState as State}
use Rattle.snapshot_store.specs.Spellable.{IsSpellableState}
use Rattle.node_core.specs.OverLog.{HasInbox}
use Rattle.node_core.specs.Participant.{HasRead, IsPrunedTo, Participant, params_of, reading_of, whole_state}
use Rattle.node_core.specs.States.{IsStateOf, begun_again, is_done_from, owner_of, responses_from}
use Rattle.node_core.proofs.LawfulStates.{owner_pruned}
use Rattle.node_core.proofs.PrunedStates.{next_is_later}
use Rattle.node_core.proofs.Restarted.{pruned_still}
use Rattle.node_restart.specs.Restarted.{CanRestart, HasRestarted, IsPrunedFrom}
use Rattle.node_restart.proofs.Restarts.{has_restarted, spelled_later}

-- from a later place on
done_later : (b a c u : Bool) → (b ≡ true → a ≡ true) → ((b && ((a && c) && u)) && true) ≡ ((b && c) && u)
done_later false a c u within = refl
done_later true false c u within = let wrong : true ≡ false = sym (within refl) in absurd (cc)
done_later true true true true within = refl
done_later true true true false within = refl
done_later true true false u within = refl

module _ (m : Machine) (log : List Entry) (p : Participant) (had : HasRead m log p) (state : State) (of : IsStateOf p state) where
  abbrev owner : Participant
  owner = owner_of p.topology p.packages state

  abbrev whole_of : ParticipantId → List Item
  whole_of me = inbox (reading_of p) me log

  -- ---- the participant with nothing unfinished has read the same

  claimed_there : (k : ℕ) → has_place state.done k ≡ true → has_place (p.state).claimed k ≡ true
  claimed_there k h =
      let done : is_done_from p.base p.state k ≡ true = sym (of.done k) ∙ h in
      (and_parts _ _ (and_parts _ _ done).0).1

  node_here : NodeHas m p.me log (whole_state owner (whole_of p.me))
  node_here =
      let was = had.node in
      record {
        items = was.items;
        claims = λ k h. was.claims k (claimed_there k h);
        outbox = λ response h. own response (was.outbox response (subst (λ (outbox : List Response). Contains outbox response) of.outbox h));
      }
    where
      own : (response : Response) → IsOwn m p.me (whole_state p (whole_of p.me)) response → IsOwn m p.me (whole_state owner (whole_of p.me)) response
      own response o = record { is_read = o.is_read; owes = o.owes; is = o.is }

  owner_read : HasRead m log owner
  owner_read =
      record {
        node = subst (λ (me : ParticipantId). NodeHas m me log (whole_state owner (whole_of me))) (sym of.me) node_here;
        pruned =
            subst (λ (me : ParticipantId). IsPrunedTo (whole_of me) owner) (sym of.me)
            (owner_pruned (whole_of p.me) p.topology p.packages state (pruned_still (whole_of p.me) p had.pruned state of));
      }

  -- ---- it restarts, and so does this one

  module _ (pruned : State) (is : IsPrunedFrom p.topology p.packages state pruned) where
    owner_restarted : HasRestarted m log owner (begun_again p.topology p.packages pruned)
    owner_restarted = has_restarted owner pruned is.base is.start (λ whole to. is.is) m log owner_read

    onward : p.base ≤ pruned.base
    onward =
        subst (λ (n : ℕ). n ≤ pruned.base) of.base
        (subst (λ (n : ℕ). state.base ≤ n) (sym is.base) (next_is_later (whole_of state.me) owner owner_read.pruned))

    claimed : (k : ℕ) → has_place pruned.done k ≡ is_done_from pruned.base p.state k
    claimed k =
        owner_restarted.claimed k
        ∙ (ap (λ (d : Bool). (nat_le pruned.base k && d) && true) (of.done k)
        ∙ done_later (nat_le pruned.base k) (nat_le p.base k) (has_place (p.state).claimed k) (not (has_place (p.state).unfinished k))
        (λ far. le-leb p.base k (let le = leb-true pruned.base k far in omega (arith, onward, le))))

    pub pruned_restarts : HasRestarted m log p (begun_again p.topology p.packages pruned)
    pruned_restarts =
        let r = owner_restarted in
        record {
          topology = refl;
          packages = refl;
          me = r.me ∙ of.me;
          base = r.base ∙ ap (λ (me : ParticipantId). base_specs.base (params_of p) (whole_of me)) of.me;
          paused = r.paused ∙ of.paused;
          claimed = claimed;
          unfinished = refl;
          outbox = r.outbox ∙ ap (responses_from pruned.base) of.outbox;
          read = r.read;
          inbox = subst (λ (me : ParticipantId). HasInbox (whole_of me) (begun_again p.topology p.packages pruned)) of.me r.inbox;
        }

    pub pruned_spelled : CanRestart m log p → IsSpellableState pruned
    pruned_spelled can =
        spelled_later owner pruned is.base is.start (λ whole to. is.is) m log
        (record {
          is_of = record { reading = (can.is_of).reading; params = (can.is_of).params };
          hosts = can.hosts;
          genuine = can.genuine;
          short = can.short;
          read = owner_read;
        })
