use Rattle.std.proofs.Common.{ℕ, List, [], length, map, sym, ap, ◌∙◌, subst}
use Rattle.world_model.specs.Messages.{Entry}
use Rattle.world_model.specs.Node.{NodeState}
use Rattle.world_model.specs.Mediator.{new_mediator}
use Rattle.mediator.specs.KeptCases.{KeptMediator, Keeps}
use Rattle.seq_log.specs.Sequenced.{Sequenced}
use Rattle.node_core.specs.Participant.{Participant as NodeValue}
use Rattle.node_core.specs.Machines.{machine_of}
use Rattle.node_core.specs.Bases.{AreBases}
use Rattle.world_play.specs.Submitting.{AreSetUp}
use Rattle.node_core.specs.OverLog.{state_over}
use Rattle.world_play.specs.Worlds.{AreNodesOf}
use Rattle.world_play.proofs.Makes.{bases_new, new_nodes_are, new_states, set_up_new}
use Rattle.world_play.proofs.world.World.new.Goals as goal

pub returns-clause-is : goal.returns-clause-is
returns-clause-is c =
    let t = c.args.setup.now.topology in
    let p = c.args.setup.now.checked in
    let m = machine_of t p c.args.capacity in
    let s = c.in_ok-sequencer.sequencer in
    let e = c.in_ok-sequencer.ensures in
    let of = c.of.ensures in
    let nodes = (c.in_ok-nodes.nodes).items in
    let made =
    subst (λ (n : ℕ). AreNodesOf (machine_of t p n) nodes s) (ap (λ (q : Sequenced). q.capacity) e)
    (new_nodes_are t p (length t.hosts) nodes s c.in_ok-nodes.ensures (ap (λ (q : Sequenced). q.topology) e)) in
    record {
      nodes =
          subst (λ (q : Sequenced). AreNodesOf m ((c.of.result).nodes).items q) (sym of.0)
          (subst (λ (xs : List NodeValue). AreNodesOf m xs s) (sym (ap (λ v. v.items) of.2)) made);
      mediator = record {
        params = ap (λ (k : KeptMediator). k.params) of.1 ∙ c.new-mediator.ensures.params;
        keeps = subst (λ (k : KeptMediator). Keeps k new_mediator) (sym of.1) c.new-mediator.ensures.state;
      };
    }

pub returns-clause-new : goal.returns-clause-new
returns-clause-new c =
    let t = c.args.setup.now.topology in
    let p = c.args.setup.now.checked in
    let of = c.of.ensures in
    let states =
    ap (λ v. map (state_over []) v.items) of.2 ∙ new_states t p [] (length t.hosts) (c.in_ok-nodes.nodes).items c.in_ok-nodes.ensures in
    ap (λ (xs : List Entry). record { log = xs; now = (c.of.result).now; mediator = new_mediator; nodes = map (state_over xs) ((c.of.result).nodes).items })
    (ap (λ (q : Sequenced). q.list) (of.0 ∙ c.in_ok-sequencer.ensures))
    ∙ (ap (λ (n : ℕ). record { log = []; now = n; mediator = new_mediator; nodes = map (state_over []) ((c.of.result).nodes).items }) of.3
    ∙ ap (λ (ns : List NodeState). record { log = []; now = 0; mediator = new_mediator; nodes = ns }) states)

pub returns-clause-set_up : goal.returns-clause-set_up
returns-clause-set_up c =
    let t = c.args.setup.now.topology in
    let p = c.args.setup.now.checked in
    subst (λ (xs : List NodeValue). AreSetUp t p xs) (sym (ap (λ v. v.items) (c.of.ensures).2))
    (set_up_new t p (c.in_ok-nodes.nodes).items c.in_ok-nodes.ensures)

pub returns-clause-bases : goal.returns-clause-bases
returns-clause-bases c =
    let t = c.args.setup.now.topology in
    subst (λ (xs : List NodeValue). AreBases (λ p. 0) xs) (sym (ap (λ v. v.items) (c.of.ensures).2))
    (bases_new t c.args.setup.now.checked (length t.hosts) (c.in_ok-nodes.nodes).items c.in_ok-nodes.ensures)
