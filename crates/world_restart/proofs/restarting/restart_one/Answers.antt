use Rattle.std.proofs.Common.{◌∙◌, ap}
use Rattle.node_core.specs.Participant.{Participant as NodeValue}
use Rattle.world_play.proofs.Turns.{reads_of}
use Rattle.world_restart.proofs.Restarts.{can_restart, now_restarted, reader_remains, restarted_remains}
use Rattle.world_restart.proofs.restarting.restart_one.Goals as goal

pub read_to_end-requires : goal.read_to_end-requires
read_to_end-requires c = reads_of c.requires.is.0 c.requires.is.1 c.args.node.now c.args.sequencer.now c.requires.is.2

pub returns-in_err-read_to_end-clause-remains : goal.returns-in_err-read_to_end-clause-remains
returns-in_err-read_to_end-clause-remains c = reader_remains c.args.sequencer.now c.args.node.now c.read_to_end.new.node c.read_to_end.ensures.some

pub restarted-requires-clause-setup : goal.restarted-requires-clause-setup
restarted-requires-clause-setup c =
    let is = c.in_ok-read_to_end.ensures.ok in
    (ap (λ (x : NodeValue). x.topology) is ∙ c.requires.setup.0, ap (λ (x : NodeValue). x.packages) is ∙ c.requires.setup.1)

pub restarted-requires-clause-read : goal.restarted-requires-clause-read
restarted-requires-clause-read c =
    let given = c.requires.is in (
      given.0,
      c.args.sequencer.now.list,
      can_restart given.0 given.1 c.args.node.now c.args.sequencer.now given.2 c.read_to_end.new.node c.in_ok-read_to_end.ensures.ok
          c.args.setup.now.topology c.requires.setup.0 c.requires.hosts c.requires.short,
    )

pub returns-in_err-node-clause-remains : goal.returns-in_err-node-clause-remains
returns-in_err-node-clause-remains c = reader_remains c.args.sequencer.now c.args.node.now c.read_to_end.new.node c.read_to_end.ensures.some

pub returns-clause-remains : goal.returns-clause-remains
returns-clause-remains c =
    restarted_remains c.args.node.now c.args.sequencer.now c.args.setup.now.topology c.requires.setup.0 c.requires.hosts c.requires.short
    c.requires.is c.read_to_end.new.node c.in_ok-read_to_end.ensures.ok c.in_ok-node.field-0 c.in_ok-node.ensures

pub returns-clause-restarted : goal.returns-clause-restarted
returns-clause-restarted c =
    now_restarted c.args.node.now c.args.sequencer.now c.args.setup.now.topology c.requires.setup.0 c.requires.hosts c.requires.short
    c.requires.is c.read_to_end.new.node c.in_ok-read_to_end.ensures.ok c.in_ok-node.field-0 c.in_ok-node.ensures
