use Rattle.std.proofs.Common.{◌+◌, List, [], ◌∷◌, ◌++◌, map, Option, sym, ap, ◌∙◌, ne_eqb}
use Rattle.world_model.specs.Messages.{Entry, Tick}
use Rattle.world_model.specs.Node.{NodeState}
use Rattle.world_model.specs.Sequencing.{AppendFault, entry_after, unless_refused}
use Rattle.node_core.specs.OverLog.{state_over}
use Rattle.world_play.proofs.Passed.{nodes_grown, states_grown}
use Rattle.world_play.proofs.Raws.{goes_on}
use Rattle.world_play.proofs.submitting.advance.Goals as goal

pub returns-in-Ok-clause-ok : goal.returns-in-Ok-clause-ok
returns-in-Ok-clause-ok c = λ m state is.
    let world = c.args.world.now in
    let log = (world.sequencer).list in
    let now = world.now + c.args.by in
    let list =
    c.in-Ok.ensures.entry
    ∙ sym (ap (λ (o : Option AppendFault). unless_refused o log (log ++ entry_after now log Tick ∷ [])) (c.in-Ok.ensures.ok m (is.nodes).is_for)) in
    let nodes = (world.nodes).items in
    let next = c.append.new.self in
    let on = goes_on c.append.result world.sequencer next (entry_after now log Tick) c.append.ensures.made c.append.ensures.entry c.append.ensures.err in
    rw (ne_eqb c.args.by 0 c.if-by-eq0.false)
    (ap (λ (states : List NodeState). record { log = next.list; now = now; mediator = state; nodes = states })
    (states_grown m world.now nodes world.sequencer is.nodes next on)
    ∙ ap (λ (xs : List Entry). record { log = xs; now = now; mediator = state; nodes = map (state_over log) nodes }) list)

pub returns-in-Ok-clause-is : goal.returns-in-Ok-clause-is
returns-in-Ok-clause-is c = λ m state is.
    let world = c.args.world.now in
    let s = world.sequencer in
    let next = c.append.new.self in
    let on =
    goes_on c.append.result s next (entry_after (world.now + c.args.by) s.list Tick) c.append.ensures.made c.append.ensures.entry c.append.ensures.err in
    record { nodes = nodes_grown m world.now (world.nodes).items s is.nodes next on; mediator = is.mediator }
