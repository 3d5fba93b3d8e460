use Rattle.world_model.specs.Messages.{RequestMessage}
use Rattle.world_model.specs.Sequencing.{entry_after}
use Rattle.world_play.proofs.Raws.{goes_on, nodes_stay, stays_lawful}
use Rattle.world_play.proofs.world.World.submit_raw.Goals as goal

pub returns-clause-on : goal.returns-clause-on
returns-clause-on c =
    let s = c.args.self.now.sequencer in
    goes_on c.append.result s c.append.new.self (entry_after 0 s.list (RequestMessage c.args.request)) c.append.ensures.made c.append.ensures.entry
    c.append.ensures.err

pub returns-clause-lawful : goal.returns-clause-lawful
returns-clause-lawful c = λ m state is l.
    let world = c.args.self.now in
    let nodes = (world.nodes).items in
    let s = world.sequencer in
    let after = c.append.new.self in
    let on =
    goes_on c.append.result s after (entry_after 0 s.list (RequestMessage c.args.request)) c.append.ensures.made c.append.ensures.entry
    c.append.ensures.err in (
      record { nodes = nodes_stay m world.now state nodes s after on (λ f b. c.append.ensures.behind m f b tt) is.nodes; mediator = is.mediator },
      stays_lawful m world.now state nodes s after on (λ f b. c.append.ensures.behind m f b tt) is.nodes l,
    )
