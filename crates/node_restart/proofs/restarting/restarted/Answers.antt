use Rattle.std.proofs.Common.{◌∙◌}
use Rattle.node_restart.proofs.Restarts.{begins_over, restarts, spelled_later}
use Rattle.node_restart.proofs.restarting.restarted.Goals as goal

pub encode-requires : goal.encode-requires
encode-requires c =
    let can = c.requires.read in
    spelled_later c.args.node.now c.in_ok-state.state c.in_ok-state.ensures.base c.in_ok-state.ensures.start c.in_ok-state.ensures.state can.0 can.1 can.2

pub read_back-requires : goal.read_back-requires
read_back-requires c = (c.in_ok-state.state, c.in_ok-bytes.ensures.in_range, c.as_slice.ensures ∙ c.in_ok-bytes.ensures.written)

pub from_state-requires : goal.from_state-requires
from_state-requires c =
    let can = c.requires.read in
    let read = c.in_ok-kept.ensures c.in_ok-state.state c.in_ok-bytes.ensures.in_range (c.as_slice.ensures ∙ c.in_ok-bytes.ensures.written) in
    begins_over c.args.node.now c.in_ok-state.state c.in_ok-state.ensures.base c.in_ok-state.ensures.start c.in_ok-state.ensures.state
    c.args.setup.now.topology c.args.setup.now.checked c.requires.setup.0 c.requires.setup.1 c.in_ok-kept.kept read can.0 can.1
    can.2

pub returns : goal.returns
returns c =
    let read = c.in_ok-kept.ensures c.in_ok-state.state c.in_ok-bytes.ensures.in_range (c.as_slice.ensures ∙ c.in_ok-bytes.ensures.written) in
    restarts c.args.node.now c.in_ok-state.state c.in_ok-state.ensures.base c.in_ok-state.ensures.start c.in_ok-state.ensures.state
    c.args.setup.now.topology c.args.setup.now.checked c.requires.setup.0 c.requires.setup.1 c.in_ok-kept.kept read _
    c.from_state.ensures
