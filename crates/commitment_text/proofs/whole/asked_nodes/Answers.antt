use Rattle.std.proofs.Common.{◌+◌, drop}
use Rattle.commitment_text.proofs.Asking.{next_asked}
use Rattle.commitment_text.proofs.NextPairs.{first_left}
use Rattle.commitment_text.proofs.whole.asked_nodes.Goals as goal

pub hosts-preserved : goal.hosts-preserved
hosts-preserved c =
    let hosts = c.args.hosts.now in
    let i = c.hosts.at in
    let host = c.host-item.result in
    let head = first_left _ hosts i host c.as_slice-host-items.ensures c.hosts-test.true c.host-item.is in
    let sofar = rw head at c.hosts.invariant in
    next_asked i host (drop (i + 1) hosts) c.args.nodes.now i _ _ _ sofar c.in_ok-push_asked.ensures
