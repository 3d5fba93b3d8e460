use Rattle.std.proofs.Common.{arith}
use Rattle.seq_log.proofs.open_requests.OpenRequests.expire.Goals as goal

pub front-smaller : goal.front-smaller
front-smaller c =
    let is = c.pop_front.ensures.value 0 (c.begins_past.ensures.some c.front-test.true) in
    let len = rw is at c.pop_front.ensures.len in omega (arith, len)
