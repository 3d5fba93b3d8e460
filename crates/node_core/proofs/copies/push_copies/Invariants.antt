use Rattle.std.proofs.Common.{◌≡◌, ◌++◌, take}
use Rattle.node_core.proofs.copies.push_copies.Given as goal

abbrev pub invariant-loop-response : goal.invariant-loop-response
invariant-loop-response l = l.copies ≡ l.fn.copies ++ take l.response-index l.responses
