use Rattle.std.proofs.Common.{take}
use Rattle.client_threads.specs.Served.{IsServed}
use Rattle.client_threads.proofs.serving.serve.Given as goal

abbrev pub invariant-submits : goal.invariant-submits
invariant-submits g l =
    IsServed g.S.Session.machine g.S.Session.why l.shared.round.time l.shared.round.paused l.fn.client.list (take l.what-index l.submits) l.fn.client.me
    l.client l.results
