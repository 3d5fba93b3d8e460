use denote.Exit.{yes}
use denote.Param.{param}
use denote.Param.Send.{param_send, arg_send}
use Rattle.client_threads.specs.Served.{IsServed}
use Rattle.client_threads.proofs.Crossings.{lanes_send}
use Rattle.client_threads.proofs.Brought.{each_of_all, of_ok}
use Rattle.client_threads.proofs.beside.serve_by_threads.Goals as goal

pub join-ran-requires-send-F : goal.join-ran-requires-send-F
join-ran-requires-send-F g c κs within =
    let bounds = c.type_bounds in
    param_send 1 _
    (arg_send _ yes _
    (lanes_send _ _ _ _ _ _ _ _ _ _ _ (param 0 g.row.S) (param 1 g.row.R) (param 2 g.row.G) g.S.Session g.S.Row g.S.Ledger bounds.sync-R bounds.sync-G))

pub returns-clause-each : goal.returns-clause-each
returns-clause-each g c =
    let round = c.args.shared.now.round in
    each_of_all (λ all. all.items)
    (λ p client served. IsServed g.S.Session.machine g.S.Session.why round.time round.paused client.list c.args.submits.now client.me served.client
    served.results) c.args.clients.items c.in_ok-brought.field-0.items c.all_of.result
    (of_ok _ c.in_ok-brought.field-0 _ c.in_ok-brought.was c.join-ran.ensures.second.1) c.all_of.ensures
