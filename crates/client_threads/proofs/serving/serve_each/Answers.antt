use denote.Exit.{yes}
use denote.Param.{param}
use denote.Param.Send.{param_sync, arg_sync}
use Rattle.client_threads.proofs.Crossings.{clients_sync}
use Rattle.client_threads.proofs.serving.serve_each.Goals as goal

pub map_vec-requires-sync-F : goal.map_vec-requires-sync-F
map_vec-requires-sync-F g c κs within =
    param_sync 4 _
    (arg_sync _ yes _
    (clients_sync _ _ _ _ _ _ _ _ _ _ (param 0 g.row.S) (param 1 g.row.R) g.S.Session g.S.Row g.S.Ledger c.type_bounds.sync-R))
