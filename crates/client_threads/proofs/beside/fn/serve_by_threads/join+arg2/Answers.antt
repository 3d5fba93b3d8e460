use denote.Exit.{yes}
use denote.Param.{param}
use denote.Param.Send.{param_sync, arg_sync}
use Rattle.client_threads.proofs.Crossings.{lane_work_sync}
use Rattle.client_threads.proofs.beside.fn.serve_by_threads.join+arg2.Goals as goal

pub run_waves-requires-sync-L : goal.run_waves-requires-sync-L
run_waves-requires-sync-L g c κs within =
    let bounds = c.requires.1.1.1 in
    param_sync 1 _
    (arg_sync _ yes _
    (lane_work_sync _ _ (param 0 g.row.S) (param 1 g.row.R) (param 2 g.row.G) _ _ _ (param_sync 1 g.row.R bounds.2) (param_sync 2 g.row.G bounds.3)))
