use Rattle.std.proofs.lemmas.Result.{err_from_is_err_and}
use Rattle.view_split.proofs.FaultFacts.{gives_fault, gives_views}
use Rattle.view_split.proofs.splitting.split.Goals as goal

pub returns-in_err-roots : goal.returns-in_err-roots
returns-in_err-roots c =
    let p = err_from_is_err_and c.from_residual.result c.from_residual.ensures.1 in
    rw (p.1, p.2) (gives_fault c.args.checked.now _ _ _ c.in_err-roots.ensures.fault)

pub returns : goal.returns
returns c = gives_views c.args.checked.now c.args.tx.now _ _ c.in_ok-roots.ensures.fault c.in_ok-roots.ensures.views c.in_ok-clone.ensures.cases
