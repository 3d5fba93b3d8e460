use Rattle.std.proofs.lemmas.Result.{err_from_is_err_and}
use Rattle.blind_tree.proofs.OpenedLaws.{opened_tree, opened_tree_fault}
use Rattle.blind_tree.proofs.opening.opened.Goals as goal

pub returns-in_err-open_all : goal.returns-in_err-open_all
returns-in_err-open_all c =
    let p = err_from_is_err_and c.from_residual-in_err-open_all.result c.from_residual-in_err-open_all.ensures.1 in
    rw (p.1, p.2) (λ other. opened_tree_fault c.args.tree.now _ _ _ c.in_ok-sender.ensures c.in_ok-requesters.ensures (rw (c.new.ensures, c.new-views.ensures) at (c.in_err-open_all.ensures other)))

pub returns : goal.returns
returns c = opened_tree c.args.tree.now _ _ _ c.in_ok-sender.ensures c.in_ok-requesters.ensures (rw (c.new.ensures, c.new-views.ensures) at c.in_ok-open_all.ensures)
