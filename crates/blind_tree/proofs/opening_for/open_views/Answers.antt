use Rattle.std.proofs.lemmas.Result.{err_from_is_err_and}
use Rattle.blind_tree.proofs.ListedLaws.{listed_tree, listed_tree_fault}
use Rattle.blind_tree.proofs.opening_for.open_views.Goals as goal

pub returns-in_err-open_all : goal.returns-in_err-open_all
returns-in_err-open_all c =
    let p = err_from_is_err_and c.from_residual-in_err-open_all.result c.from_residual-in_err-open_all.ensures.1 in
    rw (p.1, p.2) (λ other. listed_tree_fault c.args.seen.now c.args.requesters c.args.tree.now _ _ _ _ c.in_ok-check_stand.ensures c.in_ok-sender.ensures c.in_ok-requesters.ensures
    (rw (c.new.ensures, c.new-2.ensures, c.new-views.ensures) at (c.in_err-open_all.ensures.opened other)))

pub returns : goal.returns
returns c =
    listed_tree c.args.seen.now c.args.requesters c.args.tree.now _ _ _ _ c.in_ok-check_stand.ensures c.in_ok-sender.ensures c.in_ok-requesters.ensures
    (rw (c.new.ensures, c.new-2.ensures, c.new-views.ensures) at c.in_ok-open_all.ensures.opened)
