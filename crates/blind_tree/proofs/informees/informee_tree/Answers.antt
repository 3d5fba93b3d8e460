use Rattle.std.proofs.lemmas.Result.{err_from_is_err_and}
use Rattle.blind_tree.proofs.ToldLaws.{told_tree, told_tree_fault}
use Rattle.blind_tree.proofs.informees.informee_tree.Goals as goal

pub returns-in_err-tell_all : goal.returns-in_err-tell_all
returns-in_err-tell_all c =
    let p = err_from_is_err_and c.from_residual-in_err-tell_all.result c.from_residual-in_err-tell_all.ensures.1 in
    rw (p.1, p.2) (λ other. told_tree_fault c.args.tree.now _ _ c.in_ok-sender.ensures (rw (c.new.ensures, c.new-views.ensures) at (c.in_err-tell_all.ensures other)))

pub returns : goal.returns
returns c = told_tree c.args.tree.now _ _ c.in_ok-sender.ensures (rw (c.new.ensures, c.new-views.ensures) at c.in_ok-tell_all.ensures)
