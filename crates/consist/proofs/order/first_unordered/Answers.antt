use Rattle.ledger_model.specs.Status.{shows_unordered}
use Rattle.consist.proofs.Places.{whole_stop, whole_go}
use Rattle.consist.proofs.order.first_unordered.Goals as goal

pub returns-then-stopped : goal.returns-then-stopped
returns-then-stopped c =
    rw c.of.ensures (whole_stop shows_unordered c.new-earlier.result.items c.walk_trees.new.earlier.items c.new-path.result.items c.walk_trees.new.path.items c.in_ok-stopped.stopped c.args.roots.now
    c.new-earlier.ensures.items c.new-path.ensures.items c.in_ok-stopped.ensures c.if-stopped.true)

pub returns : goal.returns
returns c =
    whole_go shows_unordered c.new-earlier.result.items c.walk_trees.new.earlier.items c.new-path.result.items c.walk_trees.new.path.items c.in_ok-stopped.stopped c.args.roots.now
    c.new-earlier.ensures.items c.new-path.ensures.items c.in_ok-stopped.ensures c.if-stopped.false
