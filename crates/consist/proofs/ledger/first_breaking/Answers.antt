use Rattle.consist.specs.Breaks.{breaks}
use Rattle.consist.proofs.Places.{part_stop, part_go}
use Rattle.consist.proofs.ledger.first_breaking.Goals as goal

pub returns-then-stopped : goal.returns-then-stopped
returns-then-stopped c =
    rw c.of.ensures (part_stop breaks c.loop-commit.earlier.items c.walk_trees.new.earlier.items c.new-path.result.items c.walk_trees.new.path.items c.in_ok-stopped.stopped c.as_slice-commit-items.result.now c.loop-commit.commit-index c.commit-item.result
    c.loop-commit-test.true c.commit-item.is c.new-path.ensures.items c.in_ok-stopped.ensures _ c.if-stopped.true c.loop-commit.invariant)

pub loop-commit-preserved : goal.loop-commit-preserved
loop-commit-preserved c =
    part_go breaks c.loop-commit.earlier.items c.walk_trees.new.earlier.items c.new-path.result.items c.walk_trees.new.path.items c.in_ok-stopped.stopped c.as_slice-commit-items.result.now c.loop-commit.commit-index c.commit-item.result
    c.loop-commit-test.true c.commit-item.is c.new-path.ensures.items c.in_ok-stopped.ensures _ c.if-stopped.false c.loop-commit.invariant
