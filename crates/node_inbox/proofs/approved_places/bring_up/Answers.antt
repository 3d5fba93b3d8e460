use Rattle.std.proofs.Common.{arith}
use Rattle.node_inbox.proofs.Places.{passed}
use Rattle.node_inbox.proofs.approved_places.bring_up.Goals as goal

pub loop-place-preserved : goal.loop-place-preserved
loop-place-preserved c =
    let p = c.in_ok-pass.ensures in (
      p.below,
      passed c.args.registry.now.tracking.pairs c.loop-place.approved c.pass.new.self c.loop-place.place c.loop-place.invariant.0 c.loop-place.invariant.1
          p.below p.places,
      λ n low high. (let before = c.loop-place-test.true in let next = p.below in omega (arith, before, next, high)),
    )
