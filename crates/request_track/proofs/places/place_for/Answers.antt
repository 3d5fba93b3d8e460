use Rattle.std.proofs.Common.{arith}
use Rattle.request_track.proofs.InOrder.{inserted}
use Rattle.request_track.proofs.places.place_for.Goals as goal

pub returns-clause-parts : goal.returns-clause-parts
returns-clause-parts c =
    let e = c.count_below.ensures in
    let within = rw (c.as_slice.ensures.value) at e.within in
    let below = rw (c.as_slice.ensures.value) at e.below in
    let above = rw (c.as_slice.ensures.value) at e.above in
    inserted c.args.place c.args.places.now.items c.count_below.result within below (λ h. above c.count_below.result (omega arith) h)
