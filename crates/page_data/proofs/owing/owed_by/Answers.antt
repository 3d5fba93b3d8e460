use Rattle.std.proofs.Common.{◌≡◌, ◌+◌, ◌++◌, suc, ap, ◌∙◌, arith}
use Rattle.page_data.specs.Owing.{owed_at_place, owed_below}
use Rattle.page_data.proofs.owing.owed_by.Goals as goal

pub places-preserved : goal.places-preserved
places-preserved c =
    let inbox = c.args.inbox.now in
    let place = c.places.place in
    let on : suc place ≡ place + 1 = omega arith in
    let inside = c.places-test.true in
    let end = c.cursor-place-end.ensures in (
      omega (arith, inside, end),
      c.in_ok-put_owed.ensures ∙ ((λ i. c.places.invariant.1 i ++ owed_at_place inbox place) ∙ ap (owed_below inbox) on),
    )
