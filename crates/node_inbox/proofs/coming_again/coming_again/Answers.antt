use Rattle.std.proofs.Common.{◌∙◌}
use Rattle.node_inbox.specs.Offers.{as_offered}
use Rattle.node_inbox.proofs.Came.{came_again, comes, offer_is}
use Rattle.node_inbox.proofs.Checkable.{offer_spelled}
use Rattle.node_inbox.proofs.coming_again.coming_again.Goals as goal

pub parts_of-requires : goal.parts_of-requires
parts_of-requires c =
    let topology = c.args.setup.now.topology in
    let raw = c.args.raw in
    offer_spelled topology c.requires.request c.args.me c.requires.is_framed (as_offered c.in_ok-offer.offer)
    (c.in_ok-offer.ensures ∙ (c.in_ok-offered.ensures
    ∙ offer_is topology c.args.setup.now.checked c.args.me raw.sender raw.command raw.root raw.seen raw.confirmed raw.envelope c.requires))

pub returns-clause-coming : goal.returns-clause-coming
returns-clause-coming c =
    let topology = c.args.setup.now.topology in
    let packages = c.args.setup.now.checked in
    rw (c.in_ok-kept.ensures)
    (comes topology packages c.args.me _ (came_again topology packages c.args.me _ c.requires (c.in_ok-offer.ensures ∙ c.in_ok-offered.ensures))
    c.in_ok-facts.ensures (rw (c.as_slice.ensures.value) at c.in_ok-ids.ensures))

pub returns-clause-offer : goal.returns-clause-offer
returns-clause-offer c = rw (c.in_ok-kept.ensures) (c.in_ok-offer.ensures ∙ c.in_ok-offered.ensures)
