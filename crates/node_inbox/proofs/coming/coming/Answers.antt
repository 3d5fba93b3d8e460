use Rattle.node_inbox.proofs.Came.{came_as, comes, received_as}
use Rattle.node_inbox.proofs.Checkable.{offer_spelled}
use Rattle.node_inbox.proofs.coming.coming.Goals as goal

pub returns-in_default-clause-none : goal.returns-in_default-clause-none
returns-in_default-clause-none c = let none = rw c.in_default.is at c.in_ok-notice.ensures.none in none c.args.setup.now.checked

pub kept_of-requires : goal.kept_of-requires
kept_of-requires c =
    let notice = rw c.in-Some.is at c.in_ok-notice.ensures.notice in
    offer_spelled c.args.setup.now.topology c.args.request.now c.args.me c.requires.framed c.in-Some.notice.offered (notice c.args.setup.now.checked).offered

pub returns-clause-some : goal.returns-clause-some
returns-clause-some c =
    let topology = c.args.setup.now.topology in
    let packages = c.args.setup.now.checked in
    let to = rw c.in-Some.is at c.in_ok-notice.ensures.some in
    let notice = rw c.in-Some.is at c.in_ok-notice.ensures.notice in
    let came = came_as topology packages c.args.me c.args.request.now c.in-Some.notice c.in_ok-kept.kept c.requires.framed (to packages) (notice packages) c.in_ok-kept.ensures.kept in
    rw (c.in_ok-kept-2.ensures)
    (comes topology packages c.args.me _ came c.in_ok-kept.ensures.parts (rw (c.as_slice.ensures.value) at c.in_ok-ids.ensures))

pub returns-clause-received : goal.returns-clause-received
returns-clause-received c =
    let topology = c.args.setup.now.topology in
    let packages = c.args.setup.now.checked in
    let to = rw c.in-Some.is at c.in_ok-notice.ensures.some in
    let notice = rw c.in-Some.is at c.in_ok-notice.ensures.notice in
    let came = came_as topology packages c.args.me c.args.request.now c.in-Some.notice c.in_ok-kept.kept c.requires.framed (to packages) (notice packages) c.in_ok-kept.ensures.kept in
    rw (c.in_ok-kept-2.ensures) (received_as topology packages c.args.me c.in_ok-kept.kept came)
