use Rattle.std.proofs.Common.{arith}
use Rattle.log_audit.proofs.Knowing.{may_read, reads_one, reads_all}
use Rattle.log_audit.proofs.reading.read_each.Goals as goal

pub read-requires-clause-few : goal.read-requires-clause-few
read-requires-clause-few c =
    let now = c.loop-at.inboxes in
    let fits = now.ok.0 in
    let first = c.args.inboxes.now in
    let first_fits = first.ok.0 in
    let inside = c.loop-at-test.true in
    let end = c.len-at-end.ensures in
    let hosts = (c.loop-at.invariant).hosts in
    (may_read first.items c.args.entry.now c.loop-at.at now.items c.loop-at.invariant c.index_mut.result.now (omega (arith, inside, end, first_fits, hosts))
    c.index_mut.ensures.value c.requires.known).0

pub read-requires-clause-rises : goal.read-requires-clause-rises
read-requires-clause-rises c =
    let now = c.loop-at.inboxes in
    let first = c.args.inboxes.now in
    let first_fits = first.ok.0 in
    let inside = c.loop-at-test.true in
    let end = c.len-at-end.ensures in
    let hosts = (c.loop-at.invariant).hosts in
    (may_read first.items c.args.entry.now c.loop-at.at now.items c.loop-at.invariant c.index_mut.result.now (omega (arith, inside, end, first_fits, hosts))
    c.index_mut.ensures.value c.requires.known).1

pub read-requires-clause-framed : goal.read-requires-clause-framed
read-requires-clause-framed c =
    let now = c.loop-at.inboxes in
    let first = c.args.inboxes.now in
    let first_fits = first.ok.0 in
    let inside = c.loop-at-test.true in
    let end = c.len-at-end.ensures in
    let hosts = (c.loop-at.invariant).hosts in
    (may_read first.items c.args.entry.now c.loop-at.at now.items c.loop-at.invariant c.index_mut.result.now (omega (arith, inside, end, first_fits, hosts))
    c.index_mut.ensures.value c.requires.known).2

pub loop-at-preserved : goal.loop-at-preserved
loop-at-preserved c =
    let now = c.loop-at.inboxes in
    let first = c.args.inboxes.now in
    let first_fits = first.ok.0 in
    let inside = c.loop-at-test.true in
    let end = c.len-at-end.ensures in
    let hosts = (c.loop-at.invariant).hosts in
    reads_one first.items c.args.entry.now c.loop-at.at now.items c.loop-at.invariant c.index_mut.result.now (omega (arith, inside, end, first_fits, hosts))
    c.index_mut.ensures.value c.read.new.self c.in_ok-read.ensures.ok

pub returns : goal.returns
returns c =
    let now = c.loop-at.inboxes in
    let first = c.args.inboxes.now in
    let first_fits = first.ok.0 in
    let out = c.loop-at-test.false in
    let end = c.len-at-end.ensures in
    let hosts = (c.loop-at.invariant).hosts in
    reads_all first.items c.args.entry.now c.loop-at.at now.items c.loop-at.invariant (omega (arith, out, end, first_fits, hosts))
