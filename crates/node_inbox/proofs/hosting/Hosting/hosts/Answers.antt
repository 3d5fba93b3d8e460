use Rattle.std.proofs.Common.{sym}
use Rattle.prepare_request.specs.Hosted.{hosted_rows}
use Rattle.framed_form.specs.FramedReading.{framed_reading}
use Rattle.node_inbox.proofs.HostedRows.{same_is_hosted}
use Rattle.node_inbox.proofs.hosting.Hosting.hosts.Goals as goal

pub returns-then-says_same : goal.returns-then-says_same
returns-then-says_same c =
    let i = c.self.inside in
    rw (← c.self.view_is)
    (sym (same_is_hosted (framed_reading i.setup.now.topology i.setup.now.checked) i.me _ (hosted_rows i.known.hosted.now.ids i.known.store.now.rows) _
    c.args.known.now c.self.invariant c.find.ensures (sym c.if-says_same.ensures)))
