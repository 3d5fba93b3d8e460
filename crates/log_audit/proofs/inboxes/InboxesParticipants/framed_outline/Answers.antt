use Rattle.framed_form.specs.FramedReading.{framed_reading}
use Rattle.log_audit.proofs.Told.{framing}
use Rattle.log_audit.proofs.inboxes.InboxesParticipants.framed_outline.Goals as goal

pub returns : goal.returns
returns c =
    let setup = c.args.self.now.setup.now in
    framing (framed_reading setup.topology setup.checked) c.args.request.now c.framed_outline.result c.framed_outline.ensures.framed
    c.framed_outline.ensures.outline
