use Rattle.std.proofs.Common.{ap, ◌∙◌}
use Rattle.contract_store.specs.Active.{knowns}
use Rattle.framed_form.specs.FramedReading.{framed_reading}
use Rattle.node_inbox.specs.Offered.{offered}
use Rattle.node_inbox.proofs.Told.{offered_is}
use Rattle.node_inbox.proofs.inbox.Inbox.hosted_contracts.Goals as goal

pub returns : goal.returns
returns c =
    let i = c.self.inside in
    let reading = framed_reading i.setup.now.topology i.setup.now.checked in
    rw (c.store.ensures, ← c.self.view_is)
    (offered_is reading i.me i.hosted.ids i.registry.store.rows
    (c.ids_tell_after_each_change.ensures.told reading i.me i.hosted.ids i.registry.store.rows c.self.invariant.1)
    ∙ ap (λ rows. knowns (offered reading i.me rows)) c.self.invariant.0.follows.rows)
