use Rattle.std.proofs.Common.{[]}
use Rattle.contract_store.specs.Written.{written}
use Rattle.framed_form.specs.FramedReading.{framed_reading}
use Rattle.inbox_registry.specs.Changes.{changes_since}
use Rattle.node_inbox.specs.Items.{model_items}
use Rattle.node_inbox.proofs.HostedRows.{offered_are_hosted}
use Rattle.node_inbox.proofs.Seen.{keep_changes, outcome_at_is}
use Rattle.node_inbox.proofs.inbox.Inbox.active_at.Goals as goal

pub new-hosting-requires : goal.new-hosting-requires
new-hosting-requires c =
    let i = c.self.inside in
    let reading = framed_reading i.setup.now.topology i.setup.now.checked in
    let known = rw (← c.self.view_is) at c.hosted_contracts.ensures in
    rw known (offered_are_hosted reading i.me (written (changes_since reading i.registry.start (model_items i.items.items)) []))

pub active_rows-requires-clause-told : goal.active_rows-requires-clause-told
active_rows-requires-clause-told c =
    rw (c.new-hosting.ensures)
    (outcome_at_is c.self.inside.setup.now.topology c.self.inside.setup.now.checked c.self.inside.me c.self.inside.items.items c.self.inside.registry c.self.invariant.0)

pub active_rows-requires-clause-kept : goal.active_rows-requires-clause-kept
active_rows-requires-clause-kept c =
    keep_changes c.self.inside.setup.now.topology c.self.inside.setup.now.checked c.self.inside.me c.self.inside.registry.start c.self.inside.items.items c.self.invariant.0.each

pub active_rows-requires-clause-active : goal.active_rows-requires-clause-active
active_rows-requires-clause-active c = rw (c.new-hosting.ensures, c.start.ensures) (c.self.invariant.4)

pub active_rows-requires-clause-begins : goal.active_rows-requires-clause-begins
active_rows-requires-clause-begins c = rw (c.new-hosting.ensures, c.start.ensures) (c.self.inside.base, c.self.invariant.5)

pub returns : goal.returns
returns c = rw (← c.self.view_is) (rw (c.new-hosting.ensures, c.start.ensures) at c.active_rows.ensures)
