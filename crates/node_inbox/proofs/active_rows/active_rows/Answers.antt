use Rattle.std.proofs.Common.{sym, ap, ◌∙◌}
use Rattle.std.specs.Prelude.{option_copied}
use Rattle.node_inbox.specs.Hosts.{reading_by}
use Rattle.node_inbox.specs.Items.{model_items}
use Rattle.node_inbox.proofs.KeptAnswers.{not_behind_active}
use Rattle.node_inbox.proofs.active_rows.active_rows.Goals as goal

pub active_from-requires-clause-order : goal.active_from-requires-clause-order
active_from-requires-clause-order c =
    let host = c.args.hosting.now in
    (not_behind_active (reading_by host) host.me host.start (model_items c.args.items.now.items) c.args.kept.now c.args.end c.in-Some.known.now c.requires.active
    (sym c.not_behind.ensures ∙ ap option_copied c.in-Some.is)).1

pub active_from-requires-clause-active : goal.active_from-requires-clause-active
active_from-requires-clause-active c =
    let host = c.args.hosting.now in
    (not_behind_active (reading_by host) host.me host.start (model_items c.args.items.now.items) c.args.kept.now c.args.end c.in-Some.known.now c.requires.active
    (sym c.not_behind.ensures ∙ ap option_copied c.in-Some.is)).0
