use Rattle.std.proofs.Common.{◌≤◌, ◌∙◌, length, sym, arith}
use Rattle.canton_model.proofs.InboxFacts.{clean_is_clean}
use Rattle.node_inbox.specs.Items.{model_items}
use Rattle.node_inbox.proofs.Places.{tracked_are}
use Rattle.node_inbox.proofs.Seen.{outcome_at_is}
use Rattle.node_inbox.proofs.inbox.Inbox.bring_up.Goals as goal

pub bring_up-requires : goal.bring_up-requires
bring_up-requires c =
    let i = c.self.inside in
    let tells = outcome_at_is i.setup.now.topology i.setup.now.checked i.me i.items.items i.registry c.self.invariant.0 in
    c.self.invariant.3.places
    ∙ sym (tracked_are i.setup.now.topology.params (model_items i.items.items) i.registry.tracking.pairs i.approved.below tells)

pub invariant_of-self : goal.invariant_of-self
invariant_of-self c =
    let i = c.self.inside in
    let params = i.setup.now.topology.params in
    let items = model_items i.items.items in
    let tells = outcome_at_is i.setup.now.topology i.setup.now.checked i.me i.items.items i.registry c.self.invariant.0 in
    let clean : c.clean-clean.result ≤ length items =
    (let w = (clean_is_clean params items).within in let e = rw (← c.self.view_is) at c.clean-clean.ensures in omega (arith, w, e)) in (
      c.self.invariant.0,
      c.self.invariant.1,
      c.self.invariant.2,
      record {
        within = c.bring_up.ensures.within (length items) c.self.invariant.3.within clean;
        places = c.bring_up.ensures.places ∙ tracked_are params items i.registry.tracking.pairs c.bring_up.new.approved.below tells;
      },
      c.self.invariant.4,
      c.self.invariant.5,
    )
