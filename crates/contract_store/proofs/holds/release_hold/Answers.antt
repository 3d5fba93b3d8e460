use Rattle.contract_store.proofs.HoldSteps.{on_linked, on_before, on_last, on_passed}
use Rattle.contract_store.proofs.holds.release_hold.Goals as goal

pub last_live-last-requires-clause-linked : goal.last_live-last-requires-clause-linked
last_live-last-requires-clause-linked c = on_linked c.args.slots.now.items c.args.at c.slot_at-slot.result c.slot_at-slot.ensures c.requires.on.linked

pub last_live-last-requires-clause-reaches : goal.last_live-last-requires-clause-reaches
last_live-last-requires-clause-reaches c =
    on_before c.args.slots.now.items c.args.at c.slot_at-slot.result c.slot_at-slot.ensures _ c.requires.on (c.leads_to.ensures.yes c.if-leads_to.true)

pub returns-then-leads_to-clause-on : goal.returns-then-leads_to-clause-on
returns-then-leads_to-clause-on c =
    on_last c.args.slots.now.items c.args.at c.slot_at-slot.result c.slot_at-slot.ensures _ c.requires.on _ c.last_live-last.result
    (c.leads_to.ensures.yes c.if-leads_to.true) c.last_live-last.ensures c.put_hold.ensures.holds

pub returns-else-leads_to-clause-on : goal.returns-else-leads_to-clause-on
returns-else-leads_to-clause-on c =
    on_passed c.args.slots.now.items c.args.at c.slot_at-slot.result c.slot_at-slot.ensures _ c.requires.on (c.leads_to.ensures.no c.if-leads_to.false)
