use Rattle.std.proofs.Common.{arith, ◌≤◌}
use Rattle.std.specs.Str.{bytes_eq}
use Rattle.contract_store.specs.Chains.{above}
use Rattle.contract_store.specs.Holds.{link_on}
use Rattle.contract_store.proofs.HoldSteps.{passed_dead, found_live, before_below}
use Rattle.contract_store.proofs.holds.last_live.Goals as goal

pub back-preserved : goal.back-preserved
back-preserved c =
    passed_dead c.args.slots.now.items c.args.id.now c.in-Some.at c.requires.linked
    (rw c.in-Some.is at c.back.invariant) c.slot_at-slot.result c.slot_at-slot.ensures c.if-slot.false

pub returns-then-slot : goal.returns-then-slot
returns-then-slot c =
    found_live c.args.slots.now.items c.args.id.now c.in-Some.at
    (rw c.in-Some.is at c.back.invariant) c.slot_at-slot.result c.slot_at-slot.ensures c.if-slot.true

pub back-smaller : goal.back-smaller
back-smaller c =
    let below : above c.slot_at-slot.result.before_on ≤ c.in-Some.at =
    before_below bytes_eq link_on c.args.slots.now.items c.in-Some.at c.slot_at-slot.result c.requires.linked c.slot_at-slot.ensures in
    rw c.in-Some.is (omega arith)
