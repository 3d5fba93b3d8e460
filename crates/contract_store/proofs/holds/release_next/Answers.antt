use Rattle.std.proofs.Common.{arith, nat_eq}
use Rattle.std.proofs.lemmas.Grind.{common_steps}
use Rattle.contract_store.specs.Holds.{link_at}
use Rattle.contract_store.proofs.HoldSteps.{before_below, release_step}
use Rattle.contract_store.proofs.Moves.{fewer_held}
use Rattle.contract_store.proofs.holds.release_next.Goals as goal

pub count_dead-requires : goal.count_dead-requires
count_dead-requires c =
    let one = fewer_held c.args.slots.now.items c.args.at c.slot_at-slot.result c.slot_at-slot.ensures in
    let all = c.requires.count in
    grind (arith, common_steps)

pub returns-clause-below : goal.returns-clause-below
returns-clause-below c = before_below nat_eq link_at c.args.slots.now.items c.args.at c.slot_at-slot.result c.requires.linked c.slot_at-slot.ensures

pub returns-clause-step : goal.returns-clause-step
returns-clause-step c = λ place left places r.
    let set = c.release_hold.ensures.slots c.slot_at-slot.result c.slot_at-slot.ensures in
    rw set (release_step c.args.slots.now.items c.args.at c.slot_at-slot.result c.slot_at-slot.ensures place left places _ _ r
    (rw set at c.release_hold.ensures.on))

pub returns-clause-count : goal.returns-clause-count
returns-clause-count c =
    let set = c.release_hold.ensures.slots c.slot_at-slot.result c.slot_at-slot.ensures in
    let one = fewer_held c.args.slots.now.items c.args.at c.slot_at-slot.result c.slot_at-slot.ensures in
    let all = c.requires.count in
    let dead = c.count_dead.ensures in
    let len = c.release_hold.ensures.len in
    rw set (omega arith)
