use Rattle.std.proofs.Common.{refl, true, nat_eq}
use Rattle.std.specs.Str.{bytes_eq}
use Rattle.indexmap.specs.IndexMap.{get}
use Rattle.contract_store.specs.declared.hold.KeptHold.{KeptHold}
use Rattle.contract_store.specs.Leads.{hold_behind}
use Rattle.contract_store.specs.Moved.{among}
use Rattle.contract_store.proofs.Moves.{moving_moved_on, moving_passed_on}
use Rattle.contract_store.proofs.compact.move_next.Goals as goal

pub move_hold-requires-clause-id : goal.move_hold-requires-clause-id
move_hold-requires-clause-id c = (c.requires.there c.slot_at-slot.result c.slot_at-slot.ensures c.if-slot.true).0

pub move_hold-requires-clause-place : goal.move_hold-requires-clause-place
move_hold-requires-clause-place c = (c.requires.there c.slot_at-slot.result c.slot_at-slot.ensures c.if-slot.true).1

pub returns-then-slot-clause-step : goal.returns-then-slot-clause-step
returns-then-slot-clause-step c = λ held moving.
    let slot = c.slot_at-slot.result in
    let x : KeptHold = record {
      hold = slot.hold;
      live = true;
      before_on = among c.args.to (hold_behind (get bytes_eq c.args.ids.now slot.hold.id));
      before_at = among c.args.to (get nat_eq c.args.places.now slot.hold.place);
    } in
    rw c.move_hold.ensures.slots
    (moving_moved_on held c.args.slots.now.items c.args.next c.args.to _ _ _ _ moving slot x c.slot_at-slot.ensures refl refl refl refl
    c.move_hold.ensures.ids c.move_hold.ensures.places c.if-slot.true)

pub returns-clause-step : goal.returns-clause-step
returns-clause-step c = λ held moving.
    moving_passed_on held c.args.slots.now.items c.args.next c.args.to _ _ moving c.slot_at-slot.result c.slot_at-slot.ensures c.if-slot.false
