use Rattle.std.proofs.Common.{refl, arith, ◌∙◌, ◌≤◌, ap, length, nat_eq}
use Rattle.std.specs.Str.{bytes_eq}
use Rattle.std.proofs.lemmas.Grind.{common_steps}
use Rattle.indexmap.specs.IndexMap.{get}
use Rattle.contract_store.specs.Leads.{hold_behind}
use Rattle.contract_store.specs.Holds.{holds_of}
use Rattle.contract_store.proofs.Moves.{moving_begins, moving_ends, id_there, place_there, key_there}
use Rattle.contract_store.proofs.compact.keep_live.Goals as goal

pub loop-next-init : goal.loop-next-init
loop-next-init c = record {
  moving = moving_begins c.args.slots.now.items (λ k. hold_behind (get bytes_eq c.args.ids.now k)) (λ p. get nat_eq c.args.places.now p) c.requires;
  rows = λ k. refl;
  keys = refl;
  len = refl;
  capacity = refl;
  spare = omega arith;
}

pub move_next-to-requires-clause-order : goal.move_next-to-requires-clause-order
move_next-to-requires-clause-order c = c.loop-next.invariant.moving.order

pub move_next-to-requires-clause-there : goal.move_next-to-requires-clause-there
move_next-to-requires-clause-there c = λ h at live.
    let moving = c.loop-next.invariant.moving in (
      key_there (get bytes_eq c.loop-next.ids h.hold.id)
          (id_there c.args.slots.now.items c.loop-next.slots.items c.loop-next.next c.loop-next.to _ _ moving h at live),
      place_there c.args.slots.now.items c.loop-next.slots.items c.loop-next.next c.loop-next.to _ _ moving h at live,
    )

pub loop-next-preserved : goal.loop-next-preserved
loop-next-preserved c =
    let inv = c.loop-next.invariant in
    let e = c.move_next-to.ensures in
    record {
      moving = e.step c.args.slots.now.items inv.moving;
      rows = λ k. e.rows k ∙ inv.rows k;
      keys = e.keys ∙ inv.keys;
      len = e.len ∙ inv.len;
      capacity = e.capacity ∙ inv.capacity;
      spare = grind (arith, common_steps);
    }

pub returns-clause-leads : goal.returns-clause-leads
returns-clause-leads c =
    let past : length c.args.slots.now.items ≤ c.loop-next.next = grind (arith, common_steps) in
    rw c.truncate.ensures.items
    (moving_ends c.args.slots.now.items c.loop-next.slots.items c.loop-next.next c.loop-next.to _ _ c.loop-next.invariant.moving past).0

pub returns-clause-holds : goal.returns-clause-holds
returns-clause-holds c =
    let past : length c.args.slots.now.items ≤ c.loop-next.next = grind (arith, common_steps) in
    ap holds_of c.truncate.ensures.items
    ∙ (moving_ends c.args.slots.now.items c.loop-next.slots.items c.loop-next.next c.loop-next.to _ _ c.loop-next.invariant.moving past).1

pub returns-clause-count : goal.returns-clause-count
returns-clause-count c =
    let count = c.loop-next.invariant.moving.count in
    let fits = c.loop-next.invariant.moving.fits in
    rw c.truncate.ensures.items (grind (arith, common_steps))
