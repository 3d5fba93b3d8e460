use Rattle.std.proofs.Common.{◌∙◌, sym, ap, arith, nat_eq}
use Rattle.std.specs.Map.{lookup}
use Rattle.std.specs.Str.{bytes_eq}
use Rattle.std.proofs.lemmas.Grind.{common_steps}
use Rattle.indexmap.specs.IndexMap.{get}
use Rattle.contract_store.proofs.StoreSteps.{room_grown}
use Rattle.contract_store.proofs.store.Store.make_room.Goals as goal

pub invariant_of-self : goal.invariant_of-self
invariant_of-self c =
    let e = c.make_room.ensures in (
      rw (e.rows, e.holds)
          (room_grown c.self.inside.rows.items c.self.inside.holds.items (λ q. get bytes_eq c.self.inside.ids q)
          (λ q. get bytes_eq c.self.inside.salts q) (λ q. get bytes_eq c.make_room.new.salts q) (λ p. get nat_eq c.self.inside.places p)
          (λ p. get nat_eq c.make_room.new.places p) c.self.invariant.0 (λ q. ap (lookup (bytes_eq q)) e.salts) (λ p. ap (lookup (nat_eq p)) e.places)),
      grind (arith, common_steps),
      grind (arith, common_steps),
      grind (arith, common_steps),
      grind (arith, common_steps),
      rw e.holds (c.self.invariant.5 ∙ sym e.hold_len),
      grind (arith, common_steps),
    )

pub invariant_of-self-2 : goal.invariant_of-self-2
invariant_of-self-2 c =
    let e = c.make_room.ensures in
    let room = c.in_ok-make_room.ensures.room in (
      rw (e.rows, e.holds)
          (room_grown c.self.inside.rows.items c.self.inside.holds.items (λ q. get bytes_eq c.self.inside.ids q)
          (λ q. get bytes_eq c.self.inside.salts q) (λ q. get bytes_eq c.make_room.new.salts q) (λ p. get nat_eq c.self.inside.places p)
          (λ p. get nat_eq c.make_room.new.places p) c.self.invariant.0 (λ q. ap (lookup (bytes_eq q)) e.salts) (λ p. ap (lookup (nat_eq p)) e.places)),
      grind (arith, common_steps),
      grind (arith, common_steps),
      grind (arith, common_steps),
      grind (arith, common_steps),
      rw e.holds (c.self.invariant.5 ∙ sym e.hold_len),
      grind (arith, common_steps),
    )
