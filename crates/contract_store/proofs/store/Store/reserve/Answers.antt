use Rattle.std.proofs.Common.{◌≡◌, ◌∙◌, sym, ap, true, arith, nat_eq}
use Rattle.std.specs.Prelude.{IsSome}
use Rattle.std.specs.Map.{lookup}
use Rattle.std.specs.Str.{bytes_eq}
use Rattle.std.proofs.lemmas.Grind.{common_steps}
use Rattle.std.proofs.lemmas.Result.{on_ok_weaker}
use Rattle.std.proofs.lemmas.List.Elements.{All-weaker}
use Rattle.indexmap.specs.IndexMap.{get, keys}
use Rattle.ledger_model.specs.Terms.{Hash}
use Rattle.ledger_terms.specs.declared.known.Known.{Known}
use Rattle.contract_store.specs.Stored.{is_ready}
use Rattle.contract_store.proofs.StoreSteps.{ready_there, there_ready, keys_grown, room_grown}
use Rattle.contract_store.proofs.store.Store.reserve.Goals as goal

pub invariant_of-self : goal.invariant_of-self
invariant_of-self c =
    let e = c.make_room.ensures in (
      rw (e.rows, e.holds)
          (room_grown c.self.inside.rows.items c.self.inside.holds.items (λ q. get bytes_eq c.self.inside.ids q)
          (λ q. get bytes_eq c.self.inside.salts q) (λ q. get bytes_eq c.make_room.new.salts q) (λ p. get nat_eq c.self.inside.places p)
          (λ p. get nat_eq c.make_room.new.places p) c.self.invariant.0 (λ q. ap (lookup (bytes_eq q)) e.salts) (λ p. ap (lookup (nat_eq p)) e.places)),
      grind (arith, common_steps),
      grind (arith, common_steps),
      grind (arith, common_steps),
      grind (arith, common_steps),
      rw e.holds (c.self.invariant.5 ∙ sym e.hold_len),
      grind (arith, common_steps),
    )

pub invariant_of-self-2 : goal.invariant_of-self-2
invariant_of-self-2 c =
    let e = c.make_room.ensures in
    let room = c.in_ok-make_room.ensures.room in (
      rw (e.rows, e.holds)
          (keys_grown c.self.inside.rows.items c.self.inside.holds.items (λ q. get bytes_eq c.self.inside.ids q)
          (λ q. get bytes_eq c.make_room.new.salts q) (λ p. get nat_eq c.make_room.new.places p)
          (room_grown c.self.inside.rows.items c.self.inside.holds.items (λ q. get bytes_eq c.self.inside.ids q)
          (λ q. get bytes_eq c.self.inside.salts q) (λ q. get bytes_eq c.make_room.new.salts q) (λ p. get nat_eq c.self.inside.places p)
          (λ p. get nat_eq c.make_room.new.places p) c.self.invariant.0 (λ q. ap (lookup (bytes_eq q)) e.salts) (λ p. ap (lookup (nat_eq p)) e.places))
          (λ q. get bytes_eq c.add_all.new.ids q) c.add_all.ensures.grows),
      grind (arith, common_steps),
      grind (arith, common_steps),
      grind (arith, common_steps),
      grind (arith, common_steps),
      rw e.holds (c.self.invariant.5 ∙ sym e.hold_len),
      grind (arith, common_steps),
    )

pub returns-clause-ready : goal.returns-clause-ready
returns-clause-ready c = λ q h.
    there_ready c.add_all.new.ids q (c.add_all.ensures.grows.kept q (ready_there c.self.inside.ids q (rw (← c.self.view_is) at h)))

pub returns-clause-known : goal.returns-clause-known
returns-clause-known c =
    on_ok_weaker c.add_all.result
    (All-weaker (λ (k : Known). IsSome (get bytes_eq c.add_all.new.ids k.id)) (λ (k : Known). is_ready (keys c.add_all.new.ids) k.id ≡ true)
    (λ k h. there_ready c.add_all.new.ids k.id h) c.args.known.now)
    c.add_all.ensures.known

pub returns-clause-ids : goal.returns-clause-ids
returns-clause-ids c =
    on_ok_weaker c.add_all.result
    (All-weaker (λ (h : Hash). IsSome (get bytes_eq c.add_all.new.ids h)) (λ (h : Hash). is_ready (keys c.add_all.new.ids) h ≡ true)
    (λ h there. there_ready c.add_all.new.ids h there) c.args.holds.now)
    c.add_all.ensures.hashes
