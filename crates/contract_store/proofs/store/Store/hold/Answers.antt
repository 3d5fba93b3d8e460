use Rattle.std.proofs.Common.{sym, ◌∙◌, arith, nat_eq, ◌<◌}
use Rattle.std.specs.Prelude.{vec_len}
use Rattle.std.specs.Str.{bytes_eq}
use Rattle.std.proofs.lemmas.Grind.{common_steps}
use Rattle.indexmap.specs.IndexMap.{get}
use Rattle.contract_store.proofs.Moves.{one_more_held}
use Rattle.contract_store.proofs.StoreSteps.{ready_there, holds_changed}
use Rattle.contract_store.proofs.store.Store.hold.Goals as goal

pub push_hold-requires-clause-ready : goal.push_hold-requires-clause-ready
push_hold-requires-clause-ready c = ready_there c.self.inside.ids c.args.id (rw (← c.self.view_is) at c.requires.ready)

pub invariant_of-self : goal.invariant_of-self
invariant_of-self c =
    let room : 0 < c.self.inside.room = rw (← c.self.view_is) at c.requires.spare in (
      holds_changed c.self.inside.rows.items c.self.inside.holds.items (λ q. get bytes_eq c.self.inside.ids q)
          (λ q. get bytes_eq c.self.inside.salts q) (λ p. get nat_eq c.self.inside.places p) c.self.invariant.0
          c.push_hold.new.slots.items (λ q. get bytes_eq c.push_hold.new.ids q)
          (λ p. get nat_eq c.push_hold.new.places p) c.push_hold.ensures.leads c.push_hold.ensures.rows,
      grind (arith, common_steps),
      grind (arith, common_steps),
      grind (arith, common_steps),
      grind (arith, common_steps),
      one_more_held c.self.inside.dead (vec_len c.self.inside.holds) _ _ _ c.push_hold.ensures.holds c.self.invariant.5 ∙ sym c.push_hold.ensures.len,
      grind (arith, common_steps),
    )
