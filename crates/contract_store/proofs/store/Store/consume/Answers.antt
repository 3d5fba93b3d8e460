use Rattle.std.proofs.Common.{arith, nat_eq}
use Rattle.std.specs.Str.{bytes_eq}
use Rattle.std.proofs.lemmas.Grind.{common_steps}
use Rattle.indexmap.specs.IndexMap.{get}
use Rattle.contract_store.proofs.StoreSteps.{ready_there, rows_changed}
use Rattle.contract_store.proofs.store.Store.consume.Goals as goal

pub consume_row-requires-clause-id : goal.consume_row-requires-clause-id
consume_row-requires-clause-id c = ready_there c.self.inside.ids c.args.known.id (rw (← c.self.view_is) at c.requires.id)

pub invariant_of-self : goal.invariant_of-self
invariant_of-self c =
    let e = c.consume_row.ensures in (
      rows_changed c.self.inside.rows.items c.self.inside.holds.items (λ q. get bytes_eq c.self.inside.ids q)
          (λ q. get bytes_eq c.self.inside.salts q) (λ p. get nat_eq c.self.inside.places p) c.self.invariant.0
          c.consume_row.new.kept.items (λ q. get bytes_eq c.consume_row.new.ids q) (λ q. get bytes_eq c.consume_row.new.salts q) e.leads e.holds,
      grind (arith, common_steps),
      grind (arith, common_steps),
      grind (arith, common_steps),
      grind (arith, common_steps),
      c.self.invariant.5,
      c.self.invariant.6,
    )
