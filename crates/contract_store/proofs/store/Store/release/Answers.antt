use Rattle.std.proofs.Common.{◌∙◌, arith, nat_eq}
use Rattle.std.specs.Str.{bytes_eq}
use Rattle.std.proofs.lemmas.Grind.{common_steps}
use Rattle.indexmap.specs.IndexMap.{get}
use Rattle.contract_store.proofs.StoreSteps.{holds_changed}
use Rattle.contract_store.proofs.store.Store.release.Goals as goal

pub invariant_of-self : goal.invariant_of-self
invariant_of-self c = (
  holds_changed c.self.inside.rows.items c.self.inside.holds.items (λ q. get bytes_eq c.self.inside.ids q) (λ q. get bytes_eq c.self.inside.salts q)
      (λ p. get nat_eq c.self.inside.places p) c.self.invariant.0
      c.drop_released.new.slots.items (λ q. get bytes_eq c.drop_released.new.ids q)
      (λ p. get nat_eq c.drop_released.new.places p) c.drop_released.ensures.leads
      (λ q. c.drop_released.ensures.rows q ∙ c.release_place.ensures.rows q),
  grind (arith, common_steps),
  grind (arith, common_steps),
  grind (arith, common_steps),
  grind (arith, common_steps),
  c.drop_released.ensures.count,
  c.drop_released.ensures.few,
)
