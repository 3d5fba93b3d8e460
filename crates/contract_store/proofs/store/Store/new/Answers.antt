use Rattle.std.proofs.Common.{ap, arith, nat_eq}
use Rattle.std.specs.Str.{bytes_eq}
use Rattle.std.specs.Map.{lookup}
use Rattle.std.proofs.lemmas.Grind.{common_steps}
use Rattle.indexmap.specs.IndexMap.{get}
use Rattle.contract_store.proofs.StoreSteps.{empty_leads}
use Rattle.contract_store.proofs.store.Store.new.Goals as goal

pub invariant_of-result : goal.invariant_of-result
invariant_of-result c =
    rw (c.new.ensures.items, c.new-2.ensures.items) (
      empty_leads (λ q. get bytes_eq c.new-3.result q) (λ q. get bytes_eq c.new-4.result q) (λ p. get nat_eq c.new-5.result p)
          (λ q. ap (lookup (bytes_eq q)) c.new-3.ensures.empty) (λ q. ap (lookup (bytes_eq q)) c.new-4.ensures.empty)
          (λ p. ap (lookup (nat_eq p)) c.new-5.ensures.empty),
      grind (arith, common_steps),
      grind (arith, common_steps),
      grind (arith, common_steps),
      grind (arith, common_steps),
      grind (arith, common_steps),
      grind (arith, common_steps),
    )
