use Rattle.std.proofs.Common.{nat_eq}
use Rattle.std.specs.Str.{bytes_eq}
use Rattle.std.proofs.lemmas.Result.{on_ok_weaker}
use Rattle.indexmap.specs.IndexMap.{get}
use Rattle.contract_store.proofs.StoreSteps.{ready_there, there_ready, keys_grown}
use Rattle.contract_store.proofs.store.Store.make_ready.Goals as goal

pub invariant_of-self : goal.invariant_of-self
invariant_of-self c =
    let i = c.self.inside in
    let inv = c.self.invariant in (
      keys_grown i.rows.items i.holds.items (λ q. get bytes_eq i.ids q) (λ q. get bytes_eq i.salts q) (λ p. get nat_eq i.places p) inv.0
          (λ q. get bytes_eq c.add_key.new.ids q) c.add_key.ensures.grows,
      inv.1,
      inv.2,
      inv.3,
      inv.4,
      inv.5,
      inv.6,
    )

pub returns-clause-ready : goal.returns-clause-ready
returns-clause-ready c = λ q h.
    there_ready c.add_key.new.ids q (c.add_key.ensures.grows.kept q (ready_there c.self.inside.ids q (rw (← c.self.view_is) at h)))

pub returns-clause-id : goal.returns-clause-id
returns-clause-id c = on_ok_weaker c.add_key.result (there_ready c.add_key.new.ids c.args.id.now) c.add_key.ensures.added
