use Rattle.std.proofs.Common.{◌∙◌}
use Rattle.contract_store.proofs.StoreSteps.{held}
use Rattle.contract_store.proofs.store.Store.locked.Goals as goal

pub returns : goal.returns
returns c =
    rw (← c.self.view_is)
    (c.is_some.ensures ∙ held c.args.id.now c.self.inside.holds.items c.hold_behind.result
    (rw c.hold_behind.ensures (c.self.invariant.0.to_holds.on.last c.args.id.now)))
