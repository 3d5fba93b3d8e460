use Rattle.std.proofs.Common.{arith}
use Rattle.contract_store.proofs.store.Store.kept_holds.Goals as goal

pub returns-clause-few : goal.returns-clause-few
returns-clause-few c =
    let count = c.self.invariant.5 in
    let few = c.self.invariant.6 in
    rw (← c.self.view_is) (omega arith)
