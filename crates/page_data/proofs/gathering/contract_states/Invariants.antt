use Rattle.std.proofs.Common.{◌≡◌, ◌++◌, drop, map}
use Rattle.contract_store.specs.declared.row.StoreRow.{StoreRow}
use Rattle.page_data.specs.Knowledge.{contract_state, contract_states, store_rows}
use Rattle.page_data.proofs.gathering.contract_states.Given as goal

abbrev pub invariant-rows : goal.invariant-rows
invariant-rows l =
    l.states ++ map (λ (row : StoreRow). contract_state l.inbox row.known.id) (drop l.at (store_rows l.inbox)) ≡ contract_states l.inbox
