use Rattle.contract_store.specs.declared.row.StoreRow.{StoreRow}
use Rattle.page_data.specs.Knowledge.{contract_state, contract_states, store_rows}
use Rattle.page_data.proofs.Rows.{made_more}
use Rattle.page_data.proofs.gathering.contract_states.Goals as goal

pub rows-preserved : goal.rows-preserved
rows-preserved c =
    let inbox = c.args.inbox.now in
    made_more (λ (row : StoreRow). contract_state inbox row.known.id) (store_rows inbox) c.rows.at c.rows.states c.put_contract_state.new.states
    (contract_states inbox) c.in_ok-put_contract_state.ensures c.rows.invariant
