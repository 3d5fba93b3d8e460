-- What clients bring back, and what is left of them.
use Rattle.std.specs.Prelude.{ℕ, List}
use Rattle.node_core.specs.declared.submit_result.SubmitResult.{SubmitResult}
use Rattle.world_model.specs.Messages.{Entry}
use Rattle.log_row.specs.LogPrefix.{RowName}
use Rattle.sync_shared.specs.Slips.{read_to, InRow}
use Rattle.client_threads.specs.declared.served.Served.{Served}
use Rattle.shared_rounds.specs.declared.retired.Retired.{Retired}

-- the entries of the log that a client had seen when it ended
abbrev pub list_seen : {S : Type 0} → Served S → List Entry
list_seen served = (served.client).list

-- the results of a client's submissions when it ended
abbrev pub results_brought : {S : Type 0} → Served S → List SubmitResult
results_brought served = served.results

-- how many tickets a client had been given when it ended, one for each request that it sent
abbrev pub tickets_brought : {S : Type 0} → Served S → ℕ
tickets_brought served = (served.client).tickets

-- the entries of the log that a retired client had seen, as its slip ties them
abbrev pub list_left : Retired → List Entry
list_left retired = read_to retired.last

-- the results of a retired client's submissions
abbrev pub results_left : Retired → List SubmitResult
results_left retired = retired.results

-- the slip that a retired client left is of this history, or it left none
abbrev pub IsLeftIn : RowName → Retired → Type 0
IsLeftIn row retired = InRow row retired.last
