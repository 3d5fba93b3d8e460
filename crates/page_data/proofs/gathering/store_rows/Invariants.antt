use Rattle.std.proofs.Common.{◌≡◌, ◌++◌, drop}
use Rattle.page_data.specs.Knowledge.{store_rows}
use Rattle.page_data.proofs.gathering.store_rows.Given as goal

abbrev pub invariant-rows : goal.invariant-rows
invariant-rows l = l.rows ++ drop l.at (store_rows l.inbox) ≡ store_rows l.inbox
