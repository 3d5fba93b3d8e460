use Rattle.std.proofs.Common.{◌≡◌, ◌++◌, drop}
use Rattle.contract_store.specs.Active.{knowns}
use Rattle.node_inbox.proofs.inbox.answers.knowns_of.Given as goal

abbrev pub invariant-loop-row : goal.invariant-loop-row
invariant-loop-row l = l.known ++ knowns (drop l.row-index l.rows) ≡ knowns l.rows
