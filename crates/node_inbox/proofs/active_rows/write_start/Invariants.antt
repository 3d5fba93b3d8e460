use Rattle.std.proofs.Common.{◌≡◌, drop, map}
use Rattle.contract_store.specs.Written.{written}
use Rattle.inbox_registry.specs.Changes.{creation_of}
use Rattle.node_inbox.proofs.active_rows.write_start.Given as goal

abbrev pub invariant-loop-row : goal.invariant-loop-row
invariant-loop-row l = written (map creation_of (drop l.row-index l.rows)) l.live ≡ written (map creation_of l.fn.rows) l.fn.live
