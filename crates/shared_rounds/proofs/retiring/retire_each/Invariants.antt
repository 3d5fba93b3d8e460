use Rattle.std.proofs.Common.{◌≡◌, ◌+◌, ◌++◌, length, map}
use Rattle.std.specs.Prelude.{All, sum_by}
use Rattle.shared_rounds.specs.Retired.{list_seen, results_left, list_left, results_brought, tickets_brought, IsLeftIn}
use Rattle.shared_rounds.proofs.retiring.retire_each.Given as goal

-- those that are retired and those that are left are all
abbrev pub invariant-all : goal.invariant-all
invariant-all g l =
    (l.shared.out + length l.fn.all.items ≡ l.fn.shared.out + length l.served-iterator.rest.items)
    × (l.shared.counted + sum_by tickets_brought l.served-iterator.rest.items ≡ l.fn.shared.counted + sum_by tickets_brought l.fn.all.items)
    × (l.shared.round ≡ l.fn.shared.round)
    × (map results_left l.retired.items ++ map results_brought l.served-iterator.rest.items ≡ map results_brought l.fn.all.items)
    × (map list_left l.retired.items ++ map list_seen l.served-iterator.rest.items ≡ map list_seen l.fn.all.items)
    × All (IsLeftIn g.S.Row.history) l.retired.items
