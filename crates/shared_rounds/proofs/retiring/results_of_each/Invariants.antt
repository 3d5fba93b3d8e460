use Rattle.std.proofs.Common.{◌≡◌, ◌++◌, map}
use Rattle.std.specs.Prelude.{All}
use mathlib.Core.List.{IsPrefix}
use Rattle.shared_rounds.specs.Retired.{results_left, list_left, IsLeftIn}
use Rattle.shared_rounds.proofs.retiring.results_of_each.Given as goal

-- where it holds of those that are left, it holds of all
abbrev pub invariant-retired : goal.invariant-retired
invariant-retired l =
    (l.sequencer ≡ l.fn.sequencer) × (l.queues.items ++ map results_left l.one-iterator.rest.items ≡ map results_left l.fn.retired.items)
    × All (IsLeftIn l.fn.sequencer.row) l.one-iterator.rest.items
    × (All (λ list. IsPrefix list l.fn.sequencer.list) (map list_left l.one-iterator.rest.items)
    → All (λ list. IsPrefix list l.fn.sequencer.list) (map list_left l.fn.retired.items))
