use Rattle.std.proofs.Common.{ℕ, rules, arith}
use Rattle.std.specs.Prelude.{nat_lt}
use Rattle.std.proofs.lemmas.Bool.{ltb-false, ltb-true}
use Rattle.std.proofs.lemmas.List.Sorted.{IsPartitionPoint-from_clause, IsPartitionedBy-ltb}
use Rattle.request_track.proofs.InOrder.{non_decreasing}
use Rattle.request_track.proofs.places.count_below.Goals as goal

pub returns-clause-below : goal.returns-clause-below
returns-clause-below c =
    let point =
    IsPartitionPoint-from_clause (λ (k : ℕ). nat_lt k c.args.place) c.args.places.now c.partition_point.result c.partition_point.ensures.partitioned
    (IsPartitionedBy-ltb (λ (k : ℕ). k) c.args.places.now c.args.place (non_decreasing c.args.places.now c.requires)) (λ a r f' k. search rules) in
    λ k high. ltb-true _ _ (point.0 k 0 (omega arith) high)

pub returns-clause-above : goal.returns-clause-above
returns-clause-above c =
    let point =
    IsPartitionPoint-from_clause (λ (k : ℕ). nat_lt k c.args.place) c.args.places.now c.partition_point.result c.partition_point.ensures.partitioned
    (IsPartitionedBy-ltb (λ (k : ℕ). k) c.args.places.now c.args.place (non_decreasing c.args.places.now c.requires)) (λ a r f' k. search rules) in
    λ k low high. ltb-false _ _ (point.1 k 0 low high)
