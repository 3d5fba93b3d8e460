use Rattle.std.proofs.Common.{ℕ, rules}
use Rattle.std.specs.Prelude.{nat_lt}
use Rattle.std.proofs.lemmas.Bool.{ltb-true}
use Rattle.std.proofs.lemmas.List.Sorted.{IsPartitionPoint-from_clause, IsPartitionedBy-ltb}
use Rattle.node_core.proofs.duties.places_below.Goals as goal

pub returns-clause-below : goal.returns-clause-below
returns-clause-below c =
    let point =
    IsPartitionPoint-from_clause (λ (k : ℕ). nat_lt k c.args.place) c.args.owed.now c.partition_point.result c.partition_point.ensures.partitioned
    (IsPartitionedBy-ltb (λ (k : ℕ). k) c.args.owed.now c.args.place c.requires) (λ a r f' k. search rules) in
    λ k d low high. ltb-true _ _ (point.0 k d low high)
