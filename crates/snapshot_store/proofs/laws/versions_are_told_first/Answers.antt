use Rattle.std.proofs.Common.{◌≡◌, ◌≢◌, ℕ, zero, suc, ◌+◌, ◌-◌, List, [], ◌∷◌, length, Result, Err, refl, ap, arith}
use Rattle.node_state.specs.declared.node_state.NodeState.{NodeState}
use Rattle.snapshot_store.specs.declared.snap_fault.SnapFault.{SnapFault}
use Rattle.snapshot_store.specs.declared.snap_fault.SnapFault.TheVariants.{Bad}
use Rattle.snapshot_store.specs.Reading.{version_at, head_at, state_at}
use Rattle.snapshot_store.specs.Whole.{read_all}
use Rattle.snapshot_store.proofs.laws.versions_are_told_first.Goals as goal

abbrev bad : ℕ → Result NodeState SnapFault
bad at = Err (Bad at)

no_more : (rest : List ℕ) → suc (length rest) - (length rest + 1) ≡ 0
no_more rest = omega arith

other_version : (b : ℕ) (rest : List ℕ) → b ≢ 1 → read_all state_at (b ∷ rest) ≡ bad 0
unfolding version_at head_at state_at
other_version zero rest other = ap bad (no_more rest)
other_version (suc zero) rest other = absurd (other refl)
other_version (suc (suc n)) rest other = ap bad (no_more rest)

nothing : read_all state_at [] ≡ bad 0
unfolding version_at head_at state_at
nothing = refl

pub returns : goal.returns
returns c = record { nothing = nothing; version = other_version }
