-- What is read of a state's spelling is that state, unless there is want of memory.
use Rattle.std.proofs.Common.{◌≡◌, ℕ, Err, Ok, Result, subst, sym, ◌∙◌}
use Rattle.ledger_terms.specs.Answers.{UnlessMemory}
use Rattle.node_state.specs.declared.node_state.NodeState.{NodeState as State}
use Rattle.snapshot_store.specs.declared.snap_fault.SnapFault.{SnapFault}
use Rattle.snapshot_store.specs.declared.snap_fault.SnapFault.TheVariants.{Bad, Memory}

module _ (read : Result State SnapFault) (state : State) (only : UnlessMemory Memory read (Ok state)) where
  pub same_read : (kept : State) → read ≡ Ok kept → kept ≡ state
  same_read kept is =
      let same : Ok kept ≡ Ok state = sym is ∙ only (λ wanting. let wrong : Ok kept ≡ Err Memory = sym is ∙ wanting in absurd cc) in cc

  bad_never : (at : ℕ) → read ≡ Err (Bad at) → ⊥
  bad_never at is =
      let wrong : Err (Bad at) ≡ Ok state = sym is ∙ only (λ wanting. let other : Err (Bad at) ≡ Err Memory = sym is ∙ wanting in absurd cc) in absurd cc

  pub never_bad : (fault : SnapFault) (at : ℕ) → read ≡ Err fault → fault ≡ Bad at → ⊥
  never_bad fault at is bad = bad_never at (subst (λ (f : SnapFault). read ≡ Err f) bad is)
