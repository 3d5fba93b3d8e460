-- How the run of a generated script ends.
use Rattle.std.proofs.Common.{◌≡◌, ◌≢◌, ◌⊎◌, inl, inr, ℕ, arith}

pub never_six : (s : ℕ) → (s ≡ 0) ⊎ ((s ≡ 5) ⊎ (s ≡ 70)) → s ≢ 6
never_six s (inl is) = omega (arith, is)
never_six s (inr (inl is)) = omega (arith, is)
never_six s (inr (inr is)) = omega (arith, is)
