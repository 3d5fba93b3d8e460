-- What contracts see of a reader or a writer of std that is used as a source or a sink.
use Rattle.std.specs.Prelude.{ℕ}

-- a reader or a writer of std, `inner`, and the count of its faults so far
pub record Counted (A : Type 0) : Type 0 where
  pub inner : A
  pub faults : ℕ
