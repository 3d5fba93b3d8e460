-- A name behind others.
use Rattle.std.proofs.Common.{◌≡◌, ◌++◌, ℕ, List, [], ◌∷◌, length, refl, arith}
use Rattle.std.specs.Prelude.{insert}
use Rattle.std.proofs.Math.Seq.{take-length}
use Rattle.std.proofs.Math.ListN.{drop_of_length-le}

pub inserted_last : (names : List (List ℕ)) (name : List ℕ) → insert names (length names) name ≡ names ++ name ∷ []
inserted_last names name = rw (take-length names, drop_of_length-le names {i = length names} (omega arith)) refl
