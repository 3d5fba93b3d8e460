-- Tables of tests.
use Rattle.std.proofs.Common.{◌≡◌, Bool, true, false, refl}
use Rattle.std.specs.Prelude.{◌&&◌, ◌||◌}

pub and_false : (b : Bool) → (b && false) ≡ false
and_false true = refl
and_false false = refl

pub and_true : (b : Bool) → (b && true) ≡ b
and_true true = refl
and_true false = refl

-- one that is out, before the others that aren't
pub out_first : (a b : Bool) → (a || (b && true)) ≡ ((a || b) && true)
out_first true b = refl
out_first false b = refl
