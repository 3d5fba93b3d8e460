-- Two spaces for one level, and the rest.
use Rattle.std.proofs.Common.{◌≡◌, ℕ, suc, ◌+◌, ◌-◌, ◌<◌, ◌∷◌, ap, arith}
use Rattle.report_text.specs.Actions.{indent}

pub indent_step : (a b : ℕ) → b < a → indent (a - b) ≡ 32 ∷ 32 ∷ indent (a - (b + 1))
indent_step a b h =
    let next : a - b ≡ suc (a - (b + 1)) = omega arith in
    ap indent next
