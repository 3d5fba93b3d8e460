-- What a comparison of 32 bytes at once tells.
use Rattle.std.proofs.Common.{◌≡◌, ◌==◌, ℕ, ◌+◌, ◌*◌, ◌^◌, ◌%◌, ◌≤◌, Bool, true, false, cond, List, [], ◌∷◌, length, map, refl, sym, ◌∙◌, ap, arith}
use Rattle.std.specs.Prelude.{◌&&◌, not, nat_eq}
use Rattle.std.specs.Cmp.Lexicographic.{pointwise}
use Rattle.std.proofs.lemmas.Bool.Decides.{nat_tests}
use Rattle.std.proofs.lemmas.Simd.{tops_compared, mask_l-mod}
use lib.Lanes.{mask_l, top, zip2}
use lib.LanesLaws.{length-zip2}
use mir.Syntax.{w8}

abbrev pub differs : ℕ → ℕ → Bool
differs a b = not (nat_eq a b)

doubled : (n : ℕ) → nat_eq (0 + 2 * n) 0 ≡ nat_eq n 0
doubled n = grind (arith, nat_tests)

odd : (n : ℕ) → nat_eq (1 + 2 * n) 0 ≡ false
odd n = grind (arith, nat_tests)

one_pair : (same : Bool) (n : ℕ) (rest : Bool) → nat_eq n 0 ≡ rest → nat_eq (cond (not same) 1 0 + 2 * n) 0 ≡ (same && rest)
one_pair true n rest h = doubled n ∙ h
one_pair false n rest h = odd n

-- no bit is set exactly where no pair differs
no_bit : (xs ys : List ℕ) → length xs ≡ length ys → nat_eq (mask_l (zip2 differs xs ys)) 0 ≡ pointwise ◌==◌ xs ys
no_bit [] [] h = refl
no_bit [] (y ∷ ys) h = absurd (omega (arith, h))
no_bit (x ∷ xs) [] h = absurd (omega (arith, h))
no_bit (x ∷ xs) (y ∷ ys) h = one_pair (nat_eq x y) (mask_l (zip2 differs xs ys)) (pointwise ◌==◌ xs ys) (no_bit xs ys (omega (arith, h)))

pub told_by_mask : (xs ys : List ℕ) → length xs ≡ 32 → length ys ≡ 32
    → nat_eq (mask_l (map (top 7) (zip2 (λ a b. cond (differs a b) 255 0) xs ys)) % 2 ^ 64) 0 ≡ pointwise ◌==◌ xs ys
told_by_mask xs ys hx hy =
    let few : length (zip2 differs xs ys) ≤ 64 = omega (arith, length-zip2 differs xs ys (hx ∙ sym hy), hx) in
    ap (λ n. nat_eq n 0) (ap (λ ms. mask_l ms % 2 ^ 64) (tops_compared w8 differs xs ys) ∙ mask_l-mod (zip2 differs xs ys) 64 few)
    ∙ no_bit xs ys (hx ∙ sym hy)
