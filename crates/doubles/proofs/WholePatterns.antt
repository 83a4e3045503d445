-- From 2 ^ 52 up and below 2 ^ 53 a double is a whole number, which its bit pattern shows. Assumes nothing.
use Rattle.std.proofs.Common.{◌≡◌, ℕ, ◌+◌, ◌*◌, ◌^◌, ◌<◌, Bool, false, not, T, sym, ap, ◌∙◌, subst, mul-one, arith, lit<, pow_pos}
use lib.Ieee.{Float, binary64, fits, is_nan, of_bits, to_bits}
use lib.Ieee.Back.{whole_unique}
use lib.Ieee.Bits.{of_bits-fits, to_bits-of_bits, nan_bits_is}
use lib.Ieee.Exact.{HasValue}
use Rattle.doubles.proofs.Fractions.{rescale}
use Rattle.doubles.proofs.PowersOfTwo.{normal_value, not_nan}

-- a pattern with the exponent's field 1075 and the digits j is 2 ^ 52 + j
pattern_value : (j : ℕ) → j < 2 ^ 52 → HasValue (of_bits binary64 (1075 * 2 ^ 52 + j)) false (2 ^ 52 + j) 1
pattern_value j h =
    rescale (of_bits binary64 (1075 * 2 ^ 52 + j)) false ((2 ^ 52 + j) * 2 ^ 1074) (2 ^ 1074) (2 ^ 52 + j) 1 (pow_pos 1074) (sym (mul-one ((2 ^ 52 + j) * 2 ^ 1074)))
    (normal_value 1074 j (lit< tt) h)

-- so a value that is 2 ^ 52 + j has that pattern
pub whole_bits : (y : Float) (j : ℕ) → j < 2 ^ 52 → T (fits binary64 y) → HasValue y false (2 ^ 52 + j) 1 → (to_bits binary64 y ≡ 1075 * 2 ^ 52 + j) × T (not (is_nan y))
whole_bits y j h F v =
    let b = 1075 * 2 ^ 52 + j in
    let w = pattern_value j h in
    let e = whole_unique binary64 y (of_bits binary64 b) false (2 ^ 52 + j) F (of_bits-fits binary64 b) v w in
    let n : T (not (is_nan (of_bits binary64 b))) = subst (λ (z : Bool). T (not z)) (nan_bits_is binary64 b) (not_nan b (2 ^ 52 + j) 1 w) in
    (ap (to_bits binary64) e ∙ to_bits-of_bits binary64 b (omega arith) n, subst (λ (z : Float). T (not (is_nan z))) (sym e) n)
