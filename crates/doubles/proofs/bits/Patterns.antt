-- Which values and patterns are NaN, as the code tests it. Assumes nothing.
use Rattle.std.proofs.Common.{◌≡◌, ℕ, ◌%◌, ◌^◌, ◌<◌, T, sym, refl, ap, ◌∙◌, subst, lt→ltb}
use lib.Ieee.{Float, nan, inf, fin, binary64, is_nan, of_bits, to_bits}
use lib.Ieee.Bits.{nan_bits_is, nan_bits_above}

-- ---- NaN
pub is_nan_lem : (x : Float) → T (is_nan x) → x ≡ nan
unfolding is_nan
is_nan_lem nan t = refl
is_nan_lem (inf s) t = absurd t
is_nan_lem (fin s m e) t = absurd t

nan_pattern : to_bits binary64 nan ≡ 0x7ff8_0000_0000_0000
unfolding to_bits
nan_pattern = refl

pub pattern_of_nan : (x : Float) → T (is_nan x) → 0x7ff8_0000_0000_0000 ≡ to_bits binary64 x
pattern_of_nan x t = sym (ap (to_bits binary64) (is_nan_lem x t) ∙ nan_pattern)

-- ---- the pattern less its sign, against that of the infinity
pub above_nan : (b : ℕ) → 0x7ff0_0000_0000_0000 < b % 2 ^ 63 → of_bits binary64 b ≡ nan
above_nan b h = is_nan_lem (of_bits binary64 b) (subst T (nan_bits_is binary64 b) (subst T (sym (nan_bits_above binary64 b)) (lt→ltb 0x7ff0_0000_0000_0000 (b % 2 ^ 63) h)))

-- 0 / 0
pub nan_is : of_bits binary64 0x7ff8_0000_0000_0000 ≡ nan
unfolding of_bits
nan_is = refl
