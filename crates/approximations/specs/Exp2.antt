-- `approx_exp2`: the coefficients and the order of operations of extent.rs. Definitions only.
use Rattle.std.specs.Prelude.{◌≡◌, Bool, cond, ◌||◌, T, ℤ, pos, negsuc, int_le, Float}
use Rattle.std.specs.Float.{binary64}
use Rattle.std.specs.Float.Ieee.{lt, to_signed}
use Rattle.std.specs.Float.Ieee.Scale.{finite}
use Rattle.doubles.specs.Arithmetic.{◌⊕◌, ◌⊖◌, ◌⊗◌, dec, from_int, zero64, one64}
use Rattle.doubles.specs.Floor.{floor_of}
use Rattle.doubles.specs.Power.{pow2_of}

-- ---- 2 ^ v, with n the floor of v
abbrev pub polynomial_of : Float → Float
polynomial_of f = one64 ⊕ dec 686279297 9 ⊗ f ⊕ dec 254821777 9 ⊗ f ⊗ f ⊕ dec 588989258 10 ⊗ f ⊗ f ⊗ f

-- n is below -2 ^ 31, or above 2 ^ 31 - 1
abbrev pub outside32 : Float → Bool
outside32 n = lt n (from_int (negsuc 2147483647)) || lt (from_int (pos 2147483647)) n

-- x where it is finite, and 0 where not
abbrev pub finite_or_zero : Float → Float
finite_or_zero x = cond (finite x) x zero64

unfoldable pub exp2_at : Float → Float → Float
unfolding pow2_of
exp2_at v n = cond (outside32 n) zero64 (finite_or_zero (polynomial_of (v ⊖ n) ⊗ pow2_of binary64 (to_signed 31 n)))

unfoldable pub exp2_of : Float → Float
unfolding exp2_at floor_of
exp2_of v = cond (finite v) (exp2_at v (floor_of binary64 v)) zero64

-- ---- what `power_near` requires: n is a whole number from -1022 to 1022
abbrev pub NormalExponent : Float → Type 0
NormalExponent n = (z : ℤ) × (n ≡ from_int z) × T (int_le (negsuc 1021) z) × T (int_le z (pos 1022))
