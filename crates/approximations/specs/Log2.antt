-- `approx_log2`: the coefficients and the order of operations of extent.rs. Definitions only.
use Rattle.std.specs.Prelude.{Bool, true, false, cond, ◌&&◌, ℤ, pos, negsuc, ◌+ℤ◌, Float}
use Rattle.std.specs.Float.{inf, fin, binary64}
use Rattle.std.specs.Float.Ieee.{lt, le}
use Rattle.std.specs.Float.Ieee.Scale.{finite}
use Rattle.doubles.specs.Arithmetic.{◌⊕◌, ◌⊖◌, ◌⊗◌, ◌⊘◌, dec, from_int, zero64}
use Rattle.doubles.specs.Power.{pow2_of, floor_log2}

-- by the mantissa m and the exponent e
abbrev pub log2_by : Float → Float → Float
log2_by m e = m ⊗ dec 407934570 8 ⊖ dec 269311523 8 ⊖ m ⊗ m ⊗ dec 138623047 8 ⊕ e

-- The exponent z is one more than the floor of the logarithm, so the mantissa is from 1/2 to 1; but from 2 ^ 1023 up the divisor is infinite, and the mantissa 0.
unfoldable pub log2_at : Float → ℤ → Float
unfolding pow2_of
log2_at v z = log2_by (v ⊘ pow2_of binary64 z) (from_int z)

unfoldable pub log2_of : Float → Float
unfolding log2_at floor_log2
log2_of v = cond (finite v && lt zero64 v) (log2_at v (floor_log2 v +ℤ pos 1)) (inf true)

-- where the mantissa is read off the pattern: from the least normal double, 2 ^ -1022, up, and below 2 ^ 1023
abbrev pub in_normal : Float → Bool
in_normal v = le (fin false 1 (negsuc 1021)) v && lt v (fin false 1 (pos 1023))
