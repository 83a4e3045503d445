-- The kernel and the shaping: `compact_quartic_kernel`, `shaped` and `shaping_exponent` of extent.rs. Definitions only.
use Rattle.std.specs.Prelude.{Bool, ◌&&◌, ◌||◌, cond, pos, Float}
use Rattle.std.specs.Float.Ieee.{neg, lt, le}
use Rattle.std.specs.Float.Ieee.Scale.{finite}
use Rattle.doubles.specs.Arithmetic.{◌⊖◌, ◌⊗◌, ◌⊘◌, dec, from_int, zero64}
use Rattle.approximations.specs.Circular.{cosine_of}
use Rattle.approximations.specs.Exp2.{exp2_of}
use Rattle.approximations.specs.Log2.{log2_of}

-- below this radius there is no field
abbrev pub threshold : Float
threshold = dec 25 6

-- finite and above 0
abbrev pub positive : Float → Bool
positive x = finite x && lt zero64 x

-- 2 ^ (-16.8172606265625 d⁴), by the approximation and from the left
unfoldable pub quartic_of : Float → Float
unfolding exp2_of
quartic_of d = exp2_of (neg (dec 168172606265625 13) ⊗ d ⊗ d ⊗ d ⊗ d)

-- on Z the height's cosine is a factor
abbrev pub heightened : Bool → Float → Float → Float
heightened z u v = cond z (v ⊗ cosine_of (dec 1365909936 9 ⊗ u)) v

-- d is a quarter of the distance; where it is beyond the radius, either way, the kernel is 0
unfoldable pub kernel_at : Float → Float → Float → Bool → Float
unfolding quartic_of cosine_of
kernel_at u d r z = cond (lt r d || lt r (neg d)) zero64 (let v = quartic_of (d ⊘ r) in cond (positive v) (heightened z u v) zero64)

unfoldable pub kernel_of : Float → Float → Float → Bool → Float
unfolding kernel_at
kernel_of u c r z = cond (lt r threshold) zero64 (kernel_at u ((u ⊖ c) ⊘ from_int (pos 4)) r z)

-- v ^ e by the approximations; 0 where v, or the power, is not above 0 or not finite
unfoldable pub shaped_of : Float → Float → Float
unfolding exp2_of log2_of
shaped_of v e = cond (lt zero64 v) (let r = exp2_of (e ⊗ log2_of v) in cond (positive r) r zero64) zero64

unfoldable pub exponent_of : Float → Float
exponent_of r = cond (le r (dec 125 3)) (from_int (pos 6)) (dec 686956501 8 ⊖ dec 695652199 8 ⊗ r)
