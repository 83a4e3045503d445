-- The laws of the approximations that other crates cite, in one place. `clear x`: x is NaN, or its sign is clear, so it is no -0. Assumes nothing.
use Rattle.std.proofs.Common.{◌≡◌, not, T}
use lib.Ieee.{Float, binary64, lt, le, fits}
use lib.Ieee.Scale.{finite}
use Rattle.doubles.specs.Arithmetic.{zero64, one64}
use Rattle.doubles.proofs.Signs.{clear}
use Rattle.approximations.specs.Circular.{H, sine_of, cosine_of}
use Rattle.approximations.specs.Exp2.{exp2_of}
use Rattle.approximations.proofs.SeriesBounds as circular
use Rattle.approximations.proofs.exp2.Sign as exponential

-- ---- sine and cosine

-- of a from 0 to H they are finite and from 0 to 1
pub sine_range : (a : Float) → T (fits binary64 a) → T (le zero64 a) → T (le a H) → T (finite (sine_of a)) × T (le zero64 (sine_of a)) × T (le (sine_of a) one64)
sine_range a h lo hi = circular.sine_range a h lo hi

pub cosine_range : (a : Float) → T (fits binary64 a) → T (le zero64 a) → T (le a H) → T (finite (cosine_of a)) × T (le zero64 (cosine_of a)) × T (le (cosine_of a) one64)
cosine_range a h lo hi = circular.cosine_range a h lo hi

-- ---- `approx_exp2`

-- it is a double, never negative, and always finite
pub exp2_fits : (v : Float) → T (fits binary64 (exp2_of v))
exp2_fits v = exponential.exp2_fits v

pub exp2_clear : (v : Float) → T (fits binary64 v) → T (clear (exp2_of v))
exp2_clear v h = exponential.exp2_clear v h

pub exp2_finite : (v : Float) → T (finite (exp2_of v))
exp2_finite v = exponential.exp2_finite v

-- where it is not above 0, it is 0
pub exp2_zero : (v : Float) → T (fits binary64 v) → T (not (lt zero64 (exp2_of v))) → exp2_of v ≡ zero64
exp2_zero v h l = exponential.exp2_zero v h l
