-- C(b) and S(b) for a double b up to 51/64 that is within 4 eighths of an exact p / scale: within 48 and 51 eighths of the sums of 13 terms at p / scale. Assumes nothing.
use mathlib.Core.Path.{◌≡◌, refl, subst}
use Prim.Native.Nat.{ℕ, ◌+◌, ◌*◌, ◌^◌, ◌≤◌, ◌<◌}
use native.Mathlib.Nat.{le_trans, le_of_lt, mul-le-mul}
use native.Mathlib.Omega.{arith}
use mathlib.Core.Bool.{true, false}
use mathlib.Core.List.{List, [], ◌∷◌, ◌++◌}
use lib.Dec.{T, lit≤}
use lib.Pow.{pow_pos}
use lib.ListN.{drop}
use lib.Ieee.{Float, binary64, fits, round, div, of_int}
use lib.Ieee.Scale.{finite}
use Rattle.doubles.specs.Arithmetic.{◌⊗◌, one64}
use Rattle.doubles.specs.Distance.{Apart}
use Rattle.doubles.proofs.Magnitude.{mag, plain, plain_finite}
use Rattle.doubles.proofs.Order.{mag_mono}
use Rattle.doubles.proofs.Interpolation.{one_fits}
use Rattle.doubles.proofs.Differences.{UpTo, mul_up_to}
use Rattle.approximations.specs.Circular.{inverse, series, odd_factorials, even_factorials, sine_series, cosine_series}
use Rattle.approximations.proofs.SeriesBounds.{odd_falling, even_falling, largest_argument, largest_fits, to_one, series_to_one}
use Rattle.circular_law.specs.Law.{factorial}
use Rattle.circular_law.proofs.Steps.{Near, square, lead}
use Rattle.circular_law.proofs.Alternating.{side}
use Rattle.circular_law.proofs.FloatSteps.{product_one}
use Rattle.circular_law.proofs.Series.{scale, eighth, size_is, quotients, near_series, odd_tested, even_tested}

-- ---- the coefficients 25! / k! for k = 1, 3 to 25, and 24! / k! for k = 0, 2 to 24
abbrev pub odd_quotients : List ℕ
odd_quotients = quotients (factorial 25) (odd_factorials ++ factorial 17 ∷ factorial 19 ∷ factorial 21 ∷ factorial 23 ∷ factorial 25 ∷ [])

abbrev pub even_quotients : List ℕ
even_quotients = quotients (factorial 24) (even_factorials ++ factorial 18 ∷ factorial 20 ∷ factorial 22 ∷ factorial 24 ∷ [])

-- ---- R / scale is within E / scale of the 13 terms of sine's series, or of cosine's, at p / scale
abbrev pub NearSine : ℕ → ℕ → ℕ → Type 0
NearSine R p E = Near scale R (p * side true (p * p) (scale * scale) odd_quotients) (p * side false (p * p) (scale * scale) odd_quotients) (scale * (factorial 25 * (scale * scale) ^ 12)) E

abbrev pub NearCosine : ℕ → ℕ → ℕ → Type 0
NearCosine R p E = Near scale R (side true (p * p) (scale * scale) even_quotients) (side false (p * p) (scale * scale) even_quotients) (factorial 24 * (scale * scale) ^ 12) E

-- ---- sizes
pub scale_some : 0 < scale
unfolding scale
scale_some = pow_pos 1074

pub largest_size : 5 * mag binary64 largest_argument ≤ 4 * scale
unfolding scale
largest_size = lit≤ tt

first_size : mag binary64 (inverse 1) ≤ scale
unfolding scale div of_int round
first_size = lit≤ tt

one_size : mag binary64 one64 ≤ scale
unfolding scale
one_size = lit≤ tt

pub four_fifths : (x z w : ℕ) → 5 * z ≤ 4 * w → x ≤ z → 5 * x ≤ 4 * w
four_fifths x z w a b = omega arith

pub below : (x w : ℕ) → 0 < w → 5 * x ≤ 4 * w → x < w
below x w W a = omega arith

pub up_to_size : (b : Float) → UpTo binary64 largest_argument b → 5 * mag binary64 b ≤ 4 * scale
up_to_size b ub = four_fifths (mag binary64 b) (mag binary64 largest_argument) scale largest_size (mag_mono binary64 b largest_argument ub.0 largest_fits ub.1 tt ub.2)

squared : (p w : ℕ) → 5 * p ≤ 4 * w → 25 * (p * p) ≤ 16 * (w * w)
squared p w a = let b = mul-le-mul a a in omega arith

on_doubles : (x y : Float) → T (fits binary64 x) → T (fits binary64 y) → T (plain x) → T (plain y) → T (finite (x ⊗ y)) → mag binary64 x < scale → mag binary64 y ≤ scale
    → Apart (mag binary64 (x ⊗ y) * scale) (mag binary64 x * mag binary64 y) (4 * eighth * scale)
unfolding scale
on_doubles = product_one binary64 1020 eighth size_is refl

twelve : (z : ℕ) → 4 * z + 2 * (4 * z) ≡ 12 * z
twelve z = omega arith

fifty_one : (z : ℕ) → 5 * (4 * z + 4 * z) + 4 * (53 * z) ≤ 5 * (51 * z)
fifty_one z = omega arith

module _ (b : Float) (p : ℕ) (ub : UpTo binary64 largest_argument b) (near : Apart (mag binary64 b) p (4 * eighth)) (small : 5 * p ≤ 4 * scale) where
  square_up_to : UpTo binary64 largest_argument (b ⊗ b)
  square_up_to = mul_up_to binary64 largest_argument b b largest_fits tt (to_one b ub) ub

  b_below : mag binary64 b < scale
  b_below = below (mag binary64 b) scale scale_some (up_to_size b ub)

  square_below : mag binary64 (b ⊗ b) < scale
  square_below = below (mag binary64 (b ⊗ b)) scale scale_some (up_to_size (b ⊗ b) square_up_to)

  square_near : Apart (mag binary64 (b ⊗ b) * (scale * scale)) (p * p * scale) (12 * eighth * (scale * scale))
  square_near =
      subst (λ (z : ℕ). Apart (mag binary64 (b ⊗ b) * (scale * scale)) (p * p * scale) (z * (scale * scale))) (twelve eighth)
      (square scale (mag binary64 b) p (mag binary64 (b ⊗ b)) (4 * eighth) (4 * eighth) near (up_to_size b ub) small
      (on_doubles b b ub.0 ub.0 ub.1 ub.1 (plain_finite (b ⊗ b) square_up_to.1) b_below (le_of_lt b_below)))

  pub near_cosine : NearCosine (mag binary64 (cosine_series b)) p (48 * eighth)
  unfolding cosine_series
  near_cosine =
      near_series (b ⊗ b) (p * p) (scale * scale) (to_one (b ⊗ b) square_up_to) square_below square_near (squared p scale small) (factorial 24) 9 1 (drop 1 even_factorials)
      (factorial 18) (factorial 20 ∷ factorial 22 ∷ factorial 24 ∷ []) even_falling even_tested first_size

  -- the series over the odd factorials, before its leading factor
  near_inner : Near scale (mag binary64 (series (b ⊗ b) odd_factorials)) (side true (p * p) (scale * scale) odd_quotients) (side false (p * p) (scale * scale) odd_quotients) (factorial 25 * (scale * scale) ^ 12) (53 * eighth)
  near_inner =
      near_series (b ⊗ b) (p * p) (scale * scale) (to_one (b ⊗ b) square_up_to) square_below square_near (squared p scale small) (factorial 25) 132 1 (drop 1 odd_factorials)
      (factorial 17) (factorial 19 ∷ factorial 21 ∷ factorial 23 ∷ factorial 25 ∷ []) odd_falling odd_tested first_size

  pub near_sine : NearSine (mag binary64 (sine_series b)) p (51 * eighth)
  unfolding sine_series
  near_sine =
      let f = binary64 in
      let r = series (b ⊗ b) odd_factorials in
      let v = series_to_one (drop 1 odd_factorials) b odd_falling (to_one b ub) in
      let z = mul_up_to f one64 b r (one_fits f) tt (to_one b ub) v in
      let m = le_trans (mag_mono f r one64 v.0 (one_fits f) v.1 tt v.2) one_size in
      lead scale (mag f b) p (mag f r) (mag f (b ⊗ r)) (side true (p * p) (scale * scale) odd_quotients) (side false (p * p) (scale * scale) odd_quotients) (factorial 25 * (scale * scale) ^ 12) (4 * eighth) (4 * eighth) (53 * eighth) (51 * eighth) near small m
      (on_doubles b r ub.0 v.0 ub.1 v.1 (plain_finite (b ⊗ r) z.1) b_below m) near_inner (fifty_one eighth)
