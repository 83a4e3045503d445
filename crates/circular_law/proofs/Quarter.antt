-- The sums of 13 terms at A / scale and at p / scale, where A + p is H + L in units: sine's at the one is within 2 eighths of cosine's at the other. By one computation over the coefficients for each of the two. Assumes nothing.
use mathlib.Core.Path.{◌≡◌}
use Prim.Native.Nat.{ℕ, ◌+◌, ◌*◌, ◌/◌, ◌^◌, ◌≤◌}
use native.Mathlib.Omega.{arith}
use mathlib.Core.Bool.{true, false}
use mathlib.Core.List.{◌∷◌}
use lib.Dec.{T, leb, leb→le}
use lib.Ieee.{binary64, round, of_bits}
use Rattle.doubles.specs.Distance.{Apart}
use Rattle.doubles.proofs.Magnitude.{mag}
use Rattle.approximations.specs.Circular.{H, L}
use Rattle.circular_law.specs.Law.{factorial}
use Rattle.circular_law.proofs.Alternating.{side}
use Rattle.circular_law.proofs.Series.{scale, eighth}
use Rattle.circular_law.proofs.AtPoint.{odd_quotients, even_quotients}
use Rattle.circular_law.proofs.Turn.{at, added, taken, Differences, spread, away, turn_at, at_spread}

unfoldable pub quarter : ℕ
quarter = mag binary64 H + mag binary64 L

-- 25! * scale ^ 25 times sine's sum, and cosine's
abbrev sines : ℕ → Differences
sines z = (0, 0) ∷ spread 1 (z * z) true odd_quotients

abbrev cosines : ℕ → Differences
cosines z = spread (25 * z) (z * z) true even_quotients

-- 4/5 in units: what is left of the quarter is up to it
abbrev reach : ℕ
reach = 4 * scale / 5

abbrev two_eighths : ℕ
two_eighths = 2 * eighth * (factorial 25 * (scale * scale) ^ 12)

sine_test : T (leb (away quarter reach (sines scale) (cosines scale)) two_eighths)
unfolding quarter scale eighth round of_bits
sine_test = tt

cosine_test : T (leb (away quarter reach (cosines scale) (sines scale)) two_eighths)
unfolding quarter scale eighth round of_bits
cosine_test = tt

-- ---- what the tests say, for every A and p that make a quarter turn
up_to : (p w : ℕ) → 5 * p ≤ 4 * w → p ≤ 4 * w / 5
up_to p w h = omega arith

first_nothing : (x s : ℕ) → 0 + x * (1 * s) ≡ x * s
first_nothing x s = omega arith

sines_added : (A z : ℕ) → at (added (sines z)) A ≡ A * side true (A * A) (z * z) odd_quotients
sines_added A z = rw (at_spread 1 (z * z) A odd_quotients).up (first_nothing A (side true (A * A) (z * z) odd_quotients))

sines_taken : (A z : ℕ) → at (taken (sines z)) A ≡ A * side false (A * A) (z * z) odd_quotients
sines_taken A z = rw (at_spread 1 (z * z) A odd_quotients).down (first_nothing A (side false (A * A) (z * z) odd_quotients))

cosines_added : (A z : ℕ) → at (added (cosines z)) A ≡ 25 * z * side true (A * A) (z * z) even_quotients
cosines_added A z = (at_spread (25 * z) (z * z) A even_quotients).up

cosines_taken : (A z : ℕ) → at (taken (cosines z)) A ≡ 25 * z * side false (A * A) (z * z) even_quotients
cosines_taken A z = (at_spread (25 * z) (z * z) A even_quotients).down

module _ (A p : ℕ) (turn : A + p ≡ quarter) (small : 5 * p ≤ 4 * scale) where
  pub sine_turn : Apart (A * side true (A * A) (scale * scale) odd_quotients + 25 * scale * side false (p * p) (scale * scale) even_quotients)
      (25 * scale * side true (p * p) (scale * scale) even_quotients + A * side false (A * A) (scale * scale) odd_quotients) two_eighths
  sine_turn =
      turn_at quarter A p reach two_eighths (sines scale) (cosines scale) _ _ _ _ turn (up_to p scale small) (leb→le (away quarter reach (sines scale) (cosines scale)) two_eighths sine_test)
      (sines_added A scale) (cosines_taken p scale) (cosines_added p scale) (sines_taken A scale)

  pub cosine_turn : Apart (25 * scale * side true (A * A) (scale * scale) even_quotients + p * side false (p * p) (scale * scale) odd_quotients)
      (p * side true (p * p) (scale * scale) odd_quotients + 25 * scale * side false (A * A) (scale * scale) even_quotients) two_eighths
  cosine_turn =
      turn_at quarter A p reach two_eighths (cosines scale) (sines scale) _ _ _ _ turn (up_to p scale small) (leb→le (away quarter reach (cosines scale) (sines scale)) two_eighths cosine_test)
      (cosines_added A scale) (sines_taken p scale) (sines_added p scale) (cosines_taken A scale)
