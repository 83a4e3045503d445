-- The square root to the nearest value. Definitions only.
use Rattle.std.specs.Prelude.{◌≡◌, ℕ, zero, suc, ◌+◌, ◌-◌, ◌*◌, ◌/◌, ◌^◌, ◌<◌, ◌≤◌, true, false, cond, ◌==◌, nat_le, Float}
use Rattle.std.specs.Float.{nan, inf, fin, Format, binary64}
use Rattle.std.specs.Float.Ieee.{low, up, down, size, round, units}

-- The largest q with q * q ≤ n, for an n below 4 ^ k: its last binary digit is 1 where that is not too much, and the others are the root of n / 4.
unfoldable pub root_below : ℕ → ℕ → ℕ
root_below zero n = 0
root_below (suc k) n = let q = root_below k (n / 4) * 2 in cond (nat_le ((q + 1) * (q + 1)) n) (q + 1) q

-- an n of z digits is below 4 ^ z
unfoldable pub isqrt : ℕ → ℕ
unfolding root_below size
isqrt n = root_below (size n) n

-- √(num / den) to the nearest value. h is 2 ^ (low + 1), so every value of the format, and every point halfway between two, is a multiple of 1 / h, and so of 1 / (den * h).
-- q / (den * h) is the root rounded down to such a multiple. Where it is not the root itself, the fraction handed to `round` lies between it and the next, as the root does, and so rounds as the root does.
unfoldable pub round_root : Format → ℕ → ℕ → Float
unfolding round isqrt
round_root f num den =
    let h = 2 ^ suc (low f) in
    let n = num * den * (h * h) in
    let q = isqrt n in
    round f false (2 * q + cond (q * q == n) 0 1) (2 * (den * h))

unfoldable pub sqrt_of : Format → Float → Float
unfolding round_root
sqrt_of f nan = nan
sqrt_of f (inf s) = cond s nan (inf false)
sqrt_of f (fin s zero e) = fin s zero e
sqrt_of f (fin true (suc m) e) = nan
sqrt_of f (fin false (suc m) e) = round_root f (suc m * up e) (down e)

-- ---- the same without an algorithm

-- x in units of the square of the least double, 2 ^ -1074 * 2 ^ -1074. The quotient is exact: a finite double is a whole number of least doubles.
abbrev pub square_units : Float → ℕ
square_units nan = 0
square_units (inf s) = 0
square_units (fin s m e) = m * up e * 2 ^ 1074 / down e * 2 ^ 1074

-- r is √v rounded to the nearest, v being in units of the square of the least double: the exact argument lies between the squares of the two midpoints around the result.
-- r is g * 2 ^ k least doubles. 2 ^ k is the weight of the last of its 53 digits, for √v is from 2 ^ 52 up and below 2 ^ 53 times 2 ^ k. The midpoints are (2 * g - 1) * 2 ^ k / 2 and (2 * g + 1) * 2 ^ k / 2. Each line is squared and taken four times, which leaves whole numbers.
pub record NearRoot (v : ℕ) (r : Float) : Type 0 where
  pub g : ℕ
  pub k : ℕ
  pub is : r ≡ units binary64 false g k
  pub lo : 2 ^ 53 * 2 ^ k * (2 ^ 53 * 2 ^ k) ≤ 4 * v
  pub hi : 4 * v < 2 ^ 54 * 2 ^ k * (2 ^ 54 * 2 ^ k)
  pub under : (2 * g - 1) * 2 ^ k * ((2 * g - 1) * 2 ^ k) < 4 * v
  pub over : 4 * v < (2 * g + 1) * 2 ^ k * ((2 * g + 1) * 2 ^ k)
