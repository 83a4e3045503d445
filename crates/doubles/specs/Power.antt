-- Powers of two and the floor of the logarithm to the base two. Definitions only.
use Rattle.std.specs.Prelude.{zero, suc, ◌-◌, false, ℤ, pos, ◌+ℤ◌, Float}
use Rattle.std.specs.Float.{nan, inf, fin, Format}
use Rattle.std.specs.Float.Ieee.{up, down, size, round}

-- 2 ^ z to the nearest value: itself from the least value's to the greatest's exponent, 0 below and an infinity above.
unfoldable pub pow2_of : Format → ℤ → Float
unfolding round
pow2_of f z = round f false (up z) (down z)

-- The z with 2 ^ z ≤ |x| < 2 ^ (z + 1), and 0 where there is none.
unfoldable pub floor_log2 : Float → ℤ
unfolding size
floor_log2 nan = pos 0
floor_log2 (inf s) = pos 0
floor_log2 (fin s zero e) = pos 0
floor_log2 (fin s (suc m) e) = pos (size (suc m) - 1) +ℤ e
