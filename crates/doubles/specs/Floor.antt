-- Floor. Definitions only.
use Rattle.std.specs.Prelude.{◌+◌, ◌-◌, ◌*◌, ◌/◌, true, false, cond, pos, Float}
use Rattle.std.specs.Float.{nan, inf, fin, Format}
use Rattle.std.specs.Float.Ieee.{up, down, round, lt}
use Rattle.doubles.specs.Arithmetic.{◌⊕◌, ◌⊖◌, one64}

-- Of m * 2 ^ e with a sign: toward zero, and away from it where the number is negative. What is handed to `round` is a whole number of no more digits than m has, so nothing is rounded.
unfoldable pub floor_of : Format → Float → Float
unfolding round
floor_of f nan = nan
floor_of f (inf s) = inf s
floor_of f (fin false m e) = round f false (m * up e / down e) 1
floor_of f (fin true m e) = round f true ((m * up e + (down e - 1)) / down e) 1

-- 1.5 × 2 ^ 52
abbrev pub shift : Float
shift = fin false 3 (pos 51)

-- The sum with 1.5 × 2 ^ 52 less that number, and one less where this is above x. For an x from -2 ^ 51 up and below 2 ^ 51 it is the floor, with -0 as +0.
abbrev pub floor_near : Float → Float
floor_near x = cond (lt x (x ⊕ shift ⊖ shift)) (x ⊕ shift ⊖ shift ⊖ one64) (x ⊕ shift ⊖ shift)
