-- The knots and samples of the tables. Definitions only.
use Rattle.std.specs.Prelude.{ℕ, Bool, true, false, pos, Float}
use Rattle.doubles.specs.Arithmetic.{◌⊗◌, ◌⊘◌, dec, from_int}

pub data Axis : Type 0 where
  X Y Z : Axis

abbrev pub is_z : Axis → Bool
is_z X = false
is_z Y = false
is_z Z = true

-- i / n
abbrev pub steps : ℕ → ℕ → Float
steps n i = from_int (pos i) ⊘ from_int (pos n)

-- samples are i / 19 on X and Y, i / 7 on Z
abbrev pub sample_count : Axis → ℕ
sample_count X = 20
sample_count Y = 20
sample_count Z = 8

abbrev pub sample : Axis → ℕ → Float
sample X i = steps 19 i
sample Y i = steps 19 i
sample Z i = steps 7 i

-- centre knots i / 34 and i / 3
abbrev pub centre_knot : Axis → ℕ → Float
centre_knot X i = steps 34 i
centre_knot Y i = steps 34 i
centre_knot Z i = steps 3 i

-- radius knots 0.7 × i / 19
abbrev pub radius_knot : ℕ → Float
radius_knot i = dec 7 1 ⊗ from_int (pos i) ⊘ from_int (pos 19)
