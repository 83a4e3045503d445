-- The nearest wall, with its distance. Definitions only.
use Rattle.std.specs.Prelude.{Bool, true, false, cond, Float}
use Rattle.std.specs.Float.Ieee.{lt}
use Rattle.doubles.specs.Arithmetic.{◌⊖◌, one64}
use Rattle.layout.specs.declared.Centre.{Centre}
use Rattle.gains.specs.declared.Wall.{Wall}
use Rattle.gains.specs.declared.Wall.TheVariants.{X, Y, Z}

abbrev pub distance_of : Wall → Float
distance_of (X far d) = d
distance_of (Y far d) = d
distance_of (Z d) = d

-- a tie goes to the first
abbrev pub nearer_of : Wall → Wall → Wall
nearer_of a b = cond (lt (distance_of b) (distance_of a)) b a

-- the nearer wall on X, and on Y
abbrev pub wall_x : Float → Wall
wall_x x = nearer_of (X false x) (X true (one64 ⊖ x))

abbrev pub wall_y : Float → Wall
wall_y y = nearer_of (Y false y) (Y true (one64 ⊖ y))

-- x, 1−x, y, 1−y and, with Z, 1−z only
unfoldable pub nearest_wall : Centre → Bool → Wall
nearest_wall c deep = let w = nearer_of (wall_x c.x) (wall_y c.y) in cond deep (nearer_of w (Z (one64 ⊖ c.z))) w
