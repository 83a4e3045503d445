-- Knots that rise, by a test that computes. Definitions only; no reader of document 01 needs them.
use Rattle.std.specs.Prelude.{Bool, false, not, ◌&&◌, List, [], ◌∷◌, Float}
use Rattle.std.specs.Float.{nan, inf, fin, binary64}
use Rattle.std.specs.Float.Ieee.{lt, fits}
use Rattle.doubles.specs.Arithmetic.{◌⊖◌, zero64}

-- finite, with no minus sign
abbrev pub is_plain : Float → Bool
is_plain nan = false
is_plain (inf s) = false
is_plain (fin s m e) = not s

abbrev pub is_knot : Float → Bool
is_knot x = is_plain x && fits binary64 x

-- y is above x, also by their difference
abbrev pub is_above : Float → Float → Bool
is_above y x = lt x y && lt zero64 (y ⊖ x)

-- x and those after it are knots, each above the one before it
abbrev pub rise_from : Float → List Float → Bool
rise_from x [] = is_knot x
rise_from x (y ∷ ys) = is_knot x && (is_above y x && rise_from y ys)

abbrev pub are_rising : List Float → Bool
are_rising [] = false
are_rising (x ∷ xs) = rise_from x xs
