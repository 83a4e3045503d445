-- `bracket` and `lookup`: bilinear, radius first. Definitions only.
use Rattle.std.specs.Prelude.{ℕ, zero, suc, ◌+◌, ◌-◌, ◌*◌, cond, List, [], ◌∷◌, ◌++◌, Float, length, get_or}
use Rattle.std.specs.Float.{nan}
use Rattle.std.specs.Float.Ieee.{le}
use Rattle.doubles.specs.Arithmetic.{◌⊕◌, ◌⊖◌, ◌⊗◌, ◌⊘◌, zero64}
use Rattle.field.specs.Knots.{Axis, X, Y, Z, centre_knot, radius_knot}
use Rattle.field.specs.Responses.{count_below}
use Rattle.gains.specs.declared.Bracket.{Bracket}

-- f 0, f 1, .. up to f (n - 1)
abbrev pub tabulate : (ℕ → Float) → ℕ → List Float
tabulate f zero = []
tabulate f (suc n) = tabulate f n ++ (f n ∷ [])

-- a number for each of n channels
abbrev pub channels : ℕ → (ℕ → Float) → List Float
channels n f = tabulate f n

-- the knots of a table
abbrev pub centre_knots : Axis → List Float
centre_knots X = tabulate (centre_knot X) 35
centre_knots Y = tabulate (centre_knot Y) 35
centre_knots Z = tabulate (centre_knot Z) 4

abbrev pub radius_knots : List Float
radius_knots = tabulate radius_knot 20

-- at one knot
abbrev pub at_knot : ℕ → Bracket
at_knot i = record { lower = i; upper = i; t = zero64 }

-- between knot k - 1 and knot k
abbrev pub between_knots : List Float → Float → ℕ → Bracket
between_knots knots v k = let a = get_or knots (k - 1) nan in record { lower = k - 1; upper = k; t = (v ⊖ a) ⊘ (get_or knots k nan ⊖ a) }

-- the end knot at or beyond an end, else the two neighbours
unfoldable pub bracket_of : List Float → Float → Bracket
bracket_of knots v =
    cond (le v (get_or knots 0 nan)) (at_knot 0)
    (cond (le (get_or knots (length knots - 1) nan) v) (at_knot (length knots - 1)) (between_knots knots v (count_below v knots)))

-- a at t = 0 to b at t = 1
abbrev pub mixed : Float → Float → Float → Float
mixed a b t = a ⊕ t ⊗ (b ⊖ a)

-- a table's number between the radius knots of centre knot i; row 20 i + j holds centre i and radius j
abbrev pub at_centre : (ℕ → Float) → Bracket → ℕ → Float
at_centre row r i = mixed (row (i * 20 + r.lower)) (row (i * 20 + r.upper)) r.t

-- radius first, then centre
unfoldable pub lookup_of : (ℕ → Float) → Bracket → Bracket → Float
lookup_of row c r = mixed (at_centre row r c.lower) (at_centre row r c.upper) c.t
