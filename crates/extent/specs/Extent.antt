-- Reading an extent: document 01, 'Extent'. Definitions only.
use Rattle.std.specs.Prelude.{ℕ, ◌+◌, ◌*◌, ◌/◌, min, Bool, ◌&&◌, cond, List, [], ◌∷◌, pos, Float, get_or, Result}
use Rattle.std.specs.Float.Ieee.{le}
use Rattle.std.specs.Float.Ieee.Nearest.{closest}
use Rattle.std.specs.Float.Ieee.Positive.{num, den}
use Rattle.std.specs.Float.Ieee.Scale.{finite}
use Rattle.doubles.specs.Arithmetic.{◌⊕◌, ◌⊖◌, ◌⊗◌, ◌⊘◌, dec, from_int, zero64, one64}
use Rattle.doubles.specs.Range.{is_between, clamp_to}
use Rattle.layout.specs.Questions.{Question, first_no}
use Rattle.layout.specs.declared.refusal.Refusal.{Refusal}
use Rattle.layout.specs.Refusals.{answer_by}
use Rattle.extent.specs.declared.Extent.{Extent}
use Rattle.extent.specs.declared.Reading.{Reading}
use Rattle.extent.specs.declared.radius.Knot.{Knot}

-- what each component is to be: finite and from 0 to 1
abbrev pub component : Float → Bool
component v = finite v && is_between zero64 one64 v

-- 7. Is the extent's x finite and from 0 to 1?
abbrev pub question7 : Extent → Bool
question7 e = component e.x

-- 18. Is its y finite and from 0 to 1?
abbrev pub question18 : Extent → Bool
question18 e = component e.y

-- 19. Is its z finite and from 0 to 1?
abbrev pub question19 : Extent → Bool
question19 e = component e.z

-- in this order, so that the first component with a no is the one told
unfoldable pub extent_questions : Extent → List Question
extent_questions e =
    record { number = 7; yes = question7 e }
    ∷ record { number = 18; yes = question18 e }
    ∷ record { number = 19; yes = question19 e }
    ∷ []

-- q: the whole number nearest to the exact 32768 × v, a half going to the even one, at most 32767. A component v is the fraction num v / den v; any other double has 0.
unfoldable pub quantised : Float → ℕ
quantised v = cond (component v) (min (closest (32768 * num v) (den v)) 32767) 0

-- the mean in whole numbers
abbrev pub mean_of : Extent → ℕ
mean_of e = (quantised e.x + quantised e.y + quantised e.z) / 3

-- ---- the radius: by five knots
abbrev pub knot : Float → Float → Knot
knot s r = record { scalar = s; radius = r }

abbrev pub first_knot : Knot
first_knot = knot zero64 zero64

abbrev pub later_knots : List Knot
later_knots = knot (dec 2 1) (dec 75 3) ∷ knot (dec 5 1) (dec 25 2) ∷ knot (dec 75 2) (dec 45 2) ∷ knot one64 (dec 7 1) ∷ []

-- the i-th of the five
abbrev pub knot_at : ℕ → Knot
knot_at i = get_or (first_knot ∷ later_knots) i first_knot

-- between two knots
abbrev pub radius_between : Knot → Knot → Float → Float
radius_between a b s = a.radius ⊕ (s ⊖ a.scalar) ⊘ (b.scalar ⊖ a.scalar) ⊗ (b.radius ⊖ a.radius)

-- by the first knot that s does not exceed
abbrev pub radius_from : Knot → List Knot → Float → Float
radius_from a [] s = a.radius
radius_from a (b ∷ bs) s = cond (le s b.scalar) (radius_between a b s) (radius_from b bs s)

unfoldable pub radius_of : Float → Float
unfolding clamp_to
radius_of scalar = let s = clamp_to zero64 one64 scalar in cond (le s first_knot.scalar) first_knot.radius (radius_from first_knot later_knots s)

-- the radius of a mean: scalar = mean / 32768
abbrev pub mean_radius : ℕ → Float
mean_radius m = radius_of (from_int (pos m) ⊘ from_int (pos 32768))

-- ---- what reading an extent answers: the first question with a no, or mean and radius
abbrev pub reading_of : Extent → Reading
reading_of e = record { mean = mean_of e; radius = mean_radius (mean_of e) }

abbrev pub read_of : Extent → Result Reading Refusal
read_of e = answer_by (first_no (extent_questions e)) (reading_of e)
