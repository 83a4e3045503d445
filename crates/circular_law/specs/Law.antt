-- The law of sine and cosine: from 0 to H they lie within 1 / 2 ^ 50 of the first 13 terms of their series, taken as a fraction of whole numbers. `CircularLaw` is the interface; the others are its words. Definitions only.
use Rattle.std.specs.Prelude.{ℕ, zero, suc, ◌+◌, ◌-◌, ◌*◌, ◌/◌, ◌^◌, List, [], ◌∷◌, T, Float}
use Rattle.std.specs.Float.{binary64}
use Rattle.std.specs.Float.Ieee.{le, fits}
use Rattle.std.specs.Float.Ieee.Positive.{num, den}
use Rattle.std.specs.Float.Ieee.Scale.{finite}
use Rattle.doubles.specs.Arithmetic as doubles
use Rattle.doubles.specs.Distance.{Apart}
use Rattle.approximations.specs.Circular.{H, sine_of, cosine_of}

-- n!
abbrev pub factorial : ℕ → ℕ
factorial zero = 1
factorial (suc n) = suc n * factorial n

-- The terms x ^ e / e! at x = p / q, one for each exponent e of a list, added up and taken n! * q ^ n times. With exponents up to n each is a whole number: n! / e! is one, and so is x ^ e * q ^ n = p ^ e * q ^ (n - e).
abbrev pub terms : ℕ → ℕ → ℕ → List ℕ → ℕ
terms n p q [] = 0
terms n p q (e ∷ es) = factorial n / factorial e * p ^ e * q ^ (n - e) + terms n p q es

-- 2 ^ 50: the distance allowed is 1 / parts
abbrev pub parts : ℕ
parts = 2 ^ 50

-- r / d lies within 1 / parts of (plus - minus) / whole; all is taken d * whole * parts times
abbrev pub Within : ℕ → ℕ → ℕ → ℕ → ℕ → Type 0
Within r d plus minus whole = Apart ((r * whole + minus * d) * parts) (plus * d * parts) (d * whole)

-- the double r, which is num r / den r, is finite, not negative, and within 1 / parts of (plus - minus) / whole
abbrev pub Close : Float → ℕ → ℕ → ℕ → Type 0
Close r plus minus whole = T (finite r) × T (le doubles.zero64 r) × Within (num r) (den r) plus minus whole

-- the first 13 terms of sine's series at x = p / q: x - x ^ 3 / 3! + x ^ 5 / 5! - .. + x ^ 25 / 25!
abbrev pub CloseToSine : Float → ℕ → ℕ → Type 0
CloseToSine r p q = Close r (terms 25 p q (1 ∷ 5 ∷ 9 ∷ 13 ∷ 17 ∷ 21 ∷ 25 ∷ [])) (terms 25 p q (3 ∷ 7 ∷ 11 ∷ 15 ∷ 19 ∷ 23 ∷ [])) (factorial 25 * q ^ 25)

-- the first 13 terms of cosine's: 1 - x ^ 2 / 2! + x ^ 4 / 4! - .. + x ^ 24 / 24!
abbrev pub CloseToCosine : Float → ℕ → ℕ → Type 0
CloseToCosine r p q = Close r (terms 24 p q (0 ∷ 4 ∷ 8 ∷ 12 ∷ 16 ∷ 20 ∷ 24 ∷ [])) (terms 24 p q (2 ∷ 6 ∷ 10 ∷ 14 ∷ 18 ∷ 22 ∷ [])) (factorial 24 * q ^ 24)

-- for every double a from 0 to H, -0 included, which is num a / den a
abbrev pub CircularLaw : Type 0
CircularLaw = (a : Float) → T (fits binary64 a) → T (le doubles.zero64 a) → T (le a H) → CloseToSine (sine_of a) (num a) (den a) × CloseToCosine (cosine_of a) (num a) (den a)
