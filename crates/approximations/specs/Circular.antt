-- Sine and cosine: document 01's stand-ins, with the complement of request 5. Definitions only.
use Rattle.std.specs.Prelude.{ℕ, ◌^◌, Bool, true, cond, ◌&&◌, List, [], ◌∷◌, pos, from_bits, nat_le, Float}
use Rattle.std.specs.Float.{binary64}
use Rattle.std.specs.Float.Ieee.{le}
use Rattle.doubles.specs.Arithmetic.{◌⊕◌, ◌⊖◌, ◌⊗◌, ◌⊘◌, dec, from_int, zero64, one64}

-- 1!, 3! to 15!
abbrev pub odd_factorials : List ℕ
odd_factorials = 1 ∷ 6 ∷ 120 ∷ 5040 ∷ 362880 ∷ 39916800 ∷ 6227020800 ∷ 1307674368000 ∷ []

-- 0!, 2! to 16!
abbrev pub even_factorials : List ℕ
even_factorials = 1 ∷ 2 ∷ 24 ∷ 720 ∷ 40320 ∷ 3628800 ∷ 479001600 ∷ 87178291200 ∷ 20922789888000 ∷ []

-- c: 1 / k, rounded once
abbrev pub inverse : ℕ → Float
inverse k = one64 ⊘ from_int (pos k)

-- each entry is at most 2 ^ 53, and so a double
abbrev pub exact : List ℕ → Bool
exact [] = true
exact (k ∷ ks) = nat_le k (2 ^ 53) && exact ks

-- c0 - y (c1 - y (c2 ...)), the c being the inverses of a list that is never empty
unfoldable pub series : Float → List ℕ → Float
series y [] = zero64
series y (k ∷ []) = inverse k
series y (k ∷ j ∷ ks) = inverse k ⊖ y ⊗ series y (j ∷ ks)

-- S(b)
unfoldable pub sine_series : Float → Float
unfolding series
sine_series b = b ⊗ series (b ⊗ b) odd_factorials

-- C(b)
unfoldable pub cosine_series : Float → Float
unfolding series
cosine_series b = series (b ⊗ b) even_factorials

-- H: the double PI / 2
abbrev pub H : Float
H = dec 15707963267948966 16

abbrev pub half_h : Float
half_h = H ⊘ from_int (pos 2)

-- L: the double with these bits, the one nearest to pi / 2 - H
abbrev pub L : Float
L = from_bits binary64 0x3c91a62633145c07

-- b, the complement of a: (H - a) + L
abbrev pub complement_of : Float → Float
complement_of a = H ⊖ a ⊕ L

unfoldable pub sine_of : Float → Float
unfolding sine_series cosine_series
sine_of a = cond (le a half_h) (sine_series a) (cosine_series (complement_of a))

unfoldable pub cosine_of : Float → Float
unfolding sine_series cosine_series
cosine_of a = cond (le a half_h) (cosine_series a) (sine_series (complement_of a))
