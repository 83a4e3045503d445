-- The law: up to H / 2 by the series at a itself, and beyond by the other series at the complement of a. Assumes nothing.
use mathlib.Core.Path.{◌≡◌, refl, sym, ap, ◌∙◌, subst}
use Prim.Native.Nat.{ℕ, ◌+◌, ◌-◌, ◌*◌, ◌^◌, ◌≤◌, ◌<◌}
use native.Mathlib.Nat.{le-add_right, mul_comm, mul_right_comm, mul_left_comm, one-le-pow, pow-succ', pow-zero, one-mul}
use native.Mathlib.Omega.{arith}
use mathlib.Core.Bool.{Bool, true, false, not}
use mathlib.Core.List.{List}
use lib.Dec.{T, lit≤}
use lib.Ieee.{Float, nan, inf, fin, binary64, fits, le, round, add, sub, mul, div, sum, neg, of_int}
use lib.Ieee.Positive.{num, den}
use lib.Ieee.Scale.{finite}
use Rattle.doubles.specs.Arithmetic.{◌⊕◌, ◌⊖◌}
use Rattle.doubles.specs.Arithmetic as arithmetic
use Rattle.doubles.specs.Distance.{Apart}
use Rattle.doubles.proofs.Magnitude.{mag, mag_val, plain, plain_finite}
use Rattle.doubles.proofs.Order.{mag_mono}
use Rattle.doubles.proofs.ExactDifferences.{sub_exact}
use Rattle.approximations.specs.Circular.{H, half_h, L, complement_of, series, sine_series, cosine_series, sine_of, cosine_of}
use Rattle.approximations.proofs.Laws.{sine_range, cosine_range}
use Rattle.approximations.proofs.SeriesBounds.{H_fits, H_plain, L_fits, L_plain, largest_argument, H_two_halves, low_up_to, above, difference_up_to, parts_up_to, complement_up_to, to_one, sine_up_to, cosine_up_to, minus_zero, by_halves}
use Rattle.circular_law.specs.Law.{factorial, terms, parts, Within, CircularLaw}
use Rattle.circular_law.proofs.Alternating.{side}
use Rattle.circular_law.proofs.Steps.{Near}
use Rattle.circular_law.proofs.FloatSteps.{sum_one}
use Rattle.circular_law.proofs.Series.{scale, eighth, size_is}
use Rattle.circular_law.proofs.AtPoint.{odd_quotients, even_quotients, NearSine, NearCosine, scale_some, largest_size, four_fifths, below, up_to_size, near_sine, near_cosine}
use Rattle.circular_law.proofs.Quarter.{quarter, sine_turn, cosine_turn}
use Rattle.circular_law.proofs.Terms.{sums, square_pow, terms_same, exponents, up_to}
use Rattle.circular_law.proofs.Fractions.{across, beside, near_same, smaller, within, within_same}

-- ---- a double's size over scale is its own fraction
value : (x : Float) → T (fits binary64 x) → T (finite x) → mag binary64 x * den x ≡ num x * scale
unfolding scale
value nan f t = absurd t
value (inf s) f t = absurd t
value (fin s m e) f t = sym (mag_val binary64 (fin s m e) f t).1

-- ---- from the two sides of a sum at A / q to the definition's sums
pow_one : (q : ℕ) → q ^ 1 ≡ q
pow_one q = pow-succ' q 0 ∙ ap (λ (z : ℕ). q * z) (pow-zero q) ∙ mul_comm q 1 ∙ one-mul q

odd_side : (s : Bool) (A q : ℕ) → A * side s (A * A) (q * q) odd_quotients ≡ terms 25 A q (exponents s 1 13)
odd_side s A q = ap (λ (z : ℕ). z * side s (A * A) (q * q) odd_quotients) (sym (pow_one A)) ∙ sums 25 A q s 1 13 refl

even_side : (s : Bool) (A q : ℕ) → side s (A * A) (q * q) even_quotients ≡ terms 24 A q (exponents s 0 13)
even_side s A q = sym (ap (λ (z : ℕ). z * side s (A * A) (q * q) even_quotients) (pow-zero A) ∙ one-mul (side s (A * A) (q * q) even_quotients)) ∙ sums 24 A q s 0 13 refl

odd_whole : (F q : ℕ) → q * (F * (q * q) ^ 12) ≡ F * q ^ 25
odd_whole F q = mul_left_comm q F ((q * q) ^ 12) ∙ ap (λ (z : ℕ). F * z) (ap (λ (z : ℕ). q * z) (square_pow q 12) ∙ sym (pow-succ' q 24))

even_whole : (F q : ℕ) → F * (q * q) ^ 12 ≡ F * q ^ 24
even_whole F q = ap (λ (z : ℕ). F * z) (square_pow q 12)

-- ---- r is within 1 / parts of the sum at a, by the fractions that the two doubles are
abbrev WithinSums : ℕ → List ℕ → List ℕ → Float → Float → Type 0
WithinSums n es os a r = Within (num r) (den r) (terms n (num a) (den a) es) (terms n (num a) (den a) os) (factorial n * den a ^ n)

abbrev WithinSine : Float → Float → Type 0
WithinSine a r = WithinSums 25 (exponents true 1 13) (exponents false 1 13) a r

abbrev WithinCosine : Float → Float → Type 0
WithinCosine a r = WithinSums 24 (exponents true 0 13) (exponents false 0 13) a r

module _ (a r : Float) (fa : T (fits binary64 a)) (ta : T (finite a)) (fr : T (fits binary64 r)) (tr : T (finite r)) (E : ℕ) (rate : E * parts ≤ scale) where
  by_fractions : (n : ℕ) (es os : List ℕ) → T (up_to n es) → T (up_to n os) → Near scale (mag binary64 r) (terms n (mag binary64 a) scale es) (terms n (mag binary64 a) scale os) (factorial n * scale ^ n) E → WithinSums n es os a r
  by_fractions n es os t o g =
      let A = mag binary64 a in
      let v = value a fa ta in
      let F = factorial n in
      let w = within scale (mag binary64 r) (terms n A scale es) (terms n A scale os) (F * scale ^ n) E (num r) (den r) scale_some (value r fr tr) rate g in
      within_same (num r) (den r) (terms n A scale es) (terms n A scale os) (F * scale ^ n) (terms n (num a) (den a) es) (terms n (num a) (den a) os) (F * den a ^ n) (den a ^ n) (scale ^ n) (one-le-pow n scale scale_some)
      (terms_same n A scale (num a) (den a) es t v) (terms_same n A scale (num a) (den a) os o v) (mul_right_comm F (scale ^ n) (den a ^ n)) w

  to_sine : NearSine (mag binary64 r) (mag binary64 a) E → WithinSine a r
  to_sine g =
      let A = mag binary64 a in
      by_fractions 25 (exponents true 1 13) (exponents false 1 13) tt tt
      (near_same scale (mag binary64 r) (A * side true (A * A) (scale * scale) odd_quotients) (A * side false (A * A) (scale * scale) odd_quotients) (scale * (factorial 25 * (scale * scale) ^ 12)) E _ _ _
      (odd_side true A scale) (odd_side false A scale) (odd_whole (factorial 25) scale) g)

  to_cosine : NearCosine (mag binary64 r) (mag binary64 a) E → WithinCosine a r
  to_cosine g =
      let A = mag binary64 a in
      by_fractions 24 (exponents true 0 13) (exponents false 0 13) tt tt
      (near_same scale (mag binary64 r) (side true (A * A) (scale * scale) even_quotients) (side false (A * A) (scale * scale) even_quotients) (factorial 24 * (scale * scale) ^ 12) E _ _ _
      (even_side true A scale) (even_side false A scale) (even_whole (factorial 24) scale) g)

-- ---- the errors are up to 1 / parts, 64 eighths: those of the two series, and with the 2 of the quarter turn
sine_rate : 51 * eighth * parts ≤ scale
unfolding scale eighth
sine_rate = lit≤ tt

cosine_rate : 48 * eighth * parts ≤ scale
unfolding scale eighth
cosine_rate = lit≤ tt

sine_turn_rate : (51 * eighth + 2 * eighth) * parts ≤ scale
unfolding scale eighth
sine_turn_rate = lit≤ tt

cosine_turn_rate : (48 * eighth + 2 * eighth) * parts ≤ scale
unfolding scale eighth
cosine_turn_rate = lit≤ tt

-- ---- up to H / 2
itself : (z e : ℕ) → Apart z z e
itself z e = (le-add_right z e, le-add_right z e)

module _ (a : Float) (fa : T (fits binary64 a)) (pa : T (plain a)) (l : T (le a half_h)) where
  sine_low : WithinSine a (sine_series a)
  sine_low =
      let ub = low_up_to a fa pa l in
      let r = sine_up_to a (to_one a ub) in
      to_sine a (sine_series a) fa (plain_finite a pa) r.0 (plain_finite (sine_series a) r.1) (51 * eighth) sine_rate (near_sine a (mag binary64 a) ub (itself (mag binary64 a) (4 * eighth)) (up_to_size a ub))

  cosine_low : WithinCosine a (cosine_series a)
  cosine_low =
      let ub = low_up_to a fa pa l in
      let r = cosine_up_to a (to_one a ub) in
      to_cosine a (cosine_series a) fa (plain_finite a pa) r.0 (plain_finite (cosine_series a) r.1) (48 * eighth) cosine_rate (near_cosine a (mag binary64 a) ub (itself (mag binary64 a) (4 * eighth)) (up_to_size a ub))

-- ---- beyond: b = (H - a) + L, where H - a is exact
sum_on_doubles : (x y : Float) → T (fits binary64 x) → T (fits binary64 y) → T (plain x) → T (plain y) → T (finite (x ⊕ y)) → mag binary64 x + mag binary64 y < scale
    → Apart (mag binary64 (x ⊕ y)) (mag binary64 x + mag binary64 y) (4 * eighth)
unfolding scale
sum_on_doubles = sum_one binary64 1020 eighth size_is refl

twice : (x y c : ℕ) → x ≤ c + c → c ≤ y → x ≤ 2 * y
twice x y c m n = omega arith

whole_turn : (x y l : ℕ) → x ≤ y → x + (y - x + l) ≡ y + l
whole_turn x y l m = omega arith

-- cosine's denominator, taken 25 * z times, is sine's
wholes : (z F G W : ℕ) → G ≡ 25 * F → 25 * z * (F * W) ≡ z * (G * W)
wholes z F G W e = rw e (omega arith)

whole_is : (z W : ℕ) → 25 * z * (factorial 24 * W) ≡ z * (factorial 25 * W)
whole_is z W = wholes z (factorial 24) (factorial 25) W refl

some_more : (z : ℕ) → 0 < z → 0 < 25 * z
some_more z k = omega arith

module _ (a : Float) (fa : T (fits binary64 a)) (pa : T (plain a)) (l : T (le a H)) (n : T (not (le a half_h))) where
  abbrev A : ℕ
  A = mag binary64 a

  -- the exact complement of a, of which b is the rounded one
  abbrev p : ℕ
  p = mag binary64 H - A + mag binary64 L

  order : A ≤ mag binary64 H
  order = mag_mono binary64 a H fa H_fits pa H_plain l

  turn : A + p ≡ quarter
  unfolding quarter
  turn = whole_turn A (mag binary64 H) (mag binary64 L) order

  exact : mag binary64 (H ⊖ a) ≡ mag binary64 H - A
  exact = sub_exact binary64 H a H_fits fa H_plain pa order (twice (mag binary64 H) A (mag binary64 half_h) H_two_halves (above a fa pa n))

  small : 5 * p ≤ 4 * scale
  small =
      subst (λ (z : ℕ). 5 * (z + mag binary64 L) ≤ 4 * scale) exact
      (four_fifths (mag binary64 (H ⊖ a) + mag binary64 L) (mag binary64 largest_argument) scale largest_size (parts_up_to a fa pa l n))

  near : Apart (mag binary64 (complement_of a)) p (4 * eighth)
  near =
      let r = difference_up_to a fa pa l n in
      let b = complement_up_to a fa pa l n in
      subst (λ (z : ℕ). Apart (mag binary64 (complement_of a)) (z + mag binary64 L) (4 * eighth)) exact
      (sum_on_doubles (H ⊖ a) L r.0 L_fits r.1 L_plain (plain_finite (complement_of a) b.1) (subst (λ (z : ℕ). z + mag binary64 L < scale) (sym exact) (below p scale scale_some small)))

  sine_high : WithinSine a (cosine_series (complement_of a))
  sine_high =
      let b = complement_of a in
      let ub = complement_up_to a fa pa l n in
      let r = cosine_up_to b (to_one b ub) in
      let W = factorial 25 * (scale * scale) ^ 12 in
      to_sine a (cosine_series b) fa (plain_finite a pa) r.0 (plain_finite (cosine_series b) r.1) (48 * eighth + 2 * eighth) cosine_turn_rate
      (across scale (mag binary64 (cosine_series b)) (side true (p * p) (scale * scale) even_quotients) (side false (p * p) (scale * scale) even_quotients) (factorial 24 * (scale * scale) ^ 12)
      (A * side true (A * A) (scale * scale) odd_quotients) (A * side false (A * A) (scale * scale) odd_quotients) (25 * scale) (48 * eighth) (2 * eighth) W
      (near_cosine b p ub near small) (sine_turn A p turn small) (whole_is scale ((scale * scale) ^ 12)))

  cosine_high : WithinCosine a (sine_series (complement_of a))
  cosine_high =
      let b = complement_of a in
      let ub = complement_up_to a fa pa l n in
      let r = sine_up_to b (to_one b ub) in
      let R = mag binary64 (sine_series b) in
      let c = side true (A * A) (scale * scale) even_quotients in
      let d = side false (A * A) (scale * scale) even_quotients in
      let s = 25 * scale in
      let D = factorial 24 * (scale * scale) ^ 12 in
      let W = factorial 25 * (scale * scale) ^ 12 in
      let E = 51 * eighth + 2 * eighth in
      to_cosine a (sine_series b) fa (plain_finite a pa) r.0 (plain_finite (sine_series b) r.1) E sine_turn_rate
      (smaller scale R c d D s E (some_more scale scale_some)
      (near_same scale R (s * c) (s * d) (scale * W) E (s * c) (s * d) (s * D) refl refl (sym (whole_is scale ((scale * scale) ^ 12)))
      (beside scale R (p * side true (p * p) (scale * scale) odd_quotients) (p * side false (p * p) (scale * scale) odd_quotients) (s * c) (s * d) (51 * eighth) (2 * eighth) W
      (near_sine b p ub near small) (cosine_turn A p turn small))))

-- ---- sine and cosine
sine_minus_zero : WithinSine minus_zero (sine_of minus_zero)
unfolding sine_of sine_series series round div of_int mul sub add sum neg le
sine_minus_zero = (lit≤ tt, lit≤ tt)

cosine_minus_zero : WithinCosine minus_zero (cosine_of minus_zero)
unfolding cosine_of cosine_series series round div of_int mul sub add sum neg le
cosine_minus_zero = (lit≤ tt, lit≤ tt)

sine_within : (a : Float) → T (fits binary64 a) → T (le arithmetic.zero64 a) → T (le a H) → WithinSine a (sine_of a)
unfolding sine_of
sine_within = by_halves sine_series cosine_series WithinSine sine_low sine_high sine_minus_zero

cosine_within : (a : Float) → T (fits binary64 a) → T (le arithmetic.zero64 a) → T (le a H) → WithinCosine a (cosine_of a)
unfolding cosine_of
cosine_within = by_halves cosine_series sine_series WithinCosine cosine_low cosine_high cosine_minus_zero

pub law : CircularLaw
law a f lo hi =
    let s = sine_range a f lo hi in
    let c = cosine_range a f lo hi in
    ((s.0, s.1, sine_within a f lo hi), (c.0, c.1, cosine_within a f lo hi))
