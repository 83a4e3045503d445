-- (u - a) / (b - a), each operation rounded, for finite a below u and b not below u: it has no sign and is at most 1. Assumes nothing.
use Rattle.std.proofs.Common.{◌≡◌, ℕ, zero, suc, ◌+◌, ◌-◌, ◌*◌, ◌^◌, ◌<◌, ◌≤◌, Bool, true, false, not, T, ltb, ℤ, pos, sym, refl, ap, ◌∙◌, subst, ap₂, true≢false, le_trans, le_of_eq, le_of_lt, mul-le-mul_right, mul_assoc, add-mul, lt_of_mul-lt-mul_right, mul-lt-mul_of_pos_right, mul-pos, one-mul, zero-mul, mul-one, arith, ltb→lt, lt→ltb, pow_pos, ltb-false, ltb-true, lt-ltb}
use lib.Pow.{pow-lt}
use lib.Ieee.{Float, nan, inf, fin, Format, binary32, binary64, prec, emax, low, up, down, round, sum, sub, neg, div, below, lt, le, fits}
use lib.Ieee.Fits.{down_pos, round-fits}
use lib.Ieee.Exact.{HasValue, round_exact}
use lib.Ieee.Order.{le_of_values, round_mono}
use lib.Ieee.Scale.{finite}
use Rattle.doubles.specs.Arithmetic.{one64, minus_one64}
use Rattle.doubles.proofs.Magnitude.{mag, mag_of, mag_val, sign, plain, plain_finite, plain_val, round_at, div_at}
use Rattle.doubles.proofs.Signs.{round_clear}
use Rattle.doubles.proofs.Order.{mag_mono, plain_under, clear_finite, at_least}
use Rattle.doubles.proofs.Fractions.{same_test, add_of, lt_of, sum_scaled, sum_plain, sum_turned}
use Rattle.doubles.proofs.Interpolation.{one_fits, to_one}
use Rattle.doubles.proofs.Differences.{UpTo}

-- ---- a quotient of two rounded fractions over one denominator, the first no more than the second, which is one unit at least
some_digits : (f : Format) → 0 < prec f
some_digits binary32 = omega arith
some_digits binary64 = omega arith

unit_mag : (f : Format) → mag f (round f false 1 (2 ^ low f)) ≡ 1
unit_mag f =
    let l = 2 ^ low f in
    let small : 1 < 2 ^ prec f = pow-lt (some_digits f) in
    let top : 0 < low f + suc (emax f) = omega arith in
    let fine : 1 < 2 ^ (low f + suc (emax f)) = pow-lt top in
    mag_of f (round f false 1 l) false 1 (round_exact f false 1 l 1 0 (pow_pos (low f)) small fine refl)

module _ (f : Format) (d e c : ℕ) (C : 0 < c) (order : d ≤ e) (some : c ≤ e * 2 ^ low f) (t : T (finite (round f false e c))) where
  abbrev x : Float
  x = round f false d c

  abbrev y : Float
  y = round f false e c

  y_plain : T (plain y)
  y_plain = clear_finite y (round_clear f e c) t

  x_order : T (le x y)
  x_order = round_mono f d c e c C C (mul-le-mul_right c order)

  x_plain : T (plain x)
  x_plain = plain_under x y (round_clear f d c) y_plain x_order

  mags : mag f x ≤ mag f y
  mags = mag_mono f x y (round-fits f false d c) (round-fits f false e c) x_plain y_plain x_order

  y_some : 0 < mag f y
  y_some =
      let l = 2 ^ low f in
      let o = round_mono f 1 l e c (pow_pos (low f)) C (le_trans (le_of_eq (one-mul c)) some) in
      let p = plain_under (round f false 1 l) y (round_clear f 1 l) y_plain o in
      le_trans (le_of_eq (sym (unit_mag f))) (mag_mono f (round f false 1 l) y (round-fits f false 1 l) (round-fits f false e c) p y_plain o)

  quotient_up_to : UpTo f one64 (div f x y)
  quotient_up_to =
      let l = 2 ^ low f in
      let L = pow_pos (low f) in
      let q = div_at f x y (mag f x) l (mag f y) l L L y_some (plain_val f x (round-fits f false d c) x_plain) (plain_val f y (round-fits f false e c) y_plain) in
      let r = round f false (mag f x * l) (mag f y * l) in
      let o : T (le r one64) =
      subst (λ (z : Float). T (le r z)) (round_at f one64 false 1 1 (one_fits f) (omega arith) (refl, refl))
      (round_mono f (mag f x * l) (mag f y * l) 1 1 (mul-pos y_some L) (omega arith) (le_trans (le_of_eq (mul-one (mag f x * l))) (le_trans (mul-le-mul_right l mags) (le_of_eq (sym (one-mul (mag f y * l))))))) in
      subst (λ (z : Float). UpTo f one64 z) (sym q) (round-fits f false (mag f x * l) (mag f y * l), plain_under r one64 (round_clear f (mag f x * l) (mag f y * l)) tt o, o)

-- ---- how far ±p is above ±q
abbrev gap : Bool → ℕ → Bool → ℕ → ℕ
gap false p false q = p - q
gap false p true q = p + q
gap true p false q = 0
gap true p true q = q - p

gap_some : (s t : Bool) (p q : ℕ) → below t q s p ≡ true → 0 < gap s p t q
gap_some false false p q h = omega (arith, ltb-true q p h)
gap_some false true p q h = omega (arith, ltb-true 0 (q + p) h)
gap_some true false p q h = absurd (true≢false (sym h))
gap_some true true p q h = omega (arith, ltb-true p q h)

gap_sum : (s t : Bool) (p q : ℕ) → below t q s p ≡ true → (f : Format) (c : ℕ) → sum f s p (not t) q c ≡ round f false (gap s p t q) c
gap_sum false false p q h f c = sum_plain f p q c (omega (arith, ltb-true q p h))
gap_sum false true p q h f c = unfold sum in refl
gap_sum true false p q h f c = absurd (true≢false (sym h))
gap_sum true true p q h f c = sum_turned f p q c (le_of_lt (ltb-true p q h))

-- where ±e is not below ±p
gap_order : (s t r : Bool) (p q e : ℕ) → below t q s p ≡ true → below r e s p ≡ false → gap s p t q ≤ gap r e t q
gap_order false false false p q e h k = omega (arith, ltb-false e p k)
gap_order false true false p q e h k = omega (arith, ltb-false e p k)
gap_order false false true p q e h k = omega (arith, ltb-true q p h, ltb-false 0 (e + p) k)
gap_order false true true p q e h k = omega (arith, ltb-true 0 (q + p) h, ltb-false 0 (e + p) k)
gap_order true false r p q e h k = absurd (true≢false (sym h))
gap_order true true false p q e h k = omega arith
gap_order true true true p q e h k = omega (arith, ltb-false p e k)

below_order : (s t r : Bool) (p q e : ℕ) → below t q s p ≡ true → below r e s p ≡ false → below t q r e ≡ true
below_order false false false p q e h k = let l = ltb-true q p h in let m = ltb-false e p k in lt-ltb q e (omega arith)
below_order false true false p q e h k = let l = ltb-true 0 (q + p) h in let m = ltb-false e p k in lt-ltb 0 (q + e) (omega arith)
below_order false false true p q e h k = let l = ltb-true q p h in let m = ltb-false 0 (e + p) k in absurd (omega arith)
below_order false true true p q e h k = let l = ltb-true 0 (q + p) h in let m = ltb-false 0 (e + p) k in lt-ltb e q (omega arith)
below_order true false r p q e h k = absurd (true≢false (sym h))
below_order true true false p q e h k = let l = ltb-true p q h in lt-ltb 0 (q + e) (omega arith)
below_order true true true p q e h k = let l = ltb-true p q h in let m = ltb-false p e k in lt-ltb e q (omega arith)

-- ---- a difference, by the sizes in units
scaled : (a b l : ℕ) → 0 < l → ltb (a * l) (b * l) ≡ ltb a b
scaled a b l L =
    same_test (ltb (a * l) (b * l)) (ltb a b) (λ (t : T (ltb (a * l) (b * l))). lt→ltb a b (lt_of_mul-lt-mul_right l (ltb→lt (a * l) (b * l) t)))
    (λ (t : T (ltb a b)). lt→ltb (a * l) (b * l) (mul-lt-mul_of_pos_right (ltb→lt a b t) L))

below_units : (s t : Bool) (a b l : ℕ) → 0 < l → below s (a * l) t (b * l) ≡ below s a t b
below_units false false a b l L = scaled a b l L
below_units false true a b l L = refl
below_units true false a b l L = ap₂ ltb (sym (zero-mul l)) (sym (add-mul a b l)) ∙ scaled 0 (a + b) l L
below_units true true a b l L = scaled b a l L

pub neg_value : (x : Float) (s : Bool) (a c : ℕ) → HasValue x s a c → HasValue (neg x) (not s) a c
unfolding neg
neg_value nan s a c v = v
neg_value (inf t) s a c v = v
neg_value (fin t m e) s a c v = (ap not v.0, v.1)

module _ (f : Format) (x y : Float) (h : T (fits f x)) (k : T (fits f y)) (t : T (finite x)) (u : T (finite y)) where
  lt_units : lt x y ≡ below (sign x) (mag f x) (sign y) (mag f y)
  lt_units = let l = 2 ^ low f in lt_of x y (sign x) (mag f x) l (sign y) (mag f y) l (pow_pos (low f)) (pow_pos (low f)) (mag_val f x h t) (mag_val f y k u) ∙ below_units (sign x) (sign y) (mag f x) (mag f y) l (pow_pos (low f))

  sub_units : sub f x y ≡ sum f (sign x) (mag f x) (not (sign y)) (mag f y) (2 ^ low f)
  unfolding sub
  sub_units =
      let l = 2 ^ low f in
      let L = pow_pos (low f) in
      add_of f x (neg y) (sign x) (mag f x) l (not (sign y)) (mag f y) l L L (mag_val f x h t) (neg_value y (sign y) (mag f y) l (mag_val f y k u))
      ∙ sum_scaled f (sign x) (not (sign y)) (mag f x * l) (mag f y * l) (l * l) (mag f x) (mag f y) l (mul-pos L L) L (mul_assoc (mag f x) l l) (mul_assoc (mag f y) l l)

-- ---- the law
module _
    (f : Format)
    (a u b : Float)
    (fa : T (fits f a))
    (fu : T (fits f u))
    (fb : T (fits f b))
    (ta : T (finite a))
    (tu : T (finite u))
    (tb : T (finite b))
    (above : lt a u ≡ true)
    (within : lt b u ≡ false)
  where
    -- a is below b
    pub below_both : lt a b ≡ true
    below_both =
        lt_units f a b fa fb ta tb
        ∙ below_order (sign u) (sign a) (sign b) (mag f u) (mag f a) (mag f b) (sym (lt_units f a u fa fu ta tu) ∙ above) (sym (lt_units f b u fb fu tb tu) ∙ within)

    pub ratio_up_to : T (finite (sub f b a)) → UpTo f one64 (div f (sub f u a) (sub f b a))
    ratio_up_to room =
        let l = 2 ^ low f in
        let L = pow_pos (low f) in
        let lo = sym (lt_units f a u fa fu ta tu) ∙ above in
        let hi = sym (lt_units f b u fb fu tb tu) ∙ within in
        let lohi = sym (lt_units f a b fa fb ta tb) ∙ below_both in
        let d = gap (sign u) (mag f u) (sign a) (mag f a) in
        let e = gap (sign b) (mag f b) (sign a) (mag f a) in
        let x : sub f u a ≡ round f false d l = sub_units f u a fu fa tu ta ∙ gap_sum (sign u) (sign a) (mag f u) (mag f a) lo f l in
        let y : sub f b a ≡ round f false e l = sub_units f b a fb fa tb ta ∙ gap_sum (sign b) (sign a) (mag f b) (mag f a) lohi f l in
        let some : l ≤ e * l = le_trans (le_of_eq (sym (one-mul l))) (mul-le-mul_right l (gap_some (sign b) (sign a) (mag f b) (mag f a) lohi)) in
        rw (x, y) (quotient_up_to f d e l L (gap_order (sign u) (sign a) (sign b) (mag f u) (mag f a) (mag f b) lo hi) some (rw y at room))

-- ---- differences of values from -1 to 1 are finite
unsigned : (f : Format) (m : ℕ) (e : ℤ) → T (fits f (fin true m e)) → T (fits f (fin false m e))
unfolding fits
unsigned f zero e h = h
unsigned f (suc m) e h = h

room_mag : (f : Format) (x : Float) → T (fits f x) → T (le minus_one64 x) → T (le x one64) → mag f x ≤ 2 ^ low f
unfolding le
room_mag f nan h lo hi = absurd lo
room_mag f (inf true) h lo hi = absurd lo
room_mag f (inf false) h lo hi = absurd hi
room_mag f (fin false m e) h lo hi = to_one f (fin false m e) h tt hi
room_mag f (fin true m e) h lo hi =
    to_one f (fin false m e) (unsigned f m e h) tt (le_of_values (fin false m e) one64 (m * up e) (down e) 1 1 (down_pos e) (omega arith) (refl, refl) (refl, refl) (at_least (1 * down e) (m * up e * 1) lo))

gap_most : (s t : Bool) (p q l : ℕ) → p ≤ l → q ≤ l → gap s p t q ≤ 2 * l
gap_most false false p q l h k = omega arith
gap_most false true p q l h k = omega arith
gap_most true false p q l h k = omega arith
gap_most true true p q l h k = omega arith

two : Float
two = fin false 1 (pos 1)

two_fits : (f : Format) → T (fits f two)
unfolding two fits
two_fits binary32 = tt
two_fits binary64 = tt

module _
    (f : Format)
    (a b : Float)
    (fa : T (fits f a))
    (fb : T (fits f b))
    (lo-a : T (le minus_one64 a))
    (hi-a : T (le a one64))
    (lo-b : T (le minus_one64 b))
    (hi-b : T (le b one64))
    (ta : T (finite a))
    (tb : T (finite b))
    (order : lt a b ≡ true)
  where
    pub difference_finite : T (finite (sub f b a))
    unfolding two
    difference_finite =
        let l = 2 ^ low f in
        let L = pow_pos (low f) in
        let e = gap (sign b) (mag f b) (sign a) (mag f a) in
        let most = gap_most (sign b) (sign a) (mag f b) (mag f a) l (room_mag f b fb lo-b hi-b) (room_mag f a fa lo-a hi-a) in
        let y : sub f b a ≡ round f false e l = sub_units f b a fb fa tb ta ∙ gap_sum (sign b) (sign a) (mag f b) (mag f a) (sym (lt_units f a b fa fb ta tb) ∙ order) f l in
        let o : T (le (round f false e l) two) =
        subst (λ (z : Float). T (le (round f false e l) z)) (round_at f two false 2 1 (two_fits f) (omega arith) (refl, refl)) (round_mono f e l 2 1 L (omega arith) (le_trans (le_of_eq (mul-one e)) most)) in
        rw y (plain_finite (round f false e l) (plain_under (round f false e l) two (round_clear f e l) tt o))

-- ---- and so for a and b from -1 to 1
pub ratio_in_room : (f : Format) (a u b : Float) → T (fits f a) → T (fits f u) → T (fits f b) → T (finite a) → T (finite u) → T (finite b) → T (le minus_one64 a) → T (le a one64) → T (le minus_one64 b) → T (le b one64) →
    lt a u ≡ true → lt b u ≡ false → UpTo f one64 (div f (sub f u a) (sub f b a))
ratio_in_room f a u b fa fu fb ta tu tb la ha lb hb above within =
    ratio_up_to f a u b fa fu fb ta tu tb above within (difference_finite f a b fa fb la ha lb hb ta tb (below_both f a u b fa fu fb ta tu tb above within))
