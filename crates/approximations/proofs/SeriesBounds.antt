-- Sine and cosine of a double from 0 to H are finite and from 0 to 1. A step of the series takes off at most the coefficient that it starts from: the rest is up to the next coefficient, the factor y up to 1, and the coefficients fall. Assumes nothing.
use Rattle.std.proofs.Common.{◌≡◌, ℕ, zero, suc, ◌+◌, ◌≤◌, Bool, true, false, cond, not, ◌&&◌, T, List, [], ◌∷◌, drop, pos, negsuc, sym, refl, subst, le_of_lt, lt_of_not-le, arith, lit≤, T_not}
use lib.Dec.{eqb-suc-zero}
use lib.Ieee.{Float, nan, inf, fin, binary64, of_bits, round, add, sub, mul, div, sum, neg, le, of_int, fits}
use lib.Ieee.Fits.{and_l, and_r, round-fits, div-fits}
use lib.Ieee.Scale.{finite}
use Rattle.doubles.specs.Arithmetic.{◌⊖◌, ◌⊗◌, one64}
use Rattle.doubles.specs.Arithmetic as arithmetic
use Rattle.approximations.specs.Circular.{odd_factorials, even_factorials, inverse, series, sine_series, cosine_series, H, half_h, L, complement_of, sine_of, cosine_of}
use Rattle.doubles.proofs.Magnitude.{mag, plain, plain_finite}
use Rattle.doubles.proofs.Order.{mag_mono, mag_le}
use Rattle.doubles.proofs.Interpolation.{one_fits, is_zero}
use Rattle.doubles.proofs.Differences.{UpTo, up_to_self, up_to_more, mul_up_to, sub_up_to, rest_up_to, add_up_to}
use Rattle.doubles.proofs.Bound.{zero_le_plain}
use Rattle.doubles.proofs.AddZero.{zero_is}

-- ---- the series: up to its first coefficient
abbrev pub falling : List ℕ → Bool
falling [] = false
falling (k ∷ []) = plain (inverse k)
falling (k ∷ j ∷ ks) = plain (inverse k) && le (inverse j) (inverse k) && falling (j ∷ ks)

pub head_plain : (k : ℕ) (ks : List ℕ) → T (falling (k ∷ ks)) → T (plain (inverse k))
head_plain k [] t = t
head_plain k (j ∷ ks) t = and_l (plain (inverse k)) (le (inverse j) (inverse k)) (and_l (plain (inverse k) && le (inverse j) (inverse k)) (falling (j ∷ ks)) t)

next_less : (k j : ℕ) (ks : List ℕ) → T (falling (k ∷ j ∷ ks)) → T (le (inverse j) (inverse k))
next_less k j ks t = and_r (plain (inverse k)) (le (inverse j) (inverse k)) (and_l (plain (inverse k) && le (inverse j) (inverse k)) (falling (j ∷ ks)) t)

pub tail_falling : (k j : ℕ) (ks : List ℕ) → T (falling (k ∷ j ∷ ks)) → T (falling (j ∷ ks))
tail_falling k j ks t = and_r (plain (inverse k) && le (inverse j) (inverse k)) (falling (j ∷ ks)) t

pub inverse_fits : (k : ℕ) → T (fits binary64 (inverse k))
inverse_fits k = div-fits binary64 one64 (of_int binary64 (pos k))

-- what a step takes off
taken_off : (y t : Float) (k j : ℕ) (ks : List ℕ) → T (falling (k ∷ j ∷ ks)) → UpTo binary64 one64 y → UpTo binary64 (inverse j) t → UpTo binary64 (inverse k) (y ⊗ t)
taken_off y t k j ks w u v =
    let p = head_plain k (j ∷ ks) w in
    mul_up_to binary64 (inverse k) y t (inverse_fits k) p u (up_to_more binary64 (inverse j) (inverse k) t (inverse_fits j) (inverse_fits k) (head_plain j ks (tail_falling k j ks w)) p (next_less k j ks w) v)

pub series_up_to : (y : Float) (k : ℕ) (ks : List ℕ) → T (falling (k ∷ ks)) → UpTo binary64 one64 y → UpTo binary64 (inverse k) (series y (k ∷ ks))
unfolding series
series_up_to y k [] t u = up_to_self binary64 (inverse k) (inverse_fits k) t
series_up_to y k (j ∷ ks) t u =
    rest_up_to binary64 (inverse k) (y ⊗ series y (j ∷ ks)) (inverse_fits k) (head_plain k (j ∷ ks) t) (taken_off y (series y (j ∷ ks)) k j ks t u (series_up_to y j ks (tail_falling k j ks t) u))

pub product_up_to : (y : Float) (k j : ℕ) (ks : List ℕ) → T (falling (k ∷ j ∷ ks)) → UpTo binary64 one64 y → UpTo binary64 (inverse k) (y ⊗ series y (j ∷ ks))
product_up_to y k j ks t u = taken_off y (series y (j ∷ ks)) k j ks t u (series_up_to y j ks (tail_falling k j ks t) u)

-- the two lists, whose first coefficient is 1
pub odd_falling : T (falling odd_factorials)
unfolding div of_int round le
odd_falling = tt

pub even_falling : T (falling even_factorials)
unfolding div of_int round le
even_falling = tt

first : inverse 1 ≡ one64
unfolding div of_int round
first = refl

square_up_to : (b : Float) → UpTo binary64 one64 b → UpTo binary64 one64 (b ⊗ b)
square_up_to b u = mul_up_to binary64 one64 b b (one_fits binary64) tt u u

pub series_to_one : (ks : List ℕ) (b : Float) → T (falling (1 ∷ ks)) → UpTo binary64 one64 b → UpTo binary64 one64 (series (b ⊗ b) (1 ∷ ks))
series_to_one ks b t u = subst (λ (c : Float). UpTo binary64 c (series (b ⊗ b) (1 ∷ ks))) first (series_up_to (b ⊗ b) 1 ks t (square_up_to b u))

pub sine_up_to : (b : Float) → UpTo binary64 one64 b → UpTo binary64 one64 (sine_series b)
unfolding sine_series
sine_up_to b u = mul_up_to binary64 one64 b (series (b ⊗ b) odd_factorials) (one_fits binary64) tt u (series_to_one (drop 1 odd_factorials) b odd_falling u)

pub cosine_up_to : (b : Float) → UpTo binary64 one64 b → UpTo binary64 one64 (cosine_series b)
unfolding cosine_series
cosine_up_to b u = series_to_one (drop 1 even_factorials) b even_falling u

-- ---- H, its half, and L
pub H_fits : T (fits binary64 H)
H_fits = round-fits binary64 false _ _

half_h_fits : T (fits binary64 half_h)
half_h_fits = div-fits binary64 H (of_int binary64 (pos 2))

pub L_fits : T (fits binary64 L)
unfolding fits of_bits
L_fits = tt

pub H_plain : T (plain H)
unfolding round
H_plain = tt

half_h_plain : T (plain half_h)
unfolding round div of_int
half_h_plain = tt

pub L_plain : T (plain L)
unfolding of_bits
L_plain = tt

pub H_two_halves : mag binary64 H ≤ mag binary64 half_h + mag binary64 half_h
unfolding round div of_int
H_two_halves = lit≤ tt

-- ---- what a series is taken of, a up to H / 2 and its complement beyond, is up to 51/64
abbrev pub largest_argument : Float
largest_argument = fin false 51 (negsuc 5)

pub largest_fits : T (fits binary64 largest_argument)
unfolding fits
largest_fits = tt

largest_to_one : T (le largest_argument one64)
unfolding le
largest_to_one = tt

half_h_to_largest : T (le half_h largest_argument)
unfolding round div of_int le
half_h_to_largest = tt

half_h_and_L : mag binary64 half_h + mag binary64 L ≤ mag binary64 largest_argument
unfolding round div of_int of_bits
half_h_and_L = lit≤ tt

pub to_one : (b : Float) → UpTo binary64 largest_argument b → UpTo binary64 one64 b
to_one b u = up_to_more binary64 largest_argument one64 b largest_fits (one_fits binary64) tt tt largest_to_one u

pub low_up_to : (a : Float) → T (fits binary64 a) → T (plain a) → T (le a half_h) → UpTo binary64 largest_argument a
low_up_to a h p l = up_to_more binary64 half_h largest_argument a half_h_fits largest_fits half_h_plain tt half_h_to_largest (h, p, l)

pub above : (a : Float) → T (fits binary64 a) → T (plain a) → T (not (le a half_h)) → mag binary64 half_h ≤ mag binary64 a
above a h p n = le_of_lt (lt_of_not-le (λ (g : mag binary64 a ≤ mag binary64 half_h). T_not (le a half_h) n (mag_le binary64 a half_h h half_h_fits p half_h_plain g)))

more : (x y z c : ℕ) → x ≤ y + c → y ≤ z → x ≤ z + c
more x y z c h k = omega arith

pub difference_up_to : (a : Float) → T (fits binary64 a) → T (plain a) → T (le a H) → T (not (le a half_h)) → UpTo binary64 half_h (H ⊖ a)
difference_up_to a h p l n =
    sub_up_to binary64 half_h H a half_h_fits H_fits h half_h_plain H_plain p l (more (mag binary64 H) (mag binary64 half_h) (mag binary64 a) (mag binary64 half_h) H_two_halves (above a h p n))

under : (x y z c : ℕ) → x ≤ y → y + z ≤ c → x + z ≤ c
under x y z c h k = omega arith

-- H - a and L together
pub parts_up_to : (a : Float) → T (fits binary64 a) → T (plain a) → T (le a H) → T (not (le a half_h)) → mag binary64 (H ⊖ a) + mag binary64 L ≤ mag binary64 largest_argument
parts_up_to a h p l n =
    let u = difference_up_to a h p l n in
    under (mag binary64 (H ⊖ a)) (mag binary64 half_h) (mag binary64 L) (mag binary64 largest_argument) (mag_mono binary64 (H ⊖ a) half_h u.0 half_h_fits u.1 half_h_plain u.2) half_h_and_L

pub complement_up_to : (a : Float) → T (fits binary64 a) → T (plain a) → T (le a H) → T (not (le a half_h)) → UpTo binary64 largest_argument (complement_of a)
complement_up_to a h p l n =
    let u = difference_up_to a h p l n in
    add_up_to binary64 largest_argument (H ⊖ a) L largest_fits u.0 L_fits tt u.1 L_plain (parts_up_to a h p l n)

-- ---- a property of every a from 0 to H and of its sine, or its cosine: by one series up to H / 2, by the other at the complement beyond, and at -0, which is from 0 to H as well
abbrev pub minus_zero : Float
minus_zero = fin true 0 (pos 0)

no_infinity : T (le (inf false) H) → ⊥
unfolding round le
no_infinity t = t

abbrev pub by_half : (Float → Float) → (Float → Float) → Float → Float
by_half S C a = cond (le a half_h) (S a) (C (complement_of a))

module _ (S C : Float → Float) (P : Float → Float → Type 0) where
  pub by_halves : ((a : Float) → T (fits binary64 a) → T (plain a) → T (le a half_h) → P a (S a))
      → ((a : Float) → T (fits binary64 a) → T (plain a) → T (le a H) → T (not (le a half_h)) → P a (C (complement_of a))) → P minus_zero (by_half S C minus_zero)
      → (a : Float) → T (fits binary64 a) → T (le arithmetic.zero64 a) → T (le a H) → P a (by_half S C a)
  by_halves low high z nan h lo hi = unfold le in absurd lo
  by_halves low high z (inf true) h lo hi = unfold le in absurd lo
  by_halves low high z (inf false) h lo hi = absurd (no_infinity hi)
  by_halves low high z (fin true zero e) h lo hi = subst (λ (a : Float). P a (by_half S C a)) (sym (zero_is binary64 true e h)) z
  by_halves low high z (fin true (suc m) e) h lo hi = absurd (subst T (eqb-suc-zero m) (is_zero (suc m) e lo))
  by_halves low high z (fin false m e) h lo hi = go (le (fin false m e) half_h) (low (fin false m e) h tt) (high (fin false m e) h tt hi)
    where
      a : Float
      a = fin false m e

      go : (t : Bool) → (T t → P a (S a)) → (T (not t) → P a (C (complement_of a))) → P a (cond t (S a) (C (complement_of a)))
      go true u v = u tt
      go false u v = v tt

-- ---- sine and cosine
abbrev pub ZeroToOne : Float → Type 0
ZeroToOne r = T (finite r) × T (le arithmetic.zero64 r) × T (le r one64)

from_up_to : (x : Float) → UpTo binary64 one64 x → ZeroToOne x
from_up_to x u = (plain_finite x u.1, zero_le_plain x u.1, u.2)

range : (S C : Float → Float) → ((b : Float) → UpTo binary64 one64 b → UpTo binary64 one64 (S b)) → ((b : Float) → UpTo binary64 one64 b → UpTo binary64 one64 (C b))
    → ZeroToOne (by_half S C minus_zero) → (a : Float) → T (fits binary64 a) → T (le arithmetic.zero64 a) → T (le a H) → ZeroToOne (by_half S C a)
range S C s c =
    by_halves S C (λ (a r : Float). ZeroToOne r) (λ (a : Float) (h : T (fits binary64 a)) (p : T (plain a)) (l : T (le a half_h)). from_up_to (S a) (s a (to_one a (low_up_to a h p l))))
    (λ (a : Float) (h : T (fits binary64 a)) (p : T (plain a)) (l : T (le a H)) (n : T (not (le a half_h))). from_up_to (C (complement_of a)) (c (complement_of a) (to_one (complement_of a) (complement_up_to a h p l n))))

sine_minus_zero : ZeroToOne (sine_of minus_zero)
unfolding sine_of sine_series series round div of_int mul sub add sum neg le
sine_minus_zero = (tt, tt, tt)

cosine_minus_zero : ZeroToOne (cosine_of minus_zero)
unfolding cosine_of cosine_series series round div of_int mul sub add sum neg le
cosine_minus_zero = (tt, tt, tt)

pub sine_range : (a : Float) → T (fits binary64 a) → T (le arithmetic.zero64 a) → T (le a H) → ZeroToOne (sine_of a)
unfolding sine_of
sine_range = range sine_series cosine_series sine_up_to cosine_up_to sine_minus_zero

pub cosine_range : (a : Float) → T (fits binary64 a) → T (le arithmetic.zero64 a) → T (le a H) → ZeroToOne (cosine_of a)
unfolding cosine_of
cosine_range = range cosine_series sine_series cosine_up_to sine_up_to cosine_minus_zero

-- ---- they are doubles wherever they are taken
