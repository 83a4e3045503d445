-- A double from 0 to 1 times 32768 is exact. Assumes nothing.
use mathlib.Core.Path.{◌≡◌, refl, sym, ap, ◌∙◌, subst}
use Prim.Native.Nat.{ℕ, suc, ◌+◌, ◌*◌, ◌^◌, ◌≤◌, ◌<◌, zero-le}
use native.Mathlib.Nat.{le_trans, le_of_eq, lt_of_le_of_lt, mul-one, mul_comm, mul_assoc, mul_right_comm, mul-le-mul_right, le_of_mul-le-mul_right}
use native.Mathlib.Omega.{arith}
use mathlib.Core.Bool.{Bool, true, false, ◌&&◌, ◌||◌}
use lib.IntN.{ℤ, pos}
use lib.Dec.{T, eqb, eqb→eq, lit≤}
use lib.Pow.{pow-lt, pow-add}
use lib.Ieee.{Float, fin, Format, binary64, emax, low, up, down, round, mul, lt, le, eq, fits, of_int}
use lib.Ieee.Exact.{HasValue, round_exact}
use lib.Ieee.Fits.{down_pos, and_l, and_r}
use Rattle.doubles.specs.Arithmetic.{◌⊗◌, from_int, one64, zero64}
use Rattle.doubles.specs.Range.{is_between}
use Rattle.doubles.proofs.Magnitude.{small_enough, low_enough, unit_pow}
use Rattle.doubles.proofs.Order.{lt_or_eq}

-- ---- a value up to 1 times 2 ^ p is exact
module _ (f : Format) (s : Bool) (m : ℕ) (e : ℤ) (h : T (fits f (fin s m e))) (most : m * up e ≤ down e) (p : ℕ) (room : p ≤ emax f) where
  abbrev l : ℕ
  l = low f

  abbrev j : ℕ
  j = (unit_pow l e (low_enough f s m e h)).0

  in_units : m * up e * 2 ^ l ≡ m * 2 ^ j * down e
  in_units = mul_assoc m (up e) (2 ^ l) ∙ ap (λ (z : ℕ). m * z) (unit_pow l e (low_enough f s m e h)).1 ∙ sym (mul_assoc m (2 ^ j) (down e))

  below_one : m * 2 ^ j ≤ 2 ^ l
  below_one = le_of_mul-le-mul_right (le_trans (le_of_eq (sym in_units)) (le_trans (mul-le-mul_right (2 ^ l) most) (le_of_eq (mul_comm (down e) (2 ^ l))))) (down_pos e)

  scaled : m * 2 ^ (j + p) ≡ m * 2 ^ j * 2 ^ p
  scaled = ap (λ (z : ℕ). m * z) (pow-add 2 j p) ∙ sym (mul_assoc m (2 ^ j) (2 ^ p))

  no_overflow : m * 2 ^ (j + p) < 2 ^ (l + suc (emax f))
  no_overflow = lt_of_le_of_lt (le_trans (le_of_eq scaled) (le_trans (mul-le-mul_right (2 ^ p) below_one) (le_of_eq (sym (pow-add 2 l p))))) (pow-lt (omega arith))

  scaled_exact : HasValue (round f s (m * up e * 2 ^ p) (down e)) s (m * up e * 2 ^ p) (down e)
  scaled_exact =
      round_exact f s (m * up e * 2 ^ p) (down e) m (j + p) (down_pos e) (small_enough f s m e h) no_overflow
      (mul_right_comm (m * up e) (2 ^ p) (2 ^ l) ∙ ap (λ (z : ℕ). z * 2 ^ p) in_units ∙ mul_right_comm (m * 2 ^ j) (down e) (2 ^ p) ∙ ap (λ (z : ℕ). z * down e) (sym scaled))

-- ---- v from 0 to 1: its fraction is m * up e / down e, and it is +0 or -0 where the sign is set
pub minus_zero_lem : (m : ℕ) (e : ℤ) → T (is_between zero64 one64 (fin true m e)) → m * up e ≡ 0
unfolding le lt eq
minus_zero_lem m e h =
    let a = 0 * 1 * down e in
    let b = m * up e * 1 in
    let q = eqb→eq a b (and_l (eqb a b) (false || eqb a 0) (and_l (eqb a b && (false || eqb a 0)) (le (fin true m e) one64) h)) in
    omega arith

pub at_most_one : (s : Bool) (m : ℕ) (e : ℤ) → T (is_between zero64 one64 (fin s m e)) → m * up e ≤ down e
unfolding le lt eq
at_most_one true m e h = le_trans (le_of_eq (minus_zero_lem m e h)) zero-le
at_most_one false m e h = let l = lt_or_eq (m * up e * 1) (1 * 1 * down e) (and_r (le zero64 (fin false m e)) (le (fin false m e) one64) h) in omega arith

scale_is : from_int (pos 32768) ≡ fin false 1 (pos 15)
unfolding of_int round
scale_is = refl

product_at : (s : Bool) (m : ℕ) (e : ℤ) → fin s m e ⊗ fin false 1 (pos 15) ≡ round binary64 s (m * up e * 32768) (down e * 1)
unfolding mul
product_at true m e = refl
product_at false m e = refl

pub product_exact : (s : Bool) (m : ℕ) (e : ℤ) → T (fits binary64 (fin s m e)) → T (is_between zero64 one64 (fin s m e)) → HasValue (fin s m e ⊗ from_int (pos 32768)) s (32768 * (m * up e)) (down e)
product_exact s m e h b =
    let i = ap (λ (z : Float). fin s m e ⊗ z) scale_is ∙ product_at s m e ∙ ap (round binary64 s (m * up e * 32768)) (mul-one (down e)) in
    let x = scaled_exact binary64 s m e h (at_most_one s m e b) 15 (lit≤ tt) in
    subst (λ (n : ℕ). HasValue (fin s m e ⊗ from_int (pos 32768)) s n (down e)) (mul_comm (m * up e) 32768) (subst (λ (z : Float). HasValue z s (m * up e * 32768) (down e)) (sym i) x)
