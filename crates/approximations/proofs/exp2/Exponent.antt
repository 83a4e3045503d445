-- What the proof of `power_near` cites: the sum of n and 2 ^ 52 + 1023 has the biased exponent of 2 ^ n in its lowest bits. Assumes nothing.
use Rattle.std.proofs.Common.{◌≡◌, ℕ, suc, ◌+◌, ◌-◌, ◌*◌, ◌%◌, ◌^◌, ◌<◌, ◌≤◌, true, false, not, T, ltb, ℤ, pos, negsuc, ◌+ℤ◌, nat_abs, sym, refl, ap, ◌∙◌, subst, lt_of_lt_of_le, lt_of_le_of_lt, zero-lt-suc, arith, lit<, lit≤, le→leb, lt→ltb, leb→le, w64, SFits, to_z, of_z}
use native.Mathlib.Nat.{add-mul-mod_self_right}
use lib.Signed.{le_z, lt_z}
use lib.Arith.{le→nltb}
use lib.Ieee.{Float, fin, binary64, round, sum, add, is_nan, of_int, to_signed, in_float, of_bits, to_bits, nan_bits}
use lib.Ieee.Fits.{add-fits}
use lib.Ieee.Bits.{is_true, is_false, cond_no}
use lib.Ieee.Exact.{HasValue}
use lib.Ieee.Back.{round_whole, positive_back, negative_back}
use mir.ValLaws.{to_z-of_z}
use Rattle.doubles.specs.Power.{pow2_of}
use Rattle.approximations.specs.Exp2.{NormalExponent}
use Rattle.doubles.proofs.Fractions.{add_of, sum_turned}
use Rattle.doubles.proofs.PowersOfTwo.{middle, Placed, middle_placed}
use Rattle.doubles.proofs.NearestWhole.{minus, int_value}
use Rattle.doubles.proofs.WholePatterns.{whole_bits}

abbrev pub bias : Float
bias = fin false 4503599627371519 (pos 0)

-- z + 1023
abbrev field : ℤ → ℕ
field (pos q) = q + 1023
field (negsuc k) = 1022 - k

-- ---- a whole number z from -1022 to 1022
module _ (z : ℤ) (lo : T (le_z (negsuc 1021) z)) (hi : T (le_z z (pos 1022))) where
  field_lt : field z < 2046
  field_lt = at z lo hi
    where
      at : (z : ℤ) → T (le_z (negsuc 1021) z) → T (le_z z (pos 1022)) → field z < 2046
      at (pos q) lo hi = let h = leb→le q 1022 hi in omega arith
      at (negsuc k) lo hi = omega arith

  fits_64 : SFits w64 z
  fits_64 = at z lo hi
    where
      at : (z : ℤ) → T (le_z (negsuc 1021) z) → T (le_z z (pos 1022)) → SFits w64 z
      at (pos q) lo hi = record { sfits = lt_of_le_of_lt (leb→le q 1022 hi) (lit< tt) }
      at (negsuc k) lo hi = record { sfits = lt_of_le_of_lt (leb→le k 1021 lo) (lit< tt) }

  pub exponent_small : nat_abs z ≤ 2 ^ 53
  exponent_small = at z lo hi
    where
      at : (z : ℤ) → T (le_z (negsuc 1021) z) → T (le_z z (pos 1022)) → nat_abs z ≤ 2 ^ 53
      at (pos q) lo hi = let h = leb→le q 1022 hi in omega arith
      at (negsuc k) lo hi = let h = leb→le k 1021 lo in omega arith

  sum_is : add binary64 (of_int binary64 z) bias ≡ round binary64 false (2 ^ 52 + field z) 1
  unfolding sum
  sum_is = add_of binary64 (of_int binary64 z) bias (minus z) (nat_abs z) 1 false 4503599627371519 1 (zero-lt-suc 0) (zero-lt-suc 0) (int_value z exponent_small) (refl, refl) ∙ at z lo hi
    where
      at : (z : ℤ) → T (le_z (negsuc 1021) z) → T (le_z z (pos 1022)) → sum binary64 (minus z) (nat_abs z * 1) false 4503599627371519 1 ≡ round binary64 false (2 ^ 52 + field z) 1
      at (pos q) lo hi =
          let e : q * 1 + 4503599627371519 ≡ 2 ^ 52 + (q + 1023) = omega arith in
          ap (λ (n : ℕ). round binary64 false n 1) e
      at (negsuc k) lo hi =
          let h = leb→le k 1021 lo in
          let l : suc k * 1 ≤ 4503599627371519 = omega arith in
          let e : 4503599627371519 - suc k * 1 ≡ 2 ^ 52 + (1022 - k) = omega arith in
          sum_turned binary64 (suc k * 1) 4503599627371519 1 l ∙ ap (λ (n : ℕ). round binary64 false n 1) e

  sum_bits : (to_bits binary64 (add binary64 (of_int binary64 z) bias) ≡ 1075 * 2 ^ 52 + field z) × T (not (is_nan (add binary64 (of_int binary64 z) bias)))
  sum_bits =
      let h : field z < 2 ^ 52 = lt_of_lt_of_le field_lt (lit≤ tt) in
      let l : 2 ^ 52 + field z ≤ 2 ^ 53 = omega arith in
      whole_bits (add binary64 (of_int binary64 z) bias) (field z) h (add-fits binary64 (of_int binary64 z) bias) (subst (λ (y : Float). HasValue y false (2 ^ 52 + field z) 1) (sym sum_is) (round_whole binary64 false (2 ^ 52 + field z) l))

  -- the shift leaves the field
  shifted : to_bits binary64 (add binary64 (of_int binary64 z) bias) * 2 ^ 52 % 2 ^ 64 ≡ field z * 2 ^ 52 % 2 ^ 64
  shifted =
      let e : (1075 * 2 ^ 52 + field z) * 2 ^ 52 ≡ field z * 2 ^ 52 + 1075 * 2 ^ 40 * 2 ^ 64 = omega arith in
      ap (λ (n : ℕ). n * 2 ^ 52 % 2 ^ 64) sum_bits.0 ∙ ap (λ (n : ℕ). n % 2 ^ 64) e ∙ add-mul-mod_self_right (field z * 2 ^ 52) (1075 * 2 ^ 40) (2 ^ 64)

  biased : z +ℤ pos 1023 ≡ pos (field z)
  biased = at z lo
    where
      at : (z : ℤ) → T (le_z (negsuc 1021) z) → z +ℤ pos 1023 ≡ pos (field z)
      at (pos q) lo = refl
      at (negsuc k) lo =
          let h = leb→le k 1021 lo in
          let l : suc k ≤ 1023 = omega arith in
          let e : 1023 - suc k ≡ 1022 - k = omega arith in
          cond_no (ltb 1023 (suc k)) (negsuc (suc k - 1024)) (pos (1023 - suc k)) (le→nltb 1023 (suc k) l) ∙ ap pos e

  placed : Placed (field z * 2 ^ 52) z
  placed =
      let F = fits_64 in
      let s : SFits w64 (pos (field z)) = record { sfits = lt_of_lt_of_le field_lt (lit≤ tt) } in
      let e = to_z-of_z w64 z F in
      let i = ap nat_abs (ap (λ (n : ℤ). to_z w64 (of_z w64 n)) (ap (λ (n : ℤ). n +ℤ pos 1023) e ∙ biased) ∙ to_z-of_z w64 (pos (field z)) s) in
      let m = middle z F (subst (λ (n : ℤ). lt_z (pos 1023) n ≡ false) (sym e) (not_over z hi)) (subst (λ (n : ℤ). le_z (negsuc 1021) n ≡ true) (sym e) (is_true (le_z (negsuc 1021) z) lo)) in
      subst (λ (n : ℕ). Placed (n * 2 ^ 52) z) i (middle_placed z m)
    where
      not_over : (z : ℤ) → T (le_z z (pos 1022)) → lt_z (pos 1023) z ≡ false
      not_over (pos q) hi = let h = leb→le q 1022 hi in is_false (ltb 1023 q) (le→nltb 1023 q (omega arith))
      not_over (negsuc k) hi = refl

  pub whole_back : to_signed 31 (of_int binary64 z) ≡ z
  whole_back = at z lo hi
    where
      at : (z : ℤ) → T (le_z (negsuc 1021) z) → T (le_z z (pos 1022)) → to_signed 31 (of_int binary64 z) ≡ z
      at (pos q) lo hi = let h = leb→le q 1022 hi in (positive_back binary64 31 q (unfold in_float in le→leb q (2 ^ 53) (omega arith)) (omega arith)).1
      at (negsuc k) lo hi = let h = leb→le k 1021 lo in (negative_back binary64 31 k (unfold in_float in lt→ltb k (2 ^ 53) (omega arith)) (omega arith)).1

-- ---- the goals of `power_near`
abbrev pattern : Float → ℕ
pattern n = to_bits binary64 (add binary64 n bias) * 2 ^ 52 % 2 ^ 64

abbrev Answer : Float → Type 0
Answer n = T (not (is_nan (add binary64 n bias))) × T (not (nan_bits binary64 (pattern n))) × (of_bits binary64 (pattern n) ≡ pow2_of binary64 (to_signed 31 n))

pub power_of_lem : (n : Float) → NormalExponent n → Answer n
power_of_lem n p = subst Answer (sym p.1) (at p.0 p.2 p.3)
  where
    at : (z : ℤ) → T (le_z (negsuc 1021) z) → T (le_z z (pos 1022)) → Answer (of_int binary64 z)
    at z lo hi =
        let r : Placed (field z * 2 ^ 52) z = placed z lo hi in
        let e = sym (shifted z lo hi) in
        ((sum_bits z lo hi).1, subst (λ (b : ℕ). T (not (nan_bits binary64 b))) e r.0, subst (λ (b : ℕ). of_bits binary64 b ≡ pow2_of binary64 z) e r.1 ∙ ap (pow2_of binary64) (sym (whole_back z lo hi)))
