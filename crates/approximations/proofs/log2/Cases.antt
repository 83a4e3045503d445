-- The cases of the definition of `approx_log2`: no logarithm, one by the floor of the logarithm, and one by the field and the digits of a normal double. Assumes nothing.
use Rattle.std.proofs.Common.{◌≡◌, ℕ, suc, ◌+◌, ◌-◌, ◌*◌, ◌/◌, ◌%◌, ◌^◌, ◌<◌, ◌≤◌, true, false, ◌&&◌, T, ℤ, pos, ◌+ℤ◌, sym, ap, ◌∙◌, subst, mod-lt, arith, lit<, pow_pos, w64, SFits, to_z, of_z}
use lib.Signed.{mag}
use lib.Bits.{bit_and, bit_or}
use lib.Ieee.{Float, nan, inf, fin, binary64, minus, lt, fits, in_float, of_int, of_bits, to_bits}
use lib.Ieee.Fits.{and_i, and_l, and_r}
use lib.Ieee.Bits.{is_true}
use lib.Ieee.Scale.{finite}
use mir.ValLaws.{to_z-of_z}
use Rattle.doubles.specs.Arithmetic.{◌⊖◌, ◌⊘◌, from_int, zero64}
use Rattle.doubles.specs.Power.{pow2_of, floor_log2}
use Rattle.approximations.specs.Log2.{log2_by, log2_at, log2_of, in_normal}
use Rattle.doubles.proofs.Magnitude.{plain, plain_finite}
use Rattle.doubles.proofs.Bound.{mag_pos}
use Rattle.doubles.proofs.Exponents.{minus_suc, minus_same, minus_small, small_fits, small_in_float}
use Rattle.doubles.proofs.Logarithms.{logged, log_digits}
use Rattle.approximations.proofs.log2.Mantissa.{is_normal, normal_plain, normal_positive, mantissa_is, mantissa_bits}
use Rattle.approximations.proofs.log2.Differences.{exponent_is}

pub log2_none : (v : Float) → finite v && lt zero64 v ≡ false → inf true ≡ log2_of v
unfolding log2_of
log2_none v e = rw e

pub log2_at_lem : (v : Float) (z : ℤ) → T (finite v && lt zero64 v) → floor_log2 v +ℤ pos 1 ≡ z → log2_by (v ⊘ pow2_of binary64 z) (from_int z) ≡ log2_of v
unfolding log2_of log2_at
log2_at_lem v z t e = rw (is_true (finite v && lt zero64 v) t, e)

positive_plain : (v : Float) → T (finite v) → T (lt zero64 v) → T (plain v)
unfolding lt
positive_plain nan f t = f
positive_plain (inf s) f t = f
positive_plain (fin true m e) f t = t
positive_plain (fin false m e) f t = tt

-- ---- the exponent r + 1, where r is the floor of the logarithm: as an `i64`, as a double, and in the result
abbrev pub sum : ℤ → ℤ
sum r = to_z w64 (of_z w64 r) +ℤ pos 1

abbrev pub Next : Float → ℤ → Type 0
Next v r =
    SFits w64 (sum r) × T (in_float binary64 (to_z w64 (of_z w64 (sum r)))) × (log2_by (v ⊘ pow2_of binary64 (to_z w64 (of_z w64 (sum r)))) (from_int (to_z w64 (of_z w64 (sum r)))) ≡ log2_of v)

pub next : (v : Float) (r : ℤ) → T (fits binary64 v) → T (finite v && lt zero64 v) → r ≡ floor_log2 v → Next v r
next v r h t e =
    let f = and_l (finite v) (lt zero64 v) t in
    let g = and_r (finite v) (lt zero64 v) t in
    let p = positive_plain v f g in
    let l = logged v h f (mag_pos binary64 v h p g) in
    let i = l.0 in
    let small : (k : ℕ) → k < 2 ^ 12 → mag (minus k 1074) < 2 ^ 12 = λ k h. minus_small k 1074 (2 ^ 12) h (lit< tt) in
    let I = suc_room i l.1 in
    let a : sum r ≡ minus (suc i) 1074 =
    ap (λ (z : ℤ). z +ℤ pos 1) (to_z-of_z w64 r (subst (SFits w64) (sym (e ∙ l.2)) (small_fits (minus i 1074) (small i I.0))) ∙ e ∙ l.2) ∙ minus_suc i 1074 in
    let s : SFits w64 (sum r) = subst (SFits w64) (sym a) (small_fits (minus (suc i) 1074) (small (suc i) I.1)) in
    let b : to_z w64 (of_z w64 (sum r)) ≡ minus (suc i) 1074 = to_z-of_z w64 (sum r) s ∙ a in (
      s,
      subst (λ (z : ℤ). T (in_float binary64 z)) (sym b) (small_in_float (minus (suc i) 1074) (small (suc i) I.1)),
      log2_at_lem v (to_z w64 (of_z w64 (sum r))) t (ap (λ (z : ℤ). z +ℤ pos 1) l.2 ∙ minus_suc i 1074 ∙ sym b),
    )
  where
    suc_room : (i : ℕ) → i < 2098 → (i < 2 ^ 12) × (suc i < 2 ^ 12)
    suc_room i h = omega arith

-- ---- the mantissa and the exponent, as `log2_normal` reads them off the pattern b
abbrev pub mantissa : ℕ → Float
mantissa b = of_bits binary64 (bit_or (bit_and b (2 ^ 52 - 1)) (1022 * 2 ^ 52))

abbrev pub exponent : ℕ → Float
exponent b = of_int binary64 (pos (b / 2 ^ 52)) ⊖ of_bits binary64 0x408f_f000_0000_0000

pub log2_by_bits : (v : Float) → T (fits binary64 v) → T (in_normal v) → log2_by (mantissa (to_bits binary64 v)) (exponent (to_bits binary64 v)) ≡ log2_of v
log2_by_bits v h t =
    let b = to_bits binary64 v in
    let p = normal_plain v t in
    let n = is_normal v h t in
    let j = n.0 in
    let z = minus (suc (52 + j)) 1074 in
    let d = mod-lt b (pow_pos 52) in
    let m : mantissa b ≡ v ⊘ pow2_of binary64 z = ap (of_bits binary64) (mantissa_bits b) ∙ mantissa_is v (b % 2 ^ 52) j h p d n.2 n.3 in
    let e : exponent b ≡ from_int z = exponent_is (b / 2 ^ 52) (room (b / 2 ^ 52) j n.1 n.2) ∙ ap (of_int binary64) (minus_same (b / 2 ^ 52) 1022 (suc (52 + j)) 1074 (sums (b / 2 ^ 52) j n.1)) in
    rw (m, e) (log2_at_lem v z (and_i (finite v) (lt zero64 v) (plain_finite v p) (normal_positive v t)) (ap (λ (y : ℤ). y +ℤ pos 1) (log_digits v (b % 2 ^ 52) j h (plain_finite v p) d n.3) ∙ minus_suc (52 + j) 1074))
  where
    room : (f j : ℕ) → f ≡ suc j → j < 2045 → f ≤ 2 ^ 53
    room f j e h = omega arith

    sums : (f j : ℕ) → f ≡ suc j → f + 1074 ≡ suc (52 + j) + 1022
    sums f j e = omega arith
