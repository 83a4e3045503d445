-- What the proof of `log2_normal` cites: the field and the digits of a normal double below 2 ^ 1023, and that these digits under the field of 1/2 are its quotient by a power of two. Assumes nothing.
use Rattle.std.proofs.Common.{◌≡◌, ℕ, suc, ◌+◌, ◌-◌, ◌*◌, ◌/◌, ◌%◌, ◌^◌, ◌<◌, ◌≤◌, true, false, not, ◌&&◌, T, eqb, pos, negsuc, sym, refl, ap, ◌∙◌, subst, inl, inr, le_trans, le_of_eq, lt_of_lt_of_le, lt_of_le_of_lt, lt_irrefl, mod-lt, zero-lt-suc, lt_of_mul-lt-mul_right, mul-lt-mul_of_pos_right, mul-pos, one-mul, zero-mul, mul-one, mul_right_comm, arith, lit<, eqb→eq, ltb→lt, lt→ltb, pow_pos}
use lib.Bits.{bit_and, bit_or, and_mask, or_shifted_r}
use lib.Ieee.{Float, nan, inf, fin, binary64, up, down, minus, round, lt, le, eq, fits, to_bits, of_bits, nan_bits}
use lib.Ieee.Fits.{and_l, and_r, down_pos, up_pos}
use lib.Ieee.Bits.{of_bits-fits}
use lib.Ieee.Digits.{minus_val}
use lib.Ieee.Positive.{first_pos}
use Rattle.doubles.specs.Arithmetic.{◌⊘◌, zero64}
use Rattle.doubles.specs.Power.{pow2_of}
use Rattle.approximations.specs.Log2.{in_normal}
use Rattle.doubles.proofs.Magnitude.{mag, mag_of, mag_val, plain, plain_val, round_at, div_at}
use Rattle.doubles.proofs.Order.{lt_or_eq, mag_mono}
use Rattle.doubles.proofs.PowersOfTwo.{normal_value, not_nan, move, pow2_value}
use Rattle.doubles.proofs.Exponents.{pow_lt_back, pow_suc_add}
use Rattle.doubles.proofs.Logarithms.{digits_power}
use Rattle.doubles.proofs.Squares.{shape}

-- ---- from 2 ^ -1022 up, and below 2 ^ 1023
abbrev least : Float
least = fin false 1 (negsuc 1021)

abbrev most : Float
most = fin false 1 (pos 1023)

least_mag : mag binary64 least ≡ 2 ^ 52
least_mag = mag_of binary64 least false (2 ^ 52) (refl, refl)

pub normal_plain : (v : Float) → T (in_normal v) → T (plain v)
unfolding le lt eq
normal_plain nan t = t
normal_plain (inf true) t = t
normal_plain (inf false) t = t
normal_plain (fin true m e) t =
    let a = 1 * 1 * down e in
    let n : a ≡ 0 = eqb→eq a 0 (and_r (eqb a (m * up e * 2 ^ 1022)) (eqb a 0) (and_l (eqb a (m * up e * 2 ^ 1022) && eqb a 0) (lt (fin true m e) most) t)) in
    absurd (lt_irrefl 0 (lt_of_lt_of_le (mul-pos (zero-lt-suc 0) (down_pos e)) (le_of_eq n)))
normal_plain (fin false m e) t = tt

above : (v : Float) → T (fits binary64 v) → T (in_normal v) → 2 ^ 52 ≤ mag binary64 v
above v h t =
    le_trans (le_of_eq (sym least_mag)) (mag_mono binary64 least v (unfold fits in tt) h tt (normal_plain v t) (and_l (le least v) (lt v most) t))

-- in units of 2 ^ -1074
under : (v : Float) → T (fits binary64 v) → T (plain v) → T (lt v most) → mag binary64 v < 2 ^ 2097
unfolding lt
under nan h p t = absurd p
under (inf s) h p t = absurd p
under (fin true m e) h p t = absurd p
under (fin false m e) h p t =
    lt_of_mul-lt-mul_right (down e)
    (lt_of_le_of_lt (le_of_eq (sym (mag_val binary64 (fin false m e) h tt).1 ∙ ap (λ (z : ℕ). z * 2 ^ 1074) (sym (mul-one (m * up e)))))
    (lt_of_lt_of_le (mul-lt-mul_of_pos_right (ltb→lt (m * up e * 1) (1 * 2 ^ 1023 * down e) t) (pow_pos 1074)) (le_of_eq (mul_right_comm (2 ^ 1023) (down e) (2 ^ 1074)))))

-- the field j + 1, from 1 to 2045, and the digits
abbrev pub Normal : Float → Type 0
Normal v = (j : ℕ) × (to_bits binary64 v / 2 ^ 52 ≡ suc j) × (j < 2045) × (mag binary64 v ≡ (2 ^ 52 + to_bits binary64 v % 2 ^ 52) * 2 ^ j)

pub is_normal : (v : Float) → T (fits binary64 v) → T (in_normal v) → Normal v
is_normal v h t =
    let p = normal_plain v t in
    let b = to_bits binary64 v in
    let l = under v h p (and_r (le least v) (lt v most) t) in
    elim (shape v h p).1 [
      | inl q ↦ absurd (small b q.0 (le_trans (above v h t) (le_of_eq q.1)))
      | inr q ↦ (
        q.0,
        q.1,
        few q.0 (pow_lt_back (52 + q.0) 2097 (lt_of_le_of_lt (le_trans (digits_power (b % 2 ^ 52) q.0 (mod-lt b (pow_pos 52))).0 (le_of_eq (sym q.3))) l)),
        q.3,
      )
    ]
  where
    small : (b : ℕ) → b / 2 ^ 52 ≡ 0 → 2 ^ 52 ≤ b → ⊥
    small b z h = omega arith

    few : (j : ℕ) → 52 + j < 2097 → j < 2045
    few j h = omega arith

pub normal_positive : (v : Float) → T (in_normal v) → T (lt zero64 v)
unfolding le lt eq
normal_positive nan t = absurd t
normal_positive (inf true) t = absurd t
normal_positive (inf false) t = absurd t
normal_positive (fin true m e) t = normal_plain (fin true m e) t
normal_positive (fin false m e) t =
    let a = 1 * 1 * down e in
    let l : a ≤ m * up e * 2 ^ 1022 = lt_or_eq a (m * up e * 2 ^ 1022) (and_l (le least (fin false m e)) (lt (fin false m e) most) t) in
    lt→ltb (0 * 1 * down e) (m * up e * 1)
    (lt_of_le_of_lt (le_of_eq (zero-mul (down e))) (lt_of_lt_of_le (first_pos (m * up e) (2 ^ 1022) (lt_of_lt_of_le (mul-pos (zero-lt-suc 0) (down_pos e)) l)) (le_of_eq (sym (mul-one (m * up e))))))

-- ---- the quotient of (2 ^ 52 + t) * 2 ^ j units by 2 ^ (j + 53) units is the double with the digits t and the exponent of 1/2
cross : (M J D A B : ℕ) → M * J * D * (A * B) ≡ M * A * (B * J * D)
cross M J D A B = omega arith

pub mantissa_is : (v : Float) (t j : ℕ) → T (fits binary64 v) → T (plain v) → t < 2 ^ 52 → j < 2045 → mag binary64 v ≡ (2 ^ 52 + t) * 2 ^ j
    → of_bits binary64 (1022 * 2 ^ 52 + t) ≡ v ⊘ pow2_of binary64 (minus (suc (52 + j)) 1074)
mantissa_is v t j h p T J X =
    let i = suc (52 + j) in
    let z = minus i 1074 in
    let M = 2 ^ 52 + t in
    let x = mag binary64 v in
    let m = of_bits binary64 (1022 * 2 ^ 52 + t) in
    let I : i < 2098 = omega arith in
    let d : v ⊘ pow2_of binary64 z ≡ round binary64 false (x * down z) (up z * 2 ^ 1074) = div_at binary64 v (pow2_of binary64 z) x (2 ^ 1074) (up z) (down z) (pow_pos 1074) (down_pos z) (up_pos z) (plain_val binary64 v h p) (pow2_value i I) in
    let u : 2 ^ 53 * 2 ^ j * down z ≡ up z * 2 ^ 1074 = ap (λ (k : ℕ). k * down z) (sym (pow_suc_add 52 j) ∙ sym (one-mul (2 ^ i))) ∙ sym (minus_val 1 i 1074) ∙ ap (λ (k : ℕ). k * 2 ^ 1074) (one-mul (up z)) in
    let e : x * down z * 2 ^ 1074 ≡ M * 2 ^ 1021 * (up z * 2 ^ 1074) = ap (λ (k : ℕ). k * down z * 2 ^ 1074) X ∙ cross M (2 ^ j) (down z) (2 ^ 1021) (2 ^ 53) ∙ ap (λ (k : ℕ). M * 2 ^ 1021 * k) u in
    let w = move m (M * 2 ^ 1021) (x * down z) (up z * 2 ^ 1074) (mul-pos (up_pos z) (pow_pos 1074)) e (normal_value 1021 t (lit< tt) T) in
    sym (d ∙ round_at binary64 m false (x * down z) (up z * 2 ^ 1074) (of_bits-fits binary64 (1022 * 2 ^ 52 + t)) (mul-pos (up_pos z) (pow_pos 1074)) w)

-- by the mask and the field as the code puts them together
pub mantissa_bits : (b : ℕ) → bit_or (bit_and b (2 ^ 52 - 1)) (1022 * 2 ^ 52) ≡ 1022 * 2 ^ 52 + b % 2 ^ 52
mantissa_bits b = ap (λ (k : ℕ). bit_or k (1022 * 2 ^ 52)) (and_mask b 52) ∙ or_shifted_r 1022 52 (b % 2 ^ 52) (mod-lt b (pow_pos 52))

pub mantissa_no_nan : (b : ℕ) → T (not (nan_bits binary64 (bit_or (bit_and b (2 ^ 52 - 1)) (1022 * 2 ^ 52))))
mantissa_no_nan b =
    let t = b % 2 ^ 52 in
    subst (λ (k : ℕ). T (not (nan_bits binary64 k))) (sym (mantissa_bits b)) (not_nan (1022 * 2 ^ 52 + t) ((2 ^ 52 + t) * 2 ^ 1021) (2 ^ 1074) (normal_value 1021 t (lit< tt) (mod-lt b (pow_pos 52))))
