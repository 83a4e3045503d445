-- What the proof of `pow2` cites: the powers of two from their bit patterns. Assumes nothing.
use Rattle.std.proofs.Common.{◌≡◌, ℕ, suc, ◌+◌, ◌-◌, ◌*◌, ◌/◌, ◌%◌, ◌^◌, ◌<◌, ◌≤◌, Bool, true, false, cond, not, T, eqb, ltb, leb, ℤ, pos, negsuc, ◌+ℤ◌, nat_abs, sym, refl, ap, ◌∙◌, subst, true≢false, le_of_eq, lt_of_lt_of_le, lt_of_le_of_lt, add-zero, mul-le-mul_right, mod-eq_of_lt, zero-lt-suc, mul-le-mul_left, one-mul, zero-mul, mul-one, mul_right_comm, arith, lit<, lit≤, eqb→eq, ltb→lt, leb→le, nltb→le, pow_pos, pow_mono, pow-add, w64, Fits, SFits, to_z, of_z}
use Rattle.std.proofs.lemmas.Float.{T_from_true, T_from_false}
use native.Mathlib.Nat.{eq_of_mul-eq-mul_right, div-eq_of_lt}
use mathlib.Core.Bool.{false≢true}
use lib.Signed.{lt_z, le_z, non_neg}
use lib.Arith.{lt→nleb, le→nltb}
use lib.Dec.{not_T, nleb→lt}
use lib.Pow as Pow
use lib.Pow.{pow-lt, high}
use lib.Ieee.{Float, nan, inf, fin, binary64, up, down, minus, odd, round, le, fits, of_fields, of_bits, nan_bits, is_nan}
use lib.Ieee.Fits.{down_pos, round-fits}
use lib.Ieee.Bits.{of_bits-fits, nan_bits_is, is_false, cond_no}
use lib.Ieee.Digits.{minus_val}
use lib.Ieee.Exact.{HasValue, odd_sign, round_exact}
use lib.Ieee.Order.{round_mono}
use Rattle.doubles.proofs.Order.{lt_or_eq}
use mir.ValLaws.{to_z-of_z}
use Rattle.doubles.specs.Power.{pow2_of}
use Rattle.doubles.proofs.Magnitude.{round_at}
use Rattle.doubles.proofs.Signs.{clear, round_clear}
use Rattle.doubles.proofs.Floors.{zero_is}

pow2_of_is : (z : ℤ) → pow2_of binary64 z ≡ round binary64 false (up z) (down z)
unfolding pow2_of
pow2_of_is z = refl

-- ---- a pattern that has no sign, with the exponent's field j and the digits t
pub of_bits_is : (b : ℕ) → of_bits binary64 b ≡ of_fields binary64 (leb (2 ^ 63) b) (b % 2 ^ 63 / 2 ^ 52) (b % 2 ^ 52)
unfolding of_bits
of_bits_is b = refl

pub under_63 : (b : ℕ) → b < 2 ^ 63 → leb (2 ^ 63) b ≡ false
under_63 b h = is_false (leb (2 ^ 63) b) (lt→nleb (2 ^ 63) b h)

-- ---- normal: the field i + 1, and the digits t
pub not_top : (i : ℕ) → i < 2046 → T (not (eqb (suc i) 2047))
not_top i h = not_T (eqb (suc i) 2047) (λ (t : T (eqb (suc i) 2047)). clash i h (eqb→eq (suc i) 2047 t))
  where
    clash : (i : ℕ) → i < 2046 → suc i ≡ 2047 → ⊥
    clash i h e = omega arith

pub normal_fields : (i t : ℕ) → i < 2046 → HasValue (of_fields binary64 false (suc i) t) false ((2 ^ 52 + t) * 2 ^ i) (2 ^ 1074)
unfolding of_fields
normal_fields i t h =
    subst (λ (z : Float). HasValue z false ((2 ^ 52 + t) * 2 ^ i) (2 ^ 1074)) (sym (cond_no (eqb (suc i) 2047) (cond (eqb t 0) (inf false) nan) (odd 53 false (2 ^ 52 + t) i 1074) (not_top i h))) (odd_sign 53 false (2 ^ 52 + t) i 1074)

field_lt : (i t : ℕ) → i < 2046 → t < 2 ^ 52 → suc i * 2 ^ 52 + t < 2 ^ 63
field_lt i t h k = omega arith

pub normal_value : (i t : ℕ) → i < 2046 → t < 2 ^ 52 → HasValue (of_bits binary64 (suc i * 2 ^ 52 + t)) false ((2 ^ 52 + t) * 2 ^ i) (2 ^ 1074)
normal_value i t h k =
    let b = suc i * 2 ^ 52 + t in
    let L = field_lt i t h k in
    let f : b % 2 ^ 63 / 2 ^ 52 ≡ suc i = ap (λ (z : ℕ). z / 2 ^ 52) (mod-eq_of_lt L) ∙ high (suc i) 52 k in
    let d : b % 2 ^ 52 ≡ t = Pow.low (suc i) 52 k in
    subst (λ (z : Float). HasValue z false ((2 ^ 52 + t) * 2 ^ i) (2 ^ 1074))
    (sym (of_bits_is b ∙ ap (λ (s : Bool). of_fields binary64 s (b % 2 ^ 63 / 2 ^ 52) (b % 2 ^ 52)) (under_63 b L) ∙ ap (λ (z : ℕ). of_fields binary64 false z (b % 2 ^ 52)) f ∙ ap (λ (z : ℕ). of_fields binary64 false (suc i) z) d))
    (normal_fields i t h)

-- ---- subnormal: 2 ^ i
low_fields : (t : ℕ) → HasValue (of_fields binary64 false 0 t) false (t * 2 ^ 0) (2 ^ 1074)
unfolding of_fields
low_fields t = odd_sign 53 false t 0 1074

low_value : (i : ℕ) → i < 52 → HasValue (of_bits binary64 (2 ^ i)) false (2 ^ i * 2 ^ 0) (2 ^ 1074)
low_value i h =
    let b = 2 ^ i in
    let l : b < 2 ^ 52 = pow-lt h in
    let L : b < 2 ^ 63 = lt_of_lt_of_le l (lit≤ tt) in
    let f : b % 2 ^ 63 / 2 ^ 52 ≡ 0 = ap (λ (z : ℕ). z / 2 ^ 52) (mod-eq_of_lt L) ∙ div-eq_of_lt l in
    subst (λ (z : Float). HasValue z false (2 ^ i * 2 ^ 0) (2 ^ 1074))
    (sym (of_bits_is b ∙ ap (λ (s : Bool). of_fields binary64 s (b % 2 ^ 63 / 2 ^ 52) (b % 2 ^ 52)) (under_63 b L) ∙ ap (λ (z : ℕ). of_fields binary64 false z (b % 2 ^ 52)) f ∙ ap (λ (z : ℕ). of_fields binary64 false 0 z) (mod-eq_of_lt l)))
    (low_fields (2 ^ i))

-- a pattern with a value is no NaN's
value_nan : (x : Float) (s : Bool) (a c : ℕ) → HasValue x s a c → T (not (is_nan x))
unfolding is_nan
value_nan nan s a c h = absurd h
value_nan (inf t) s a c h = absurd h
value_nan (fin t m e) s a c h = tt

pub not_nan : (b : ℕ) (a c : ℕ) → HasValue (of_bits binary64 b) false a c → T (not (nan_bits binary64 b))
not_nan b a c h = subst (λ (z : Bool). T (not z)) (sym (nan_bits_is binary64 b)) (value_nan (of_bits binary64 b) false a c h)

-- ---- 2 ^ z by a pattern that has the value w / 2 ^ 1074
pub move : (x : Float) (w a c : ℕ) → 0 < c → a * 2 ^ 1074 ≡ w * c → HasValue x false w (2 ^ 1074) → HasValue x false a c
move nan w a c C e v = absurd v
move (inf s) w a c C e v = absurd v
move (fin s m g) w a c C e v = (v.0, eq_of_mul-eq-mul_right (2 ^ 1074) (pow_pos 1074) (m * up g * c) (a * down g) (mul_right_comm (m * up g) c (2 ^ 1074) ∙ ap (λ (z : ℕ). z * c) v.1 ∙ mul_right_comm w (down g) c ∙ ap (λ (z : ℕ). z * down g) (sym e) ∙ mul_right_comm a (2 ^ 1074) (down g)))

by_pattern : (z : ℤ) (b w : ℕ) → HasValue (of_bits binary64 b) false w (2 ^ 1074) → up z * 2 ^ 1074 ≡ w * down z → of_bits binary64 b ≡ pow2_of binary64 z
by_pattern z b w v e = sym (pow2_of_is z ∙ round_at binary64 (of_bits binary64 b) false (up z) (down z) (of_bits-fits binary64 b) (down_pos z) (move (of_bits binary64 b) w (up z) (down z) (down_pos z) e v))

-- exact from 2 ^ -1074 to 2 ^ 1023
pub pow2_value : (i : ℕ) → i < 2098 → HasValue (pow2_of binary64 (minus i 1074)) false (up (minus i 1074)) (down (minus i 1074))
pow2_value i h =
    let z = minus i 1074 in
    let e : up z * 2 ^ 1074 ≡ 1 * 2 ^ i * down z = ap (λ (k : ℕ). k * 2 ^ 1074) (sym (one-mul (up z))) ∙ minus_val 1 i 1074 in
    subst (λ (y : Float). HasValue y false (up z) (down z)) (sym (pow2_of_is z))
    (round_exact binary64 false (up z) (down z) 1 i (down_pos z) (lit< tt) (lt_of_le_of_lt (le_of_eq (one-mul (2 ^ i))) (pow-lt h)) e)

-- ---- n + b as the machine works it out
abbrev back : ℤ → ℤ
back z = to_z w64 (of_z w64 z)

-- n + b is j, and casts to a `u64`
abbrev Lifted : ℤ → ℕ → ℕ → Type 0
Lifted n b j = SFits w64 (back n +ℤ pos b) × (T (non_neg (back (back n +ℤ pos b))) × Fits w64 (nat_abs (back (back n +ℤ pos b)))) × (nat_abs (back (back n +ℤ pos b)) ≡ j)

lifted : (n : ℤ) (b j : ℕ) → SFits w64 n → n +ℤ pos b ≡ pos j → j < 2 ^ 12 → Lifted n b j
lifted n b j F e h =
    let s : SFits w64 (pos j) = record { sfits = lt_of_lt_of_le h (lit≤ tt) } in
    let e1 : back n +ℤ pos b ≡ pos j = ap (λ (z : ℤ). z +ℤ pos b) (to_z-of_z w64 n F) ∙ e in
    let e2 : back (back n +ℤ pos b) ≡ pos j = ap back e1 ∙ to_z-of_z w64 (pos j) s in (
      subst (λ (z : ℤ). SFits w64 z) (sym e1) s,
      subst (λ (z : ℤ). T (non_neg z) × Fits w64 (nat_abs z)) (sym e2) (tt, record { fits = lt_of_lt_of_le h (lit≤ tt) }),
      ap nat_abs e2,
    )

-- ---- the four ranges
abbrev pub Middle : ℤ → Type 0
Middle n = (i : ℕ) × (i < 2046) × Lifted n 1023 (suc i) × (up n * 2 ^ 1074 ≡ 2 ^ 52 * 2 ^ i * down n)

pow_split : (a b c : ℕ) → a ≡ b + c → 2 ^ a ≡ 2 ^ b * 2 ^ c
pow_split a b c e = ap (λ (z : ℕ). 2 ^ z) e ∙ pow-add 2 b c

-- -(k + 1) + b, which is not negative
less_by : (k b j : ℕ) → suc k ≤ b → b - suc k ≡ j → negsuc k +ℤ pos b ≡ pos j
less_by k b j h e = cond_no (ltb b (suc k)) (negsuc (suc k - suc b)) (pos (b - suc k)) (le→nltb b (suc k) h) ∙ ap pos e

middle_pos : (k : ℕ) → SFits w64 (pos k) → k ≤ 1023 → Middle (pos k)
middle_pos k F h = (k + 1022, small k h, lifted (pos k) 1023 (suc (k + 1022)) F (ap pos (sums k)) (fits k h), sym (pow-add 2 k 1074) ∙ pow_split (k + 1074) 52 (k + 1022) (splits k) ∙ sym (mul-one (2 ^ 52 * 2 ^ (k + 1022))))
  where
    small : (k : ℕ) → k ≤ 1023 → k + 1022 < 2046
    small k h = omega arith

    sums : (k : ℕ) → k + 1023 ≡ suc (k + 1022)
    sums k = omega arith

    fits : (k : ℕ) → k ≤ 1023 → suc (k + 1022) < 2 ^ 12
    fits k h = omega arith

    splits : (k : ℕ) → k + 1074 ≡ 52 + (k + 1022)
    splits k = omega arith

middle_neg : (k : ℕ) → SFits w64 (negsuc k) → k ≤ 1021 → Middle (negsuc k)
middle_neg k F h = (1021 - k, small k h, lifted (negsuc k) 1023 (suc (1021 - k)) F (less_by k 1023 (suc (1021 - k)) (room k h) (sums k h)) (fits k h), pow_split 1074 (52 + (1021 - k)) (suc k) (splits k h) ∙ ap (λ (z : ℕ). z * 2 ^ suc k) (pow-add 2 52 (1021 - k)))
  where
    small : (k : ℕ) → k ≤ 1021 → 1021 - k < 2046
    small k h = omega arith

    room : (k : ℕ) → k ≤ 1021 → suc k ≤ 1023
    room k h = omega arith

    sums : (k : ℕ) → k ≤ 1021 → 1023 - suc k ≡ suc (1021 - k)
    sums k h = omega arith

    fits : (k : ℕ) → k ≤ 1021 → suc (1021 - k) < 2 ^ 12
    fits k h = omega arith

    splits : (k : ℕ) → k ≤ 1021 → 1074 ≡ 52 + (1021 - k) + suc k
    splits k h = omega arith

pub middle : (n : ℤ) → SFits w64 n → lt_z (pos 1023) (back n) ≡ false → le_z (negsuc 1021) (back n) ≡ true → Middle n
middle n F a b = at n F (subst (λ (z : ℤ). lt_z (pos 1023) z ≡ false) (to_z-of_z w64 n F) a) (subst (λ (z : ℤ). le_z (negsuc 1021) z ≡ true) (to_z-of_z w64 n F) b)
  where
    at : (n : ℤ) → SFits w64 n → lt_z (pos 1023) n ≡ false → le_z (negsuc 1021) n ≡ true → Middle n
    at (pos k) F a b = middle_pos k F (nltb→le 1023 k (T_from_false _ a))
    at (negsuc k) F a b = middle_neg k F (leb→le k 1021 (T_from_true _ b))

abbrev pub Low : ℤ → Type 0
Low n = (i : ℕ) × (i < 52) × Lifted n 1074 i × (up n * 2 ^ 1074 ≡ 2 ^ i * 2 ^ 0 * down n)

low_neg : (k : ℕ) → SFits w64 (negsuc k) → 1021 < k → k ≤ 1073 → Low (negsuc k)
low_neg k F g h = (1073 - k, small k g h, lifted (negsuc k) 1074 (1073 - k) F (less_by k 1074 (1073 - k) (room k h) (sums k h)) (fits k h), pow_split 1074 (1073 - k) (suc k) (splits k h) ∙ ap (λ (z : ℕ). z * 2 ^ suc k) (sym (mul-one (2 ^ (1073 - k)))))
  where
    small : (k : ℕ) → 1021 < k → k ≤ 1073 → 1073 - k < 52
    small k g h = omega arith

    room : (k : ℕ) → k ≤ 1073 → suc k ≤ 1074
    room k h = omega arith

    sums : (k : ℕ) → k ≤ 1073 → 1074 - suc k ≡ 1073 - k
    sums k h = omega arith

    fits : (k : ℕ) → k ≤ 1073 → 1073 - k < 2 ^ 12
    fits k h = omega arith

    splits : (k : ℕ) → k ≤ 1073 → 1074 ≡ 1073 - k + suc k
    splits k h = omega arith

pub low : (n : ℤ) → SFits w64 n → le_z (negsuc 1021) (back n) ≡ false → le_z (negsuc 1073) (back n) ≡ true → Low n
low n F a b = at n F (subst (λ (z : ℤ). le_z (negsuc 1021) z ≡ false) (to_z-of_z w64 n F) a) (subst (λ (z : ℤ). le_z (negsuc 1073) z ≡ true) (to_z-of_z w64 n F) b)
  where
    at : (n : ℤ) → SFits w64 n → le_z (negsuc 1021) n ≡ false → le_z (negsuc 1073) n ≡ true → Low n
    at (pos k) F a b = absurd (true≢false a)
    at (negsuc k) F a b = low_neg k F (nleb→lt k 1021 (T_from_false _ a)) (leb→le k 1073 (T_from_true _ b))

-- ---- what the function returns, from the field or the digit that it shifts into place
no_wrap : (b : ℕ) → b < 2 ^ 63 → b % 2 ^ 64 ≡ b
no_wrap b h = mod-eq_of_lt (lt_of_lt_of_le h (lit≤ tt))

abbrev pub Placed : ℕ → ℤ → Type 0
Placed b n = T (not (nan_bits binary64 (b % 2 ^ 64))) × (of_bits binary64 (b % 2 ^ 64) ≡ pow2_of binary64 n)

placed : (b w : ℕ) (n : ℤ) → b < 2 ^ 63 → HasValue (of_bits binary64 b) false w (2 ^ 1074) → up n * 2 ^ 1074 ≡ w * down n → Placed b n
placed b w n l v e = subst (λ (z : ℕ). T (not (nan_bits binary64 z)) × (of_bits binary64 z ≡ pow2_of binary64 n)) (sym (no_wrap b l)) (not_nan b w (2 ^ 1074) v, by_pattern n b w v e)

pub middle_placed : (n : ℤ) (r : Middle n) → Placed (nat_abs (back (back n +ℤ pos 1023)) * 2 ^ 52) n
middle_placed n r =
    subst (λ (j : ℕ). Placed (j * 2 ^ 52) n) (sym r.2.2)
    (subst (λ (b : ℕ). Placed b n) (add-zero (suc r.0 * 2 ^ 52)) (placed (suc r.0 * 2 ^ 52 + 0) (2 ^ 52 * 2 ^ r.0) n (field_lt r.0 0 r.1 (pow_pos 52)) (normal_value r.0 0 r.1 (pow_pos 52)) r.3))

pub low_placed : (n : ℤ) (r : Low n) → Placed (1 * 2 ^ nat_abs (back (back n +ℤ pos 1074))) n
low_placed n r =
    subst (λ (j : ℕ). Placed (1 * 2 ^ j) n) (sym r.2.2)
    (subst (λ (b : ℕ). Placed b n) (sym (one-mul (2 ^ r.0))) (placed (2 ^ r.0) (2 ^ r.0 * 2 ^ 0) n (lt_of_lt_of_le (pow-lt r.1) (lit≤ tt)) (low_value r.0 r.1) r.3))

-- ---- above the range, and below it
at_inf : (y : Float) → T (clear y) → T (le (inf false) y) → y ≡ inf false
unfolding le
at_inf nan c h = absurd h
at_inf (inf true) c h = absurd c
at_inf (inf false) c h = refl
at_inf (fin s m e) c h = absurd h

overflows : round binary64 false (2 ^ 1024) 1 ≡ inf false
unfolding round
overflows = refl

too_high : (k : ℕ) → 1024 ≤ k → pow2_of binary64 (pos k) ≡ inf false
too_high k h =
    pow2_of_is (pos k)
    ∙ at_inf (round binary64 false (2 ^ k) 1) (round_clear binary64 (2 ^ k) 1)
    (subst (λ (z : Float). T (le z (round binary64 false (2 ^ k) 1))) overflows (round_mono binary64 (2 ^ 1024) 1 (2 ^ k) 1 (zero-lt-suc 0) (zero-lt-suc 0) (mul-le-mul_right 1 (pow_mono h))))

pub top : (n : ℤ) → SFits w64 n → lt_z (pos 1023) (back n) ≡ true → inf false ≡ pow2_of binary64 n
top n F a = at n (subst (λ (z : ℤ). lt_z (pos 1023) z ≡ true) (to_z-of_z w64 n F) a)
  where
    at : (n : ℤ) → lt_z (pos 1023) n ≡ true → inf false ≡ pow2_of binary64 n
    at (pos k) a = sym (too_high k (ltb→lt 1023 k (T_from_true _ a)))
    at (negsuc k) a = absurd (false≢true a)

-- 2 ^ -1075 is halfway to the least value, and goes to 0, which is even
underflows : round binary64 false 1 (2 ^ 1075) ≡ fin false 0 (pos 0)
unfolding round
underflows = refl

at_nought : (y : Float) → T (fits binary64 y) → T (clear y) → T (le y (fin false 0 (pos 0))) → y ≡ fin false 0 (pos 0)
unfolding le
at_nought nan f c h = absurd h
at_nought (inf true) f c h = absurd c
at_nought (inf false) f c h = absurd h
at_nought (fin true m e) f c h = absurd c
at_nought (fin false m e) f c h = zero_is false m e f (nought (m * up e) (0 * 1 * down e) (zero-mul (down e)) (lt_or_eq (m * up e * 1) (0 * 1 * down e) h))
  where
    nought : (a b : ℕ) → b ≡ 0 → a * 1 ≤ b → a ≡ 0
    nought a b z h = omega arith

too_low : (k : ℕ) → 1074 ≤ k → pow2_of binary64 (negsuc k) ≡ fin false 0 (pos 0)
too_low k h =
    pow2_of_is (negsuc k)
    ∙ at_nought (round binary64 false 1 (2 ^ suc k)) (round-fits binary64 false 1 (2 ^ suc k)) (round_clear binary64 1 (2 ^ suc k))
    (subst (λ (z : Float). T (le (round binary64 false 1 (2 ^ suc k)) z)) underflows (round_mono binary64 1 (2 ^ suc k) 1 (2 ^ 1075) (pow_pos (suc k)) (pow_pos 1075) (mul-le-mul_left 1 (pow_mono (more k h)))))
  where
    more : (k : ℕ) → 1074 ≤ k → 1075 ≤ suc k
    more k h = omega arith

pub bottom : (n : ℤ) → SFits w64 n → le_z (negsuc 1073) (back n) ≡ false → fin false 0 (pos 0) ≡ pow2_of binary64 n
bottom n F a = at n (subst (λ (z : ℤ). le_z (negsuc 1073) z ≡ false) (to_z-of_z w64 n F) a)
  where
    at : (n : ℤ) → le_z (negsuc 1073) n ≡ false → fin false 0 (pos 0) ≡ pow2_of binary64 n
    at (pos k) a = absurd (true≢false a)
    at (negsuc k) a = sym (too_low k (nleb→lt k 1073 (T_from_false _ a)))
