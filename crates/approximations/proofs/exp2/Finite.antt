-- Of a v from -1022 up and below 1023 the product is finite, so that `exp2_near` need not test it: v - n is up to 1, the polynomial of that up to 5/2, and 2 ^ n up to 2 ^ 1022. Assumes nothing.
use Rattle.std.proofs.Common.{◌≡◌, ℕ, zero, suc, ◌+◌, ◌-◌, ◌*◌, ◌/◌, ◌^◌, ◌<◌, ◌≤◌, Bool, true, false, not, T, ℤ, pos, negsuc, neg_ℤ, sym, refl, ◌∙◌, subst, le_trans, le_of_eq, le_refl, le_of_lt, mul-le-mul_right, zero-lt-suc, mul_comm, div-lt_iff_lt-mul, mul-le-mul, mul-pos, zero-mul, mul-one, le-mul_of_pos_right, div-mul-le_self, arith, lit≤, leb→le, pow_pos, pow_mono}
use native.Mathlib.Nat.{lt-div-mul-add}
use lib.Signed.{le_z}
use lib.Ieee.{Float, nan, inf, fin, binary64, low, up, down, round, sum, add, sub, neg, mul, lt, le, eq, fits, to_signed}
use lib.Ieee.Fits.{up_pos, down_pos, round-fits}
use lib.Ieee.Scale.{finite}
use Rattle.doubles.specs.Arithmetic.{◌⊕◌, ◌⊖◌, ◌⊗◌, dec, from_int, one64}
use Rattle.doubles.specs.Floor.{floor_of}
use Rattle.doubles.specs.Power.{pow2_of}
use Rattle.doubles.proofs.Magnitude.{mag, plain, plain_finite}
use Rattle.doubles.proofs.Order.{mag_le, round_under_value}
use Rattle.doubles.proofs.Interpolation.{one_fits}
use Rattle.doubles.proofs.Differences.{UpTo, up_to_self, mul_up_to_both, add_up_to_both}
use Rattle.doubles.proofs.Fractions.{add_of, sum_plain, sum_turned}
use Rattle.doubles.proofs.AddZero.{minus_zero}
use Rattle.doubles.proofs.Floors.{zero_f, zero_is}
use Rattle.doubles.proofs.NearestWhole.{int_value, floor_int, floor_int_lem, up_to}
use Rattle.approximations.specs.Exp2.{polynomial_of, finite_or_zero, exp2_of}
use Rattle.approximations.proofs.exp2.Exponent.{whole_back}
use Rattle.doubles.proofs.Ratio.{neg_value}
use Rattle.approximations.proofs.exp2.Sign.{up_from}
use Rattle.approximations.proofs.exp2.Ranges.{Bound, bound, room, exponent_bounds, product_is}

-- ---- the fraction v - n
one_units : 2 ^ low binary64 ≤ mag binary64 one64
one_units = lit≤ tt

one_to_units : mag binary64 one64 ≤ 2 ^ low binary64
one_to_units = lit≤ tt

rounded_to_one : (x : Float) (a c : ℕ) → 0 < c → a ≤ c → x ≡ round binary64 false a c → UpTo binary64 one64 x
rounded_to_one x a c C h e =
    let u = 2 ^ low binary64 in
    let r = round_under_value binary64 a c one64 (one_fits binary64) tt C (le_trans (mul-le-mul_right u h) (le_trans (le_of_eq (mul_comm c u)) (mul-le-mul_right c one_units))) in
    let f = round-fits binary64 false a c in
    subst (λ (z : Float). UpTo binary64 one64 z) (sym e) (f, r.0, mag_le binary64 (round binary64 false a c) one64 f (one_fits binary64) r.0 tt r.1)

some : (D : ℕ) → 0 < D → 0 < D * 1
some D P = omega arith

-- v from 0 up, n no more than v
plus_fraction : (m : ℕ) (e : ℤ) (q : ℕ) → q ≤ 2 ^ 53 → q * down e ≤ m * up e → m * up e ≤ q * down e + down e → UpTo binary64 one64 (fin false m e ⊖ from_int (pos q))
plus_fraction m e q h lo hi =
    rounded_to_one (fin false m e ⊖ from_int (pos q)) (m * up e * 1 - q * down e) (down e * 1) (some (down e) (down_pos e)) (omega arith)
    (unfold sub in
    add_of binary64 (fin false m e) (neg (from_int (pos q))) false (m * up e) (down e) true q 1 (down_pos e) (zero-lt-suc 0) (refl, refl) (neg_value (from_int (pos q)) false q 1 (int_value (pos q) h))
    ∙ sum_plain binary64 (m * up e * 1) (q * down e) (down e * 1) (omega arith))

-- v below 0, |n| no less than |v|
minus_fraction : (m : ℕ) (e : ℤ) (k : ℕ) → suc k ≤ 2 ^ 53 → m * up e ≤ suc k * down e → suc k * down e ≤ m * up e + down e → UpTo binary64 one64 (fin true m e ⊖ from_int (negsuc k))
minus_fraction m e k h lo hi =
    rounded_to_one (fin true m e ⊖ from_int (negsuc k)) (suc k * down e - m * up e * 1) (down e * 1) (some (down e) (down_pos e)) (omega arith)
    (unfold sub in
    add_of binary64 (fin true m e) (neg (from_int (negsuc k))) true (m * up e) (down e) false (suc k) 1 (down_pos e) (zero-lt-suc 0) (refl, refl) (neg_value (from_int (negsuc k)) true (suc k) 1 (int_value (negsuc k) h))
    ∙ sum_turned binary64 (m * up e * 1) (suc k * down e) (down e * 1) (omega arith))

-- n is the floor of v, and v is not -0
fraction : (s : Bool) (m : ℕ) (e : ℤ) → Bound s (m * up e) (down e) → T (not (minus_zero (fin s m e))) → UpTo binary64 one64 (fin s m e ⊖ from_int (floor_int s (m * up e) (down e)))
fraction false m e b n =
    let a = m * up e in
    let D = down e in
    let q = a / D in
    let h : q < 1023 = (div-lt_iff_lt-mul (down_pos e)).1 b in
    plus_fraction m e q (omega arith) (div-mul-le_self a D) (le_of_lt (lt-div-mul-add (down_pos e)))
fraction true zero e b n = absurd n
fraction true (suc m) e b n = at ((a + (D - 1)) / D) (up_to a D 1022 (down_pos e) b) (up_from a D (down_pos e)) (div-mul-le_self (a + (D - 1)) D)
  where
    a : ℕ
    a = suc m * up e

    D : ℕ
    D = down e

    at : (c : ℕ) → c ≤ 1022 → a ≤ c * D → c * D ≤ a + (D - 1) → UpTo binary64 one64 (fin true (suc m) e ⊖ from_int (neg_ℤ (pos c)))
    at zero h lo hi = let g = mul-pos (zero-lt-suc m) (up_pos e) in absurd (omega arith)
    at (suc k) h lo hi = minus_fraction (suc m) e k (omega arith) lo (omega arith)

-- ---- the polynomial of a fraction
abbrev A1 : Float
A1 = dec 686279297 9

abbrev A2 : Float
A2 = dec 254821777 9

abbrev A3 : Float
A3 = dec 588989258 10

-- a coefficient times a fraction is up to the coefficient
scaled : (n k : ℕ) (x t : Float) → T (plain (dec n k)) → UpTo binary64 (dec n k) x → UpTo binary64 one64 t → UpTo binary64 (dec n k) (x ⊗ t)
scaled n k x t p v w =
    let h = round-fits binary64 false n (10 ^ k) in
    mul_up_to_both binary64 (dec n k) one64 (dec n k) x t h (one_fits binary64) h p tt p (mul-le-mul (le_refl (mag binary64 (dec n k))) one_to_units) v w

first_plain : T (plain A1)
unfolding round
first_plain = tt

second_plain : T (plain A2)
unfolding round
second_plain = tt

third_plain : T (plain A3)
unfolding round
third_plain = tt

-- 7/4, 9/4 and 5/2
abbrev after_first : Float
after_first = fin false 7 (negsuc 1)

abbrev after_second : Float
after_second = fin false 9 (negsuc 1)

abbrev after_third : Float
after_third = fin false 5 (negsuc 0)

after_fits : T (fits binary64 after_first) × T (fits binary64 after_second) × T (fits binary64 after_third)
unfolding fits
after_fits = (tt, tt, tt)

first_room : mag binary64 one64 + mag binary64 A1 ≤ mag binary64 after_first
unfolding round
first_room = lit≤ tt

second_room : mag binary64 after_first + mag binary64 A2 ≤ mag binary64 after_second
unfolding round
second_room = lit≤ tt

third_room : mag binary64 after_second + mag binary64 A3 ≤ mag binary64 after_third
unfolding round
third_room = lit≤ tt

polynomial_up_to : (x : Float) → UpTo binary64 one64 x → UpTo binary64 after_third (polynomial_of x)
polynomial_up_to x u =
    let f1 = round-fits binary64 false 686279297 (10 ^ 9) in
    let f2 = round-fits binary64 false 254821777 (10 ^ 9) in
    let f3 = round-fits binary64 false 588989258 (10 ^ 10) in
    let a = scaled 686279297 9 A1 x first_plain (up_to_self binary64 A1 f1 first_plain) u in
    let b = scaled 254821777 9 (A2 ⊗ x) x second_plain (scaled 254821777 9 A2 x second_plain (up_to_self binary64 A2 f2 second_plain) u) u in
    let c = scaled 588989258 10 (A3 ⊗ x ⊗ x) x third_plain (scaled 588989258 10 (A3 ⊗ x) x third_plain (scaled 588989258 10 A3 x third_plain (up_to_self binary64 A3 f3 third_plain) u) u) u in
    let p = add_up_to_both binary64 one64 A1 after_first one64 (A1 ⊗ x) (one_fits binary64) f1 after_fits.0 tt first_plain tt first_room (up_to_self binary64 one64 (one_fits binary64) tt) a in
    let q = add_up_to_both binary64 after_first A2 after_second (one64 ⊕ A1 ⊗ x) (A2 ⊗ x ⊗ x) after_fits.0 f2 after_fits.1 tt second_plain tt second_room p b in
    add_up_to_both binary64 after_second A3 after_third (one64 ⊕ A1 ⊗ x ⊕ A2 ⊗ x ⊗ x) (A3 ⊗ x ⊗ x ⊗ x) after_fits.1 f3 after_fits.2 tt third_plain tt third_room q c

-- ---- the power, up to 2 ^ 1022
abbrev greatest_power : Float
greatest_power = fin false 1 (pos 1022)

power_fits : T (fits binary64 greatest_power)
unfolding fits
power_fits = tt

power_units : 2 ^ 1022 * 2 ^ low binary64 ≤ mag binary64 greatest_power
power_units = lit≤ tt

power_room : (z : ℤ) → T (le_z z (pos 1022)) → up z * 2 ^ low binary64 ≤ mag binary64 greatest_power * down z
power_room (pos k) h = le_trans (mul-le-mul_right (2 ^ low binary64) (pow_mono (leb→le k 1022 h))) (le_trans power_units (le_of_eq (sym (mul-one (mag binary64 greatest_power)))))
power_room (negsuc k) h = le_trans (mul-le-mul_right (2 ^ low binary64) (pow_pos 1022)) (le_trans power_units (le-mul_of_pos_right (mag binary64 greatest_power) (down_pos (negsuc k))))

power_up_to : (z : ℤ) → T (le_z z (pos 1022)) → UpTo binary64 greatest_power (pow2_of binary64 z)
unfolding pow2_of
power_up_to z h =
    let f = round-fits binary64 false (up z) (down z) in
    let r = round_under_value binary64 (up z) (down z) greatest_power power_fits tt (down_pos z) (power_room z h) in
    (f, r.0, mag_le binary64 (round binary64 false (up z) (down z)) greatest_power f power_fits r.0 tt r.1)

-- ---- the product, up to 5/2 * 2 ^ 1022
abbrev greatest_product : Float
greatest_product = fin false 5 (pos 1021)

product_fits : T (fits binary64 greatest_product)
unfolding fits
product_fits = tt

product_room : mag binary64 after_third * mag binary64 greatest_power ≤ mag binary64 greatest_product * 2 ^ low binary64
product_room = lit≤ tt

-- with n the floor of v
abbrev Finite : Float → Float → Type 0
Finite v n = T (finite (polynomial_of (v ⊖ n) ⊗ pow2_of binary64 (to_signed 31 n)))

near_finite : (s : Bool) (m : ℕ) (e : ℤ) → Bound s (m * up e) (down e) → T (not (minus_zero (fin s m e))) → Finite (fin s m e) (from_int (floor_int s (m * up e) (down e)))
near_finite s m e b n =
    let v = fin s m e in
    let z = floor_int s (m * up e) (down e) in
    let r = exponent_bounds s (m * up e) (down e) (down_pos e) b in
    let u = polynomial_up_to (v ⊖ from_int z) (fraction s m e b n) in
    let w = power_up_to z r.1 in
    let t = mul_up_to_both binary64 after_third greatest_power greatest_product (polynomial_of (v ⊖ from_int z)) (pow2_of binary64 z) after_fits.2 power_fits product_fits tt tt tt product_room u w in
    subst (λ (k : ℤ). T (finite (polynomial_of (v ⊖ from_int z) ⊗ pow2_of binary64 k))) (sym (whole_back z r.0 r.1)) (plain_finite (polynomial_of (v ⊖ from_int z) ⊗ pow2_of binary64 z) t.1)

at_minus_zero : Finite (fin true 0 (pos 0)) (floor_of binary64 (fin true 0 (pos 0)) ⊕ zero_f)
unfolding pow2_of floor_of to_signed add sub neg mul sum round
at_minus_zero = tt

finite_at : (s : Bool) (m : ℕ) (e : ℤ) → Bound s (m * up e) (down e) → T (not (minus_zero (fin s m e))) → Finite (fin s m e) (floor_of binary64 (fin s m e) ⊕ zero_f)
finite_at s m e b n = subst (Finite (fin s m e)) (sym (floor_int_lem s m e (room s m e b))) (near_finite s m e b n)

product_finite : (v : Float) → T (fits binary64 v) → T (le (fin true 511 (pos 1)) v) → T (lt v (fin false 1023 (pos 0))) → Finite v (floor_of binary64 v ⊕ zero_f)
product_finite nan F p q = unfold lt in absurd q
product_finite (inf true) F p q = unfold le lt eq in absurd p
product_finite (inf false) F p q = unfold lt in absurd q
product_finite (fin false m e) F p q = finite_at false m e (bound false m e p q) tt
product_finite (fin true (suc m) e) F p q = finite_at true (suc m) e (bound true (suc m) e p q) tt
product_finite (fin true zero e) F p q = subst (λ (x : Float). Finite x (floor_of binary64 x ⊕ zero_f)) (sym (zero_is true 0 e F (zero-mul (up e)))) at_minus_zero

-- ---- so the product is the definition's
kept : (x : Float) → T (finite x) → finite_or_zero x ≡ x
kept nan t = absurd t
kept (inf s) t = absurd t
kept (fin s m e) t = refl

pub near_is : (v : Float) → T (fits binary64 v) → T (le (fin true 511 (pos 1)) v) → T (lt v (fin false 1023 (pos 0))) → polynomial_of (v ⊖ (floor_of binary64 v ⊕ zero_f)) ⊗ pow2_of binary64 (to_signed 31 (floor_of binary64 v ⊕ zero_f)) ≡ exp2_of v
near_is v F p q = sym (kept (polynomial_of (v ⊖ (floor_of binary64 v ⊕ zero_f)) ⊗ pow2_of binary64 (to_signed 31 (floor_of binary64 v ⊕ zero_f))) (product_finite v F p q)) ∙ product_is v F p q
