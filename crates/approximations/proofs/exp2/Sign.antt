-- `exp2_of` is finite, and its sign is clear, so that it is above 0 or 0: the fraction v - n has no sign, since n is no more than v, and all that is added and multiplied has none. Assumes nothing.
use Rattle.std.proofs.Common.{◌≡◌, ℕ, ◌+◌, ◌-◌, ◌*◌, ◌/◌, ◌^◌, ◌<◌, ◌≤◌, Bool, true, false, cond, not, T, ℤ, sym, refl, ap, ◌∙◌, subst, le_trans, le_of_eq, mul-le-mul_right, zero-lt-suc, mul-one, mul_right_comm, div-mul-le_self, le_of_mul-le-mul_right, arith, pow_pos}
use native.Mathlib.Nat.{lt-div-mul-add}
use lib.Ieee.{Float, nan, inf, fin, Format, binary64, low, up, down, round, add, sub, neg, lt, le, fits, to_signed}
use lib.Ieee.Fits.{down_pos, round-fits, neg-fits, mul-fits}
use lib.Ieee.Exact.{HasValue}
use lib.Ieee.Scale.{finite}
use Rattle.doubles.specs.Arithmetic.{◌⊕◌, ◌⊖◌, ◌⊗◌, dec, zero64, one64}
use Rattle.doubles.specs.Floor.{floor_of}
use Rattle.doubles.specs.Power.{pow2_of}
use Rattle.approximations.specs.Exp2.{polynomial_of, outside32, finite_or_zero, exp2_at, exp2_of}
use Rattle.doubles.proofs.Magnitude.{mag, mag_val, plain_val}
use Rattle.doubles.proofs.Order.{mag_mono, round_ge, round_under_value}
use Rattle.doubles.proofs.Signs.{clear, round_clear, cond_clear, add_clear, mul_clear}
use Rattle.doubles.proofs.Interpolation.{round_neg}
use Rattle.doubles.proofs.AddZero.{not_above}
use Rattle.doubles.proofs.Fractions.{add_of, sum_plain, sum_turned}
use Rattle.doubles.proofs.Ratio.{neg_value}

-- ---- finite
finite_cond : (x : Float) → T (finite (finite_or_zero x))
finite_cond nan = tt
finite_cond (inf s) = tt
finite_cond (fin s m e) = tt

finite_choice : (b : Bool) (x y : Float) → T (finite x) → T (finite y) → T (finite (cond b x y))
finite_choice true x y h k = h
finite_choice false x y h k = k

pub exp2_finite : (v : Float) → T (finite (exp2_of v))
unfolding exp2_of exp2_at
exp2_finite v =
    let n = floor_of binary64 v in
    let r = polynomial_of (v ⊖ n) ⊗ pow2_of binary64 (to_signed 31 n) in
    finite_choice (finite v) (exp2_at v n) zero64 (finite_choice (outside32 n) zero64 (finite_or_zero r) tt (finite_cond r)) tt

-- ---- x - y for a y up to x, and y - x
less_clear : (f : Format) (x y : Float) (a c b d : ℕ) → 0 < c → 0 < d → HasValue x false a c → HasValue y false b d → b * c ≤ a * d → T (clear (sub f x y))
unfolding sub
less_clear f x y a c b d C D v w h =
    subst (λ (z : Float). T (clear z)) (sym (add_of f x (neg y) false a c true b d C D v (neg_value y false b d w) ∙ sum_plain f (a * d) (b * c) (c * d) h)) (round_clear f (a * d - b * c) (c * d))

-- ---- the floor q / 1 of a / D, in units of 2 ^ -low
down_units : (a D q l M : ℕ) → 0 < D → q * D ≤ a → a * l ≡ M * D → q * l ≤ M * 1
down_units a D q l M P h e = le_of_mul-le-mul_right (le_trans (le_of_eq (mul_right_comm q l D)) (le_trans (mul-le-mul_right l h) (le_of_eq (e ∙ ap (λ (z : ℕ). z * D) (sym (mul-one M)))))) P

up_units : (a D q l M : ℕ) → 0 < D → a ≤ q * D → a * l ≡ M * D → M * 1 ≤ q * l
up_units a D q l M P h e = le_of_mul-le-mul_right (le_trans (le_of_eq (ap (λ (z : ℕ). z * D) (mul-one M) ∙ sym e)) (le_trans (mul-le-mul_right l h) (le_of_eq (mul_right_comm q D l)))) P

pub up_from : (a D : ℕ) → 0 < D → a ≤ (a + (D - 1)) / D * D
up_from a D P = let h : a + (D - 1) < (a + (D - 1)) / D * D + D = lt-div-mul-add P in omega arith

-- -|v| + w, for a w from |v| up
over_clear : (f : Format) (m : ℕ) (e : ℤ) (w : Float) → T (fits f (fin false m e)) → T (fits f w) → T (clear w) → T (le (fin false m e) w) → T (clear (add f (fin true m e) w))
over_clear f m e nan h k c l = unfold add in tt
over_clear f m e (inf s) h k c l = unfold add in c
over_clear f m e (fin true n g) h k c l = absurd c
over_clear f m e (fin false n g) h k c l =
    let u = 2 ^ low f in
    let U = pow_pos (low f) in
    let x = fin false m e in
    let y = fin false n g in
    subst (λ (z : Float). T (clear z)) (sym (add_of f (fin true m e) y true (mag f x) u false (mag f y) u U U (refl, (mag_val f x h tt).1) (plain_val f y k tt) ∙ sum_turned f (mag f x * u) (mag f y * u) (u * u) (mul-le-mul_right u (mag_mono f x y h k tt tt l)))) (round_clear f (mag f y * u - mag f x * u) (u * u))

twice : (w : Float) → neg (neg w) ≡ w
unfolding neg
twice nan = refl
twice (inf true) = refl
twice (inf false) = refl
twice (fin true m e) = refl
twice (fin false m e) = refl

pub fraction_clear : (f : Format) (v : Float) → T (fits f v) → T (finite v) → T (clear (sub f v (floor_of f v)))
unfolding floor_of sub
fraction_clear f nan h t = absurd t
fraction_clear f (inf s) h t = absurd t
fraction_clear f (fin false m e) h t =
    let x = fin false m e in
    let q = m * up e / down e in
    let u = 2 ^ low f in
    let U = pow_pos (low f) in
    let r = round_under_value f q 1 x h tt (zero-lt-suc 0) (down_units (m * up e) (down e) q u (mag f x) (down_pos e) (div-mul-le_self (m * up e) (down e)) (mag_val f x h tt).1) in
    let y = round f false q 1 in
    less_clear f x y (mag f x) u (mag f y) u U U (plain_val f x h tt) (plain_val f y (round-fits f false q 1) r.0) (mul-le-mul_right u r.1)
fraction_clear f (fin true m e) h t =
    let x = fin false m e in
    let k : T (fits f x) = subst (λ (z : Float). T (fits f z)) (unfold neg in refl) (neg-fits f (fin true m e) h) in
    let q = (m * up e + (down e - 1)) / down e in
    let l = round_ge f q 1 x k tt (zero-lt-suc 0) (up_units (m * up e) (down e) q (2 ^ low f) (mag f x) (down_pos e) (up_from (m * up e) (down e) (down_pos e)) (mag_val f x k tt).1) in
    let w = round f false q 1 in
    subst (λ (z : Float). T (clear (add f (fin true m e) z))) (sym (ap neg (round_neg f q 1) ∙ twice w)) (over_clear f m e w k (round-fits f false q 1) (round_clear f q 1) l)

-- ---- clear
polynomial_clear : (x : Float) → T (clear x) → T (clear (polynomial_of x))
polynomial_clear x c =
    let a = dec 686279297 9 in
    let b = dec 254821777 9 in
    let d = dec 588989258 10 in
    let A = mul_clear binary64 a x (round_clear binary64 686279297 (10 ^ 9)) c in
    let B = mul_clear binary64 (b ⊗ x) x (mul_clear binary64 b x (round_clear binary64 254821777 (10 ^ 9)) c) c in
    let D = mul_clear binary64 (d ⊗ x ⊗ x) x (mul_clear binary64 (d ⊗ x) x (mul_clear binary64 d x (round_clear binary64 588989258 (10 ^ 10)) c) c) c in
    add_clear binary64 (one64 ⊕ a ⊗ x ⊕ b ⊗ x ⊗ x) (d ⊗ x ⊗ x ⊗ x) (add_clear binary64 (one64 ⊕ a ⊗ x) (b ⊗ x ⊗ x) (add_clear binary64 one64 (a ⊗ x) tt A) B) D

power_clear : (z : ℤ) → T (clear (pow2_of binary64 z))
unfolding pow2_of
power_clear z = round_clear binary64 (up z) (down z)

pub exp2_clear : (v : Float) → T (fits binary64 v) → T (clear (exp2_of v))
unfolding exp2_of exp2_at
exp2_clear nan h = tt
exp2_clear (inf s) h = tt
exp2_clear (fin s m e) h =
    let v = fin s m e in
    let n = floor_of binary64 v in
    let r = polynomial_of (v ⊖ n) ⊗ pow2_of binary64 (to_signed 31 n) in
    cond_clear (outside32 n) zero64 (finite_or_zero r) tt
    (cond_clear (finite r) r zero64 (mul_clear binary64 (polynomial_of (v ⊖ n)) (pow2_of binary64 (to_signed 31 n)) (polynomial_clear (v ⊖ n) (fraction_clear binary64 v h tt)) (power_clear (to_signed 31 n))) tt)

-- ---- where it is not above 0, it is 0
pub exp2_fits : (v : Float) → T (fits binary64 (exp2_of v))
unfolding exp2_of exp2_at
exp2_fits v =
    let n = floor_of binary64 v in
    let r = polynomial_of (v ⊖ n) ⊗ pow2_of binary64 (to_signed 31 n) in
    choice (finite v) (exp2_at v n) zero64
    (choice (outside32 n) zero64 (finite_or_zero r) none (choice (finite r) r zero64 (mul-fits binary64 (polynomial_of (v ⊖ n)) (pow2_of binary64 (to_signed 31 n))) none)) none
  where
    none : T (fits binary64 zero64)
    none = unfold fits in tt

    choice : (b : Bool) (x y : Float) → T (fits binary64 x) → T (fits binary64 y) → T (fits binary64 (cond b x y))
    choice true x y h k = h
    choice false x y h k = k

pub exp2_zero : (v : Float) → T (fits binary64 v) → T (not (lt zero64 (exp2_of v))) → exp2_of v ≡ zero64
exp2_zero v h l = not_above binary64 (exp2_of v) (exp2_fits v) (exp2_finite v) (exp2_clear v h) l
