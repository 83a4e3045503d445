-- Adding +0 changes nothing but -0, which becomes +0. Assumes nothing.
use Rattle.std.proofs.Common.{◌≡◌, ℕ, zero, suc, ◌-◌, ◌*◌, ◌<◌, Bool, true, false, cond, not, ◌&&◌, T, ltb, ℤ, pos, sym, refl, ap, ◌∙◌, subst, zero-le, lt_irrefl, zero-lt-suc, mul-pos, zero-mul, mul-one, lt→ltb, T_not}
use native.Mathlib.Nat.{sub-zero}
use native.Mathlib.Nat as nat
use lib.Arith.{le→nltb}
use lib.Ieee.{Float, nan, inf, fin, Format, up, down, round, sum, add, lt, fits}
use lib.Ieee.Fits.{up_pos, down_pos}
use lib.Ieee.Bits.{is_true, is_false}
use lib.Ieee.Exact.{HasValue}
use lib.Ieee.Scale.{finite}
use Rattle.doubles.proofs.Magnitude.{round_self, same_value}
use Rattle.doubles.proofs.Signs.{clear}
use Rattle.doubles.proofs.Fractions.{add_of}

abbrev pub minus_zero : Float → Bool
minus_zero nan = false
minus_zero (inf s) = false
minus_zero (fin false m e) = false
minus_zero (fin true zero e) = true
minus_zero (fin true (suc m) e) = false

pub clear_not : (x : Float) → T (clear x) → T (not (minus_zero x))
clear_not nan h = tt
clear_not (inf s) h = tt
clear_not (fin true m e) h = absurd h
clear_not (fin false m e) h = tt

-- a value of any size above 0
pub value_not : (x : Float) (s : Bool) (a c : ℕ) → 0 < a → HasValue x s a c → T (not (minus_zero x))
value_not nan s a c A v = tt
value_not (inf t) s a c A v = tt
value_not (fin false m e) s a c A v = tt
value_not (fin true (suc m) e) s a c A v = tt
value_not (fin true zero e) s a c A v = absurd (lt_irrefl 0 (subst (λ (z : ℕ). 0 < z) (sym v.1 ∙ ap (λ (z : ℕ). z * c) (zero-mul (up e)) ∙ zero-mul c) (mul-pos A (down_pos e))))

-- ±a / c + 0
sum_zero : (f : Format) (s : Bool) (a c : ℕ) → sum f s a false 0 c ≡ round f (s && ltb 0 a) a c
unfolding sum
sum_zero f false a c = ap (λ (z : ℕ). round f false z c) (nat.add-zero a)
sum_zero f true a c = ap (λ (b : Bool). cond b (round f false (0 - a) c) (round f (true && ltb 0 a) (a - 0) c)) (is_false (ltb a 0) (le→nltb a 0 zero-le)) ∙ ap (λ (z : ℕ). round f (ltb 0 a) z c) (sub-zero a)

pub plus_zero : (f : Format) (x : Float) (s : Bool) (a c : ℕ) → 0 < c → HasValue x s a c → add f x (fin false 0 (pos 0)) ≡ round f (s && ltb 0 a) a c
plus_zero f x s a c C v =
    add_of f x (fin false 0 (pos 0)) s a c false 0 1 C (zero-lt-suc 0) v (refl, refl)
    ∙ ap (λ (z : ℕ). sum f s z false (0 * c) (c * 1)) (mul-one a)
    ∙ ap (λ (z : ℕ). sum f s a false z (c * 1)) (zero-mul c)
    ∙ ap (λ (z : ℕ). sum f s a false 0 z) (mul-one c)
    ∙ sum_zero f s a c

pub add_zero_same : (f : Format) (x : Float) → T (fits f x) → T (not (minus_zero x)) → add f x (fin false 0 (pos 0)) ≡ x
add_zero_same f nan h n = unfold add in refl
add_zero_same f (inf s) h n = unfold add in refl
add_zero_same f (fin false m e) h n = plus_zero f (fin false m e) false (m * up e) (down e) (down_pos e) (refl, refl) ∙ round_self f (fin false m e) h tt
add_zero_same f (fin true zero e) h n = absurd n
add_zero_same f (fin true (suc m) e) h n =
    plus_zero f (fin true (suc m) e) true (suc m * up e) (down e) (down_pos e) (refl, refl)
    ∙ ap (λ (b : Bool). round f b (suc m * up e) (down e)) (is_true (ltb 0 (suc m * up e)) (lt→ltb 0 (suc m * up e) (mul-pos (zero-lt-suc m) (up_pos e))))
    ∙ round_self f (fin true (suc m) e) h tt

-- a zero that fits is written in the one way
pub zero_is : (f : Format) (s : Bool) (e : ℤ) → T (fits f (fin s 0 e)) → fin s 0 e ≡ fin s 0 (pos 0)
zero_is f s e h = same_value f (fin s 0 e) (fin s 0 (pos 0)) s 0 1 (zero-lt-suc 0) h (unfold fits in tt) (refl, mul-one (0 * up e) ∙ zero-mul (up e) ∙ sym (zero-mul (down e))) (refl, refl)

not_minus : (f : Format) (x : Float) → T (fits f x) → (x ≡ fin true 0 (pos 0) → ⊥) → T (not (minus_zero x))
not_minus f nan h n = tt
not_minus f (inf s) h n = tt
not_minus f (fin false m e) h n = tt
not_minus f (fin true zero e) h n = n (zero_is f true e h)
not_minus f (fin true (suc m) e) h n = tt

pub add-zero : (f : Format) (x : Float) → T (fits f x) → (x ≡ fin true 0 (pos 0) → ⊥) → add f x (fin false 0 (pos 0)) ≡ x
add-zero f x h n = add_zero_same f x h (not_minus f x h n)

-- a finite value that has no sign and is not above 0 is +0
pub not_above : (f : Format) (x : Float) → T (fits f x) → T (finite x) → T (clear x) → T (not (lt (fin false 0 (pos 0)) x)) → x ≡ fin false 0 (pos 0)
unfolding lt
not_above f nan h t c l = absurd t
not_above f (inf s) h t c l = absurd t
not_above f (fin true m e) h t c l = absurd c
not_above f (fin false zero e) h t c l = zero_is f false e h
not_above f (fin false (suc m) e) h t c l =
    absurd (T_not (ltb (0 * up (pos 0) * down e) (suc m * up e * down (pos 0))) l (lt→ltb (0 * up (pos 0) * down e) (suc m * up e * down (pos 0)) (above e (up e) (down e) (up_pos e))))
  where
    above : (e : ℤ) (a b : ℕ) → 0 < a → 0 * 1 * b < suc m * a * 1
    above e a b p = rw (zero-mul b) (mul-pos (mul-pos (zero-lt-suc m) p) (zero-lt-suc 0))
