-- Tests as facts, whole numbers that cast, zeros, and that std's `floor` is `floor_of`. Assumes nothing.
use Rattle.std.proofs.Common.{◌≡◌, ℕ, ◌+◌, ◌-◌, ◌*◌, ◌/◌, ◌^◌, ◌<◌, ◌≤◌, Bool, true, false, T, ℤ, pos, sym, refl, ap, ◌∙◌, zero-lt-suc, zero-mul, mul-one, arith, le→leb, eqb, eqb→eq, not, suc, div-one, le_trans, nltb→le, ltb→lt, lt_irrefl, lt_of_lt_of_le, lt_of_le_of_lt, le-mul_of_pos_right, pow_pos, le_of_eq, add-zero, one-mul, negsuc, zero-le}
use lib.Ieee.{Float, nan, inf, fin, binary64, up, down, round, fits, in_float, eq, lt, neg}
use lib.Ieee.Fits.{down_pos, and_l, and_r}
use Rattle.std.specs.Float as float
use Rattle.doubles.specs.Arithmetic as arithmetic
use Rattle.doubles.specs.Floor.{floor_of}
use Rattle.doubles.proofs.Magnitude.{same_value, small_enough, round_self}

abbrev pub zero_f : Float
zero_f = arithmetic.zero64

-- a whole number of at most 53 digits, or 2 ^ 53, casts
pub casts : (n : ℕ) → n ≤ 2 ^ 53 → T (in_float binary64 (pos n))
unfolding in_float
casts n h = le→leb n (2 ^ 53) h

-- ---- a zero
pub zero_is : (s : Bool) (m : ℕ) (e : ℤ) → T (fits binary64 (fin s m e)) → m * up e ≡ 0 → fin s m e ≡ fin s 0 (pos 0)
zero_is s m e h z = same_value binary64 (fin s m e) (fin s 0 (pos 0)) s 0 1 (zero-lt-suc 0) h (unfold fits in tt) (refl, mul-one (m * up e) ∙ z ∙ sym (zero-mul (down e))) (refl, refl)

nought : (s : Bool) (m : ℕ) (e : ℤ) → T (eq (fin s m e) zero_f) → m * up e ≡ 0
unfolding eq
nought false m e z = none (m * up e) (down e) (eqb→eq (m * up e * 1) (0 * 1 * down e) (and_l (eqb (m * up e * 1) (0 * 1 * down e)) true z))
  where
    none : (a d : ℕ) → a * 1 ≡ 0 * 1 * d → a ≡ 0
    none a d h = sym (mul-one a) ∙ h ∙ zero-mul d
nought true m e z = none (m * up e) (eqb→eq (m * up e * 1) 0 (and_r (eqb (m * up e * 1) (0 * 1 * down e)) (eqb (m * up e * 1) 0) z))
  where
    none : (a : ℕ) → a * 1 ≡ 0 → a ≡ 0
    none a h = sym (mul-one a) ∙ h

-- ---- from 2 ^ 53 up in size a double is its own floor
-- 2 ^ 53
abbrev pub B : Float
B = fin false 1 (pos 53)

too_large : (m k : ℕ) → m < 2 ^ 53 → 2 ^ 53 * 2 ^ suc k ≤ m * 1 → ⊥
too_large m k h l = lt_irrefl m (lt_of_lt_of_le h (le_trans (le-mul_of_pos_right (2 ^ 53) (pow_pos (suc k))) (le_trans l (le_of_eq (mul-one m)))))

stays : (s : Bool) (m : ℕ) (e : ℤ) → T (fits binary64 (fin s m e)) → 2 ^ 53 * down e ≤ m * up e → floor_of binary64 (fin s m e) ≡ fin s m e
unfolding floor_of
stays false m (pos k) h l = ap (λ (z : ℕ). round binary64 false z 1) (div-one (m * 2 ^ k)) ∙ round_self binary64 (fin false m (pos k)) h tt
stays true m (pos k) h l = ap (λ (z : ℕ). round binary64 true z 1) (div-one (m * 2 ^ k + 0) ∙ add-zero (m * 2 ^ k)) ∙ round_self binary64 (fin true m (pos k)) h tt
stays s m (negsuc k) h l = absurd (too_large m k (small_enough binary64 s m (negsuc k) h) l)

tidy : (a b c : ℕ) → 1 * b * c ≤ a * 1 → b * c ≤ a
tidy a b c h = le_trans (le_of_eq (ap (λ (z : ℕ). z * c) (sym (one-mul b)))) (le_trans h (le_of_eq (mul-one a)))

pub high : (x : Float) → T (fits binary64 x) → T (lt zero_f x) → T (not (lt x B)) → x ≡ floor_of binary64 x
unfolding lt
high nan h p q = absurd p
high (inf s) h p q = unfold floor_of in refl
high (fin true m e) h p q = absurd p
high (fin false m e) h p q = sym (stays false m e h (tidy (m * up e) (2 ^ 53) (down e) (nltb→le (m * up e * 1) (1 * 2 ^ 53 * down e) q)))

pub deep : (x : Float) → T (fits binary64 x) → T (lt x zero_f) → T (not (lt (neg B) x)) → x ≡ floor_of binary64 x
unfolding lt neg
deep nan h p q = absurd p
deep (inf s) h p q = unfold floor_of in refl
deep (fin true m e) h p q = sym (stays true m e h (tidy (m * up e) (2 ^ 53) (down e) (nltb→le (m * up e * 1) (1 * 2 ^ 53 * down e) q)))
deep (fin false m e) h p q = absurd (lt_irrefl 0 (lt_of_le_of_lt zero-le (lt_of_lt_of_le (ltb→lt (m * up e * 1) (0 * 1 * down e) p) (le_of_eq (zero-mul (down e))))))

-- ---- a zero is its own floor
zero_stays : (s : Bool) → fin s 0 (pos 0) ≡ floor_of binary64 (fin s 0 (pos 0))
unfolding floor_of
zero_stays false = refl
zero_stays true = refl

zero_whole : (s : Bool) (m : ℕ) (e : ℤ) → T (fits binary64 (fin s m e)) → m * up e ≡ 0 → fin s m e ≡ floor_of binary64 (fin s m e)
zero_whole s m e h z = let i = zero_is s m e h z in i ∙ zero_stays s ∙ ap (floor_of binary64) (sym i)

pub floor_zero : (x : Float) → T (fits binary64 x) → T (eq x zero_f) → x ≡ floor_of binary64 x
floor_zero nan h z = unfold floor_of in refl
floor_zero (inf s) h z = unfold floor_of in refl
floor_zero (fin s m e) h z = zero_whole s m e h (nought s m e z)

-- what is neither above zero nor below it
pub neither : (x : Float) → T (fits binary64 x) → T (not (lt zero_f x)) → T (not (lt x zero_f)) → x ≡ floor_of binary64 x
unfolding lt
neither nan h p q = unfold floor_of in refl
neither (inf s) h p q = unfold floor_of in refl
neither (fin true m e) h p q = zero_whole true m e h (none (m * up e) (0 * 1 * down e) (nltb→le 0 (m * up e * 1 + 0 * 1 * down e) q))
  where
    none : (a b : ℕ) → a * 1 + b ≤ 0 → a ≡ 0
    none a b h = omega arith
neither (fin false m e) h p q = zero_whole false m e h (none (m * up e) (0 * 1 * down e) (zero-mul (down e)) (nltb→le (0 * 1 * down e) (m * up e * 1) p))
  where
    none : (a b : ℕ) → b ≡ 0 → a * 1 ≤ b → a ≡ 0
    none a b z h = omega arith

-- ---- std's floor
pub std_floor : (x : Float) → float.floor binary64 x ≡ floor_of binary64 x
unfolding float.round_with floor_of
std_floor nan = refl
std_floor (inf s) = refl
std_floor (fin false m e) = refl
std_floor (fin true m e) = ap (λ (n : ℕ). round binary64 true (n / down e) 1) (more (m * up e) (down e) (down_pos e))
  where
    more : (n d : ℕ) → 0 < d → n + d - 1 ≡ n + (d - 1)
    more n d h = omega arith
