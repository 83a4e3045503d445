-- The difference of two whole numbers as doubles is exact. Assumes nothing.
use Rattle.std.proofs.Common.{◌≡◌, ℕ, suc, ◌-◌, ◌*◌, ◌^◌, ◌<◌, ◌≤◌, true, false, ltb, ◌⊎◌, pos, sym, refl, ap, ◌∙◌, inl, inr, true≢false, le_trans, le_of_eq, lt_of_lt_of_le, lt_of_le_of_lt, mul-le-mul_right, zero-lt-suc, mul_assoc, mul_comm, mul-lt-mul_of_pos_right, mul-pos, mul-one, mul_right_comm, arith, lit≤, lt→ltb}
use Rattle.std.proofs.lemmas.Bool.{cases_lt}
use native.Mathlib.Nat.{mul-sub}
use lib.Arith.{le→nltb}
use lib.Ieee.{Float, nan, inf, fin, Format, binary64, up, down, minus, round, sum, add, sub, neg, of_int, of_bits}
use lib.Ieee.Fits.{down_pos}
use lib.Ieee.Bits.{cond_no}
use lib.Ieee.Exact.{HasValue}
use lib.Ieee.Back.{round_whole}
use lib.Ieee.Scale.{round_same}
use Rattle.doubles.proofs.Exponents.{cond_yes, minus_neg, minus_pos}

-- n C / C - k C / C, by which is the larger
parts : (f : Format) (n k A B C : ℕ) → 0 < C → A ≡ n * C → B ≡ k * C → sum f false A true B C ≡ of_int f (minus n k)
unfolding sum of_int
parts f n k A B C P a b = go (cases_lt n k)
  where
    over : (n k A B : ℕ) → A ≡ n * C → B ≡ k * C → (A - B) * 1 ≡ (n - k) * C
    over n k A B a b = mul-one (A - B) ∙ ap (λ (z : ℕ). z - B) (a ∙ mul_comm n C) ∙ ap (λ (z : ℕ). C * n - z) (b ∙ mul_comm k C) ∙ sym (mul-sub C n k) ∙ mul_comm C (n - k)

    go : (n < k) ⊎ (k ≤ n) → sum f false A true B C ≡ of_int f (minus n k)
    go (inl h) =
        let l : A < B = lt_of_le_of_lt (le_of_eq a) (lt_of_lt_of_le (mul-lt-mul_of_pos_right h P) (le_of_eq (sym b))) in
        let e : k - n ≡ suc (k - suc n) = omega arith in
        cond_yes (ltb A B) (round f true (B - A) C) (round f false (A - B) C) (lt→ltb A B l)
        ∙ round_same f true (B - A) C (k - n) 1 P (zero-lt-suc 0) (over k n B A b a)
        ∙ ap (λ (z : ℕ). round f true z 1) e
        ∙ ap (of_int f) (sym (minus_neg n k h))
    go (inr h) =
        let l : B ≤ A = le_trans (le_of_eq b) (le_trans (mul-le-mul_right C h) (le_of_eq (sym a))) in
        cond_no (ltb A B) (round f true (B - A) C) (round f false (A - B) C) (le→nltb A B l)
        ∙ round_same f false (A - B) C (n - k) 1 P (zero-lt-suc 0) (over n k A B a b)
        ∙ ap (of_int f) (sym (minus_pos n k h))

pub sub_whole : (f : Format) (x y : Float) (n k : ℕ) → HasValue x false n 1 → HasValue y false k 1 → sub f x y ≡ of_int f (minus n k)
unfolding sub add neg
sub_whole f nan y n k v w = absurd v
sub_whole f (inf s) y n k v w = absurd v
sub_whole f (fin s m e) nan n k v w = absurd w
sub_whole f (fin s m e) (inf t) n k v w = absurd w
sub_whole f (fin true m e) (fin t p g) n k v w = absurd (true≢false v.0)
sub_whole f (fin false m e) (fin true p g) n k v w = absurd (true≢false w.0)
sub_whole f (fin false m e) (fin false p g) n k v w =
    parts f n k (m * up e * down g) (p * up g * down e) (down e * down g) (mul-pos (down_pos e) (down_pos g))
    (ap (λ (z : ℕ). z * down g) (sym (mul-one (m * up e)) ∙ v.1) ∙ mul_assoc n (down e) (down g))
    (ap (λ (z : ℕ). z * down e) (sym (mul-one (p * up g)) ∙ w.1) ∙ mul_right_comm k (down g) (down e) ∙ mul_assoc k (down e) (down g))

-- the exponent, from the field
bias_is : of_bits binary64 0x408f_f000_0000_0000 ≡ of_int binary64 (pos 1022)
unfolding of_bits of_int round
bias_is = refl

whole_value : (n : ℕ) → n ≤ 2 ^ 53 → HasValue (of_int binary64 (pos n)) false n 1
unfolding of_int
whole_value n h = round_whole binary64 false n h

pub exponent_is : (n : ℕ) → n ≤ 2 ^ 53 → sub binary64 (of_int binary64 (pos n)) (of_bits binary64 0x408f_f000_0000_0000) ≡ of_int binary64 (minus n 1022)
exponent_is n h = rw bias_is (sub_whole binary64 (of_int binary64 (pos n)) (of_int binary64 (pos 1022)) n 1022 (whole_value n h) (whole_value 1022 (lit≤ tt)))
