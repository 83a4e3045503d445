-- What the proofs of `exp2_near` and `exp2_rest` cite: which numbers the floors of their values are, and that the code's products are the definition's. Assumes nothing.
use Rattle.doubles.proofs.Order.{at_least}
use Rattle.std.proofs.Common.{◌≡◌, ℕ, zero, suc, ◌+◌, ◌-◌, ◌*◌, ◌/◌, ◌^◌, ◌<◌, ◌≤◌, min, Bool, true, false, cond, not, ◌||◌, T, ltb, ℤ, pos, negsuc, neg_ℤ, nat_abs, sym, refl, ap, ◌∙◌, subst, true≢false, le_of_suc-le-suc, zero-lt-suc, div-lt_iff_lt-mul, zero-mul, arith, lit≤, le→leb, ltb→lt, lt→ltb, leb→le, nltb→le}
use Rattle.std.proofs.lemmas.Float.{le_of_lt as lt_le}
use lib.Signed.{le_z}
use lib.Arith.{le→nltb}
use lib.Ieee.{Float, nan, inf, fin, Format, binary64, prec, emax, low, up, down, odd, units, round, sum, add, sub, neg, mul, below, lt, le, eq, fits, is_nan, of_int, to_signed}
use lib.Ieee.Fits.{down_pos, round_is}
use lib.Ieee.Bits.{is_false}
use lib.Ieee.Scale.{finite}
use Rattle.doubles.specs.Arithmetic.{◌⊕◌, ◌⊖◌, ◌⊗◌, from_int}
use Rattle.doubles.specs.Floor.{floor_of}
use Rattle.doubles.specs.Power.{pow2_of}
use Rattle.approximations.specs.Exp2.{polynomial_of, outside32, finite_or_zero, exp2_at, exp2_of, NormalExponent}
use Rattle.doubles.proofs.Fractions.{lt_of}
use Rattle.doubles.proofs.AddZero.{minus_zero}
use Rattle.approximations.proofs.exp2.Exponent.{exponent_small}
use Rattle.doubles.proofs.Floors.{zero_f, zero_is}
use Rattle.doubles.proofs.NearestWhole.{minus, int_value, floor_int, floor_int_lem, floor_same, up_to, down_to}

-- ---- v from -1022 up and below 1023
abbrev pub Bound : Bool → ℕ → ℕ → Type 0
Bound false a D = a < 1023 * D
Bound true a D = a ≤ 1022 * D

pub bound : (s : Bool) (m : ℕ) (e : ℤ) → T (le (fin true 511 (pos 1)) (fin s m e)) → T (lt (fin s m e) (fin false 1023 (pos 0))) → Bound s (m * up e) (down e)
unfolding le lt eq
bound false m e p q = let l = ltb→lt (m * up e * 1) (1023 * 1 * down e) q in omega arith
bound true m e p q = let l = at_least (511 * 2 ^ 1 * down e) (m * up e * 1) p in omega arith

pub room : (s : Bool) (m : ℕ) (e : ℤ) → Bound s (m * up e) (down e) → m * up e ≤ 2 ^ 53 * down e
room false m e b = omega arith
room true m e b = omega arith

abbrev Between : Float → Type 0
Between v = (s : Bool) × (m : ℕ) × (e : ℤ) × (v ≡ fin s m e) × Bound s (m * up e) (down e)

between : (v : Float) → T (le (fin true 511 (pos 1)) v) → T (lt v (fin false 1023 (pos 0))) → Between v
between nan p q = unfold lt in absurd q
between (inf true) p q = unfold le lt eq in absurd p
between (inf false) p q = unfold lt in absurd q
between (fin s m e) p q = (s, m, e, refl, bound s m e p q)

-- so v is in the range of `floor_near`
abbrev InRange : Float → Type 0
InRange v = T (le (fin true 1 (pos 51)) v) × T (lt v (fin false 1 (pos 51)))

in_range_at : (s : Bool) (m : ℕ) (e : ℤ) → Bound s (m * up e) (down e) → InRange (fin s m e)
unfolding lt
in_range_at false m e b =
    let P = down_pos e in
    (lt_le (fin true 1 (pos 51)) (fin false m e) (lt→ltb 0 (1 * 2 ^ 51 * down e + m * up e * 1) (omega arith)), lt→ltb (m * up e * 1) (1 * 2 ^ 51 * down e) (omega arith))
in_range_at true m e b =
    let P = down_pos e in
    (lt_le (fin true 1 (pos 51)) (fin true m e) (lt→ltb (m * up e * 1) (1 * 2 ^ 51 * down e) (omega arith)), lt→ltb 0 (m * up e * 1 + 1 * 2 ^ 51 * down e) (omega arith))

-- its floor is from -1022 to 1022
pub exponent_bounds : (s : Bool) (a D : ℕ) → 0 < D → Bound s a D → T (le_z (negsuc 1021) (floor_int s a D)) × T (le_z (floor_int s a D) (pos 1022))
exponent_bounds false a D P b = (tt, le→leb (a / D) 1022 (le_of_suc-le-suc ((div-lt_iff_lt-mul P).1 b)))
exponent_bounds true a D P b = at ((a + (D - 1)) / D) (up_to a D 1022 P b)
  where
    at : (c : ℕ) → c ≤ 1022 → T (le_z (negsuc 1021) (neg_ℤ (pos c))) × T (le_z (neg_ℤ (pos c)) (pos 1022))
    at zero h = (tt, tt)
    at (suc k) h = (le→leb k 1021 (le_of_suc-le-suc h), tt)

exponent_at : (s : Bool) (m : ℕ) (e : ℤ) → Bound s (m * up e) (down e) → NormalExponent (floor_of binary64 (fin s m e) ⊕ zero_f)
exponent_at s m e b =
    let r = exponent_bounds s (m * up e) (down e) (down_pos e) b in
    (floor_int s (m * up e) (down e), floor_int_lem s m e (room s m e b), r.0, r.1)

-- ---- a whole number from -1022 to 1022 fits 32 bits
int_lt : (z w : ℤ) → nat_abs z ≤ 2 ^ 53 → nat_abs w ≤ 2 ^ 53 → lt (of_int binary64 z) (of_int binary64 w) ≡ below (minus z) (nat_abs z * 1) (minus w) (nat_abs w * 1)
int_lt z w h k = lt_of (of_int binary64 z) (of_int binary64 w) (minus z) (nat_abs z) 1 (minus w) (nat_abs w) 1 (zero-lt-suc 0) (zero-lt-suc 0) (int_value z h) (int_value w k)

inside : (z : ℤ) → T (le_z (negsuc 1021) z) → T (le_z z (pos 1022)) → outside32 (of_int binary64 z) ≡ false
inside z lo hi =
    let h = exponent_small z lo hi in
    let p = int_lt z (negsuc 2147483647) h (lit≤ tt) ∙ not_under z lo in
    let q = int_lt (pos 2147483647) z (lit≤ tt) h ∙ not_over z hi in
    λ i. p i || q i
  where
    not_under : (z : ℤ) → T (le_z (negsuc 1021) z) → below (minus z) (nat_abs z * 1) true (2147483648 * 1) ≡ false
    not_under (pos q) lo = refl
    not_under (negsuc k) lo = let h = leb→le k 1021 lo in is_false (ltb 2147483648 (suc k * 1)) (le→nltb 2147483648 (suc k * 1) (omega arith))

    not_over : (z : ℤ) → T (le_z z (pos 1022)) → below false (2147483647 * 1) (minus z) (nat_abs z * 1) ≡ false
    not_over (pos q) hi = let h = leb→le q 1022 hi in is_false (ltb 2147483647 (q * 1)) (le→nltb 2147483647 (q * 1) (omega arith))
    not_over (negsuc k) hi = refl

-- ---- the product, where n is the floor of v with -0 as +0
abbrev product : Float → Float → Float
product v n = finite_or_zero (polynomial_of (v ⊖ n) ⊗ pow2_of binary64 (to_signed 31 n))

exp2_is : (v : Float) → T (finite v) → outside32 (floor_of binary64 v) ≡ false → exp2_of v ≡ product v (floor_of binary64 v)
unfolding exp2_of exp2_at
exp2_is nan t o = absurd t
exp2_is (inf s) t o = absurd t
exp2_is (fin s m e) t o = let n = floor_of binary64 (fin s m e) in ap (λ (b : Bool). cond b zero_f (product (fin s m e) n)) o

-- of -0
at_minus_zero : product (fin true 0 (pos 0)) (floor_of binary64 (fin true 0 (pos 0)) ⊕ zero_f) ≡ exp2_of (fin true 0 (pos 0))
unfolding exp2_of exp2_at pow2_of floor_of to_signed of_int lt add sub neg mul sum round
at_minus_zero = refl

module _ (v : Float) (F : T (fits binary64 v)) (p : T (le (fin true 511 (pos 1)) v)) (q : T (lt v (fin false 1023 (pos 0)))) where
  pub in_range : InRange v
  in_range = let c = between v p q in subst InRange (sym c.3) (in_range_at c.0 c.1 c.2 c.4)

  pub exponent : NormalExponent (floor_of binary64 v ⊕ zero_f)
  exponent = let c = between v p q in subst (λ (x : Float). NormalExponent (floor_of binary64 x ⊕ zero_f)) (sym c.3) (exponent_at c.0 c.1 c.2 c.4)

  -- v is not -0
  same : T (finite v) → T (not (minus_zero v)) → product v (floor_of binary64 v ⊕ zero_f) ≡ exp2_of v
  same t n =
      let e = floor_same v in_range.0 in_range.1 n in
      let z = exponent in
      ap (product v) e ∙ sym (exp2_is v t (ap outside32 (sym e ∙ z.1) ∙ inside z.0 z.2 z.3))

pub product_is : (v : Float) → T (fits binary64 v) → T (le (fin true 511 (pos 1)) v) → T (lt v (fin false 1023 (pos 0))) → product v (floor_of binary64 v ⊕ zero_f) ≡ exp2_of v
unfolding le lt eq
product_is nan F p q = absurd q
product_is (inf true) F p q = absurd p
product_is (inf false) F p q = absurd q
product_is (fin false m e) F p q = same (fin false m e) F p q tt tt
product_is (fin true (suc m) e) F p q = same (fin true (suc m) e) F p q tt tt
product_is (fin true zero e) F p q = subst (λ (x : Float). product x (floor_of binary64 x ⊕ zero_f) ≡ exp2_of x) (sym (zero_is true 0 e F (zero-mul (up e)))) at_minus_zero

-- ---- any finite v: the floor is a number, and where it fits 32 bits both casts agree
units_number : (f : Format) (s : Bool) (q k : ℕ) → T (not (is_nan (units f s q k)))
unfolding units odd is_nan
units_number f s q k = go (ltb (q * 2 ^ k) (2 ^ (low f + suc (emax f)))) q
  where
    go : (b : Bool) (q : ℕ) → T (not (is_nan (cond b (odd (suc (prec f)) s q k (low f)) (inf s))))
    go true zero = tt
    go true (suc q) = tt
    go false q = tt

round_number : (f : Format) (s : Bool) (a c : ℕ) → T (not (is_nan (round f s a c)))
round_number f s a c = subst (λ (z : Float). T (not (is_nan z))) (sym (round_is f s a c)) (units_number f s _ _)

floor_number : (v : Float) → T (finite v) → T (not (is_nan (floor_of binary64 v)))
unfolding floor_of
floor_number nan t = absurd t
floor_number (inf s) t = absurd t
floor_number (fin false m e) t = round_number binary64 false (m * up e / down e) 1
floor_number (fin true m e) t = round_number binary64 true ((m * up e + (down e - 1)) / down e) 1

least_is : from_int (negsuc 2147483647) ≡ fin true 1 (pos 31)
unfolding of_int round
least_is = refl

most_is : from_int (pos 2147483647) ≡ fin false 2147483647 (pos 0)
unfolding of_int round
most_is = refl

abbrev pub tested : Float → Bool
tested n = lt n (fin true 1 (pos 31)) || lt (fin false 2147483647 (pos 0)) n

tested_is : (n : Float) → outside32 n ≡ tested n
tested_is n = ap (λ (z : Float). lt n z || lt (from_int (pos 2147483647)) n) least_is ∙ ap (λ (z : Float). lt n (fin true 1 (pos 31)) || lt z n) most_is

-- what the cast asks, and that it is the definition's
abbrev Casts : Float → Type 0
Casts n = (T (le (fin true 1 (pos 63)) n) × T (lt n (fin false 1 (pos 63)))) × (to_signed 63 n ≡ to_signed 31 n)

or_not : (a b : Bool) → a || b ≡ false → T (not a) × T (not b)
or_not true b h = absurd (true≢false h)
or_not false true h = absurd (true≢false h)
or_not false false h = (tt, tt)

casts_at : (n : Float) → T (not (is_nan n)) → T (not (lt n (fin true 1 (pos 31)))) → T (not (lt (fin false 2147483647 (pos 0)) n)) → Casts n
unfolding lt is_nan to_signed
casts_at nan k p q = absurd k
casts_at (inf true) k p q = absurd p
casts_at (inf false) k p q = absurd q
casts_at (fin false m e) k p q =
    let P = down_pos e in
    let l = nltb→le (2147483647 * 1 * down e) (m * up e * 1) q in
    let h : m * up e / down e ≤ 2147483647 = down_to (m * up e) (down e) 2147483647 P (omega arith) in
    let e' : min (m * up e / down e) (2 ^ 63 - 1) ≡ min (m * up e / down e) (2 ^ 31 - 1) = omega arith in
    ((lt_le (fin true 1 (pos 63)) (fin false m e) (lt→ltb 0 (1 * 2 ^ 63 * down e + m * up e * 1) (omega arith)), lt→ltb (m * up e * 1) (1 * 2 ^ 63 * down e) (omega arith)), ap pos e')
casts_at (fin true m e) k p q =
    let P = down_pos e in
    let l = nltb→le (1 * 2 ^ 31 * down e) (m * up e * 1) p in
    let h : m * up e / down e ≤ 2147483648 = down_to (m * up e) (down e) 2147483648 P (omega arith) in
    let e' : min (m * up e / down e) (2 ^ 63) ≡ min (m * up e / down e) (2 ^ 31) = omega arith in
    ((lt_le (fin true 1 (pos 63)) (fin true m e) (lt→ltb (m * up e * 1) (1 * 2 ^ 63 * down e) (omega arith)), lt→ltb 0 (m * up e * 1 + 1 * 2 ^ 63 * down e) (omega arith)), ap (λ (z : ℕ). neg_ℤ (pos z)) e')

module _ (v : Float) (t : finite v ≡ true) where
  pub out_is : tested (floor_of binary64 v) ≡ true → exp2_of v ≡ zero_f
  unfolding exp2_of exp2_at
  out_is h =
      let n = floor_of binary64 v in
      ap (λ (b : Bool). cond b (exp2_at v n) zero_f) t ∙ ap (λ (b : Bool). cond b zero_f (product v n)) (tested_is n ∙ h)

  pub casts : tested (floor_of binary64 v) ≡ false → Casts (floor_of binary64 v)
  casts h =
      let n = floor_of binary64 v in
      let o = or_not (lt n (fin true 1 (pos 31))) (lt (fin false 2147483647 (pos 0)) n) h in
      casts_at n (floor_number v (subst T (sym t) tt)) o.0 o.1

  pub in_is : tested (floor_of binary64 v) ≡ false → finite_or_zero (polynomial_of (v ⊖ floor_of binary64 v) ⊗ pow2_of binary64 (to_signed 63 (floor_of binary64 v))) ≡ exp2_of v
  in_is h =
      let n = floor_of binary64 v in
      ap (λ (z : ℤ). finite_or_zero (polynomial_of (v ⊖ n) ⊗ pow2_of binary64 z)) (casts h).1 ∙ sym (exp2_is v (subst T (sym t) tt) (tested_is n ∙ h))

pub not_finite_is : (v : Float) → finite v ≡ false → exp2_of v ≡ zero_f
unfolding exp2_of
not_finite_is v t = ap (λ (b : Bool). cond b (exp2_at v (floor_of binary64 v)) zero_f) t
