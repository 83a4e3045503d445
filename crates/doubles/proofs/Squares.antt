-- A double that is finite and has no sign, from the fields of its pattern: its size in units. Assumes nothing.
use Rattle.std.proofs.Common.{◌≡◌, ℕ, zero, suc, ◌+◌, ◌*◌, ◌/◌, ◌%◌, ◌^◌, ◌<◌, Bool, true, false, cond, not, T, eqb, leb, ◌⊎◌, sym, refl, ap, ◌∙◌, subst, inl, inr, mod-eq_of_lt, mul-one, arith, T_not}
use Rattle.std.proofs.lemmas.Float.{T_from_false}
use lib.Dec.{nleb→lt}
use lib.Ieee.{Float, nan, inf, fin, binary64, odd, fits, lt, of_fields, to_bits}
use lib.Ieee.Fits.{eq→eqb}
use lib.Ieee.Bits.{of_bits-to_bits, cond_no}
use lib.Ieee.Exact.{HasValue, odd_sign}
use Rattle.doubles.proofs.Magnitude.{mag, mag_of, plain}
use lib.Ieee.Scale.{finite}
use Rattle.doubles.proofs.Floors.{zero_f}
use Rattle.doubles.proofs.PowersOfTwo.{of_bits_is}

-- ---- the fields of a pattern whose value is finite and has no sign
plain_sign : (x : Float) (s : Bool) (a c : ℕ) → T (plain x) → HasValue x s a c → s ≡ false
plain_sign nan s a c p h = absurd p
plain_sign (inf t) s a c p h = absurd p
plain_sign (fin true m e) s a c p h = absurd p
plain_sign (fin false m e) s a c p h = sym h.0

abbrev Read : Bool → ℕ → ℕ → Float → Type 0
Read s F t x = (s ≡ false) × (((F ≡ 0) × HasValue x false (t * 2 ^ 0) (2 ^ 1074)) ⊎ ((j : ℕ) × (F ≡ suc j) × T (not (eqb (suc j) 2047)) × HasValue x false ((2 ^ 52 + t) * 2 ^ j) (2 ^ 1074)))

at_top : (a b s : Bool) (v : Float) → T (plain (cond a (cond b (inf s) nan) v)) → T (not a)
at_top true true s v p = absurd p
at_top true false s v p = absurd p
at_top false b s v p = tt

read : (s : Bool) (F t : ℕ) → T (plain (of_fields binary64 s F t)) → Read s F t (of_fields binary64 s F t)
unfolding of_fields
read s zero t p =
    let v = odd_sign 53 s t 0 1074 in
    let z = plain_sign (odd 53 s t 0 1074) s (t * 2 ^ 0) (2 ^ 1074) p v in
    (z, inl (refl, subst (λ (b : Bool). HasValue (odd 53 s t 0 1074) b (t * 2 ^ 0) (2 ^ 1074)) z v))
read s (suc j) t p =
    let x = odd 53 s (2 ^ 52 + t) j 1074 in
    let n = at_top (eqb (suc j) 2047) (eqb t 0) s x p in
    let i = cond_no (eqb (suc j) 2047) (cond (eqb t 0) (inf s) nan) x n in
    let v = odd_sign 53 s (2 ^ 52 + t) j 1074 in
    let z = plain_sign x s ((2 ^ 52 + t) * 2 ^ j) (2 ^ 1074) (subst (λ (y : Float). T (plain y)) i p) v in
    (z, inr (j, refl, n, subst (λ (y : Float). HasValue y false ((2 ^ 52 + t) * 2 ^ j) (2 ^ 1074)) (sym i) (subst (λ (b : Bool). HasValue x b ((2 ^ 52 + t) * 2 ^ j) (2 ^ 1074)) z v)))

-- b's field, and the value in units
abbrev pub Shape : ℕ → ℕ → Type 0
Shape b X = (b < 2 ^ 63) × (((b / 2 ^ 52 ≡ 0) × (X ≡ b)) ⊎ ((j : ℕ) × (b / 2 ^ 52 ≡ suc j) × (j < 2046) × (X ≡ (2 ^ 52 + b % 2 ^ 52) * 2 ^ j)))

shape_read : (b : ℕ) (x : Float) → Read (leb (2 ^ 63) b) (b % 2 ^ 63 / 2 ^ 52) (b % 2 ^ 52) x → Shape b (mag binary64 x)
shape_read b x r = (small, go r.1)
  where
    small : b < 2 ^ 63
    small = nleb→lt (2 ^ 63) b (T_from_false _ r.0)

    F : b % 2 ^ 63 / 2 ^ 52 ≡ b / 2 ^ 52
    F = ap (λ (z : ℕ). z / 2 ^ 52) (mod-eq_of_lt small)

    below : (b : ℕ) → b / 2 ^ 52 ≡ 0 → b < 2 ^ 52
    below b e = omega arith

    few : (j b : ℕ) → b < 2 ^ 63 → b / 2 ^ 52 ≡ suc j → (suc j ≡ 2047 → ⊥) → j < 2046
    few j b h e n = omega arith

    go : ((b % 2 ^ 63 / 2 ^ 52 ≡ 0) × HasValue x false (b % 2 ^ 52 * 2 ^ 0) (2 ^ 1074)) ⊎ ((j : ℕ) × (b % 2 ^ 63 / 2 ^ 52 ≡ suc j) × T (not (eqb (suc j) 2047)) × HasValue x false ((2 ^ 52 + b % 2 ^ 52) * 2 ^ j) (2 ^ 1074))
        → ((b / 2 ^ 52 ≡ 0) × (mag binary64 x ≡ b)) ⊎ ((j : ℕ) × (b / 2 ^ 52 ≡ suc j) × (j < 2046) × (mag binary64 x ≡ (2 ^ 52 + b % 2 ^ 52) * 2 ^ j))
    go (inl p) = inl (sym F ∙ p.0, mag_of binary64 x false (b % 2 ^ 52 * 2 ^ 0) p.1 ∙ mul-one (b % 2 ^ 52) ∙ mod-eq_of_lt (below b (sym F ∙ p.0)))
    go (inr p) =
        inr (p.0, sym F ∙ p.1, few p.0 b small (sym F ∙ p.1) (λ (e : suc p.0 ≡ 2047). T_not (eqb (suc p.0) 2047) p.2 (eq→eqb e)), mag_of binary64 x false ((2 ^ 52 + b % 2 ^ 52) * 2 ^ p.0) p.3)

pub shape : (x : Float) → T (fits binary64 x) → T (plain x) → Shape (to_bits binary64 x) (mag binary64 x)
shape x h p =
    let b = to_bits binary64 x in
    let i : of_fields binary64 (leb (2 ^ 63) b) (b % 2 ^ 63 / 2 ^ 52) (b % 2 ^ 52) ≡ x = sym (of_bits_is b) ∙ of_bits-to_bits binary64 x h in
    shape_read b x (subst (λ (y : Float). Read (leb (2 ^ 63) b) (b % 2 ^ 63 / 2 ^ 52) (b % 2 ^ 52) y) i (read (leb (2 ^ 63) b) (b % 2 ^ 63 / 2 ^ 52) (b % 2 ^ 52) (subst (λ (y : Float). T (plain y)) (sym i) p)))

-- ---- what is above zero, below infinity or finite
pub is_plain : (x : Float) → T (lt zero_f x) → T (finite x) → T (plain x)
unfolding lt
is_plain nan p q = absurd p
is_plain (inf s) p q = absurd q
is_plain (fin true m e) p q = absurd p
is_plain (fin false m e) p q = tt

pub under_inf : (x : Float) → T (lt zero_f x) → T (lt x (inf false)) → T (finite x)
unfolding lt
under_inf nan p q = absurd p
under_inf (inf true) p q = absurd p
under_inf (inf false) p q = absurd q
under_inf (fin s m e) p q = tt

pub not_under_inf : (x : Float) → T (finite x) → T (not (lt x (inf false))) → ⊥
unfolding lt
not_under_inf nan t q = absurd t
not_under_inf (inf s) t q = absurd t
not_under_inf (fin s m e) t q = absurd q
