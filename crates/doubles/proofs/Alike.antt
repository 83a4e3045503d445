-- Doubles that are equal as numbers: they are the same, or both are zeros. No comparison sees the sign of a zero, and no difference of unequal numbers does. Assumes nothing.
use Rattle.std.proofs.Common.{◌≡◌, ℕ, zero, suc, ◌+◌, ◌-◌, ◌*◌, ◌<◌, Bool, true, false, ◌&&◌, ◌||◌, T, eqb, ℤ, pos, sym, refl, ap, ◌∙◌, subst, ap₂, ⊎_elim, add-zero, lt_irrefl, zero-lt-suc, mul-pos, zero-add, zero-mul, arith, eqb→eq, ltb→lt, le-ltb}
use mathlib.Core.Bool.{beq}
use lib.Ieee.{Float, nan, inf, fin, binary64, up, down, round, sum, add, sub, neg, below, level, lt, eq, le, fits}
use lib.Ieee.Fits.{up_pos, down_pos}
use mir.Facts.{and_yes, or_yes}
use Rattle.doubles.specs.Arithmetic.{◌⊖◌}
use Rattle.doubles.proofs.Magnitude.{same_value}
use Rattle.doubles.proofs.Fractions.{sum_plain, sum_turned}
use Rattle.doubles.proofs.AddZero.{zero_is}

-- ---- the two zeros
abbrev pub signed : Bool → Float
signed s = fin s 0 (pos 0)

-- the same, or both zeros
pub data Alike : Float → Float → Type 0 where
  same : (x : Float) → Alike x x
  zeros : (s t : Bool) → Alike (signed s) (signed t)

-- what does not see the sign of a zero
pub blind : {A : Type 0} (P : Float → A) → P (signed true) ≡ P (signed false) → (x y : Float) → Alike x y → P x ≡ P y
blind P e x y (same z) = refl
blind P e x y (zeros true true) = refl
blind P e x y (zeros true false) = e
blind P e x y (zeros false true) = sym e
blind P e x y (zeros false false) = refl

pub alike_path : {x y : Float} → x ≡ y → Alike x y
alike_path {x} e = subst (Alike x) e (same x)

-- ---- doubles that are equal as numbers are alike
pub beq→eq : (s t : Bool) → T (beq s t) → s ≡ t
beq→eq true true h = refl
beq→eq true false h = absurd h
beq→eq false true h = absurd h
beq→eq false false h = refl

-- a size of 0 is that of a zero
no_size : (s : Bool) (m : ℕ) (e g : ℤ) → T (fits binary64 (fin s m e)) → m * up e * down g ≡ 0 → fin s m e ≡ signed s
no_size s zero e g h z = zero_is binary64 s e h
no_size s (suc m) e g h z = absurd (lt_irrefl 0 (subst (λ (n : ℕ). 0 < n) z (mul-pos (mul-pos (zero-lt-suc m) (up_pos e)) (down_pos g))))

pub alike_of : (x y : Float) → T (fits binary64 x) → T (fits binary64 y) → T (eq x y) → Alike x y
unfolding eq
alike_of nan y h k q = absurd q
alike_of (inf s) nan h k q = absurd q
alike_of (inf s) (inf t) h k q = alike_path (ap inf (beq→eq s t q))
alike_of (inf s) (fin t n d) h k q = absurd q
alike_of (fin s m e) nan h k q = absurd q
alike_of (fin s m e) (inf t) h k q = absurd q
alike_of (fin s m e) (fin t n d) h k q =
    ⊎_elim
    (λ u. alike_path (same_value binary64 (fin s m e) (fin t n d) t (n * up d) (down d) (down_pos d) h k (beq→eq s t u, z) (refl, refl)))
    (λ u.
    let r = eqb→eq A 0 u in
    rw (no_size s m e d h r, no_size t n d e k (sym z ∙ r)) (zeros s t))
    (or_yes (beq s t) (eqb A 0) p.1)
  where
    A : ℕ
    A = m * up e * down d

    B : ℕ
    B = n * up d * down e

    p : T (eqb A B) × T (beq s t || eqb A 0)
    p = and_yes (eqb A B) (beq s t || eqb A 0) q

    z : A ≡ B
    z = eqb→eq A B p.0

-- ---- comparisons

-- the size of a zero
below_left : (a : ℕ) (t : Bool) (b : ℕ) → a ≡ 0 → below true a t b ≡ below false a t b
below_left a true b e = rw e (le-ltb b 0 (omega arith))
below_left a false b e = rw (e, zero-add)

below_right : (s : Bool) (a b : ℕ) → b ≡ 0 → below s a true b ≡ below s a false b
below_right true a b e = rw (e, add-zero)
below_right false a b e = rw e (sym (le-ltb a 0 (omega arith)))

level_left : (a : ℕ) (t : Bool) (b : ℕ) → a ≡ 0 → level true a t b ≡ level false a t b
level_left a true b e = rw e
level_left a false b e = rw e

level_right : (s : Bool) (a b : ℕ) → b ≡ 0 → level s a true b ≡ level s a false b
level_right s a b e = rw e (absorbed (eqb a 0) (beq s true) ∙ sym (absorbed (eqb a 0) (beq s false)))
  where
    absorbed : (c y : Bool) → (c && (y || c)) ≡ c
    absorbed true true = refl
    absorbed true false = refl
    absorbed false y = refl

lt_left : (u : Float) → lt (signed true) u ≡ lt (signed false) u
unfolding lt
lt_left nan = refl
lt_left (inf t) = refl
lt_left (fin t n d) = below_left (0 * 1 * down d) t (n * up d * 1) (zero-mul (down d))

lt_right : (u : Float) → lt u (signed true) ≡ lt u (signed false)
unfolding lt
lt_right nan = refl
lt_right (inf t) = refl
lt_right (fin t n d) = below_right t (n * up d * 1) (0 * 1 * down d) (zero-mul (down d))

eq_left : (u : Float) → eq (signed true) u ≡ eq (signed false) u
unfolding eq
eq_left nan = refl
eq_left (inf t) = refl
eq_left (fin t n d) = level_left (0 * 1 * down d) t (n * up d * 1) (zero-mul (down d))

eq_right : (u : Float) → eq u (signed true) ≡ eq u (signed false)
unfolding eq
eq_right nan = refl
eq_right (inf t) = refl
eq_right (fin t n d) = level_right t (n * up d * 1) (0 * 1 * down d) (zero-mul (down d))

module _ (x y : Float) (w : Alike x y) (u : Float) where
  pub lt_same : lt x u ≡ lt y u
  lt_same = blind (λ z. lt z u) (lt_left u) x y w

  pub same_lt : lt u x ≡ lt u y
  same_lt = blind (λ z. lt u z) (lt_right u) x y w

  pub le_same : le x u ≡ le y u
  unfolding le
  le_same = blind (λ z. lt z u || eq z u) (ap₂ ◌||◌ (lt_left u) (eq_left u)) x y w

  pub same_le : le u x ≡ le u y
  unfolding le
  same_le = blind (λ z. lt u z || eq u z) (ap₂ ◌||◌ (lt_right u) (eq_right u)) x y w

-- ---- differences
sum_right : (a b c : ℕ) → b ≡ 0 → sum binary64 false a false b c ≡ sum binary64 false a true b c
unfolding sum
sum_right a b c e =
    let q : a + b ≡ a - b = omega arith in
    ap (λ (z : ℕ). round binary64 false z c) q ∙ sym (sum_plain binary64 a b c (omega arith))

sum_left : (a b c : ℕ) → a ≡ 0 → a < b → sum binary64 true a false b c ≡ sum binary64 false a false b c
unfolding sum
sum_left a b c e l =
    let q : b - a ≡ a + b = omega arith in
    sum_turned binary64 a b c (omega arith) ∙ ap (λ (z : ℕ). round binary64 false z c) q

-- a zero from what is above it, and what is below a zero from it
sub_right : (x : Float) → T (lt (signed false) x) → x ⊖ signed true ≡ x ⊖ signed false
unfolding lt sub add neg
sub_right nan h = refl
sub_right (inf t) h = refl
sub_right (fin true n d) h = absurd h
sub_right (fin false n d) h = sum_right (n * up d * 1) (0 * 1 * down d) (down d * 1) (zero-mul (down d))

sub_left : (y : Float) → T (lt y (signed false)) → signed true ⊖ y ≡ signed false ⊖ y
unfolding lt sub add neg
sub_left nan h = refl
sub_left (inf t) h = refl
sub_left (fin false n d) h =
    let l = ltb→lt (n * up d * 1) (0 * 1 * down d) h in
    absurd (omega (arith, zero-mul (down d)))
sub_left (fin true n d) h =
    let l = ltb→lt 0 (n * up d * 1 + 0 * 1 * down d) h in
    sum_left (0 * 1 * down d) (n * up d * 1) (1 * down d) (zero-mul (down d)) (omega (arith, zero-mul (down d)))

-- two zeros are not one below the other
level_zeros : (s t : Bool) → T (lt (signed s) (signed t)) → ⊥
unfolding lt
level_zeros true true h = h
level_zeros true false h = h
level_zeros false true h = h
level_zeros false false h = h

-- of unequal numbers
pub sub_same : (x x' y y' : Float) → Alike x x' → Alike y y' → T (lt y x) → x ⊖ y ≡ x' ⊖ y'
sub_same x x' y y' (same z) (same w) h = refl
sub_same x x' y y' (same z) (zeros s t) h = blind (λ w. z ⊖ w) (sub_right z (rw (lt_same (signed s) (signed false) (zeros s false) z) at h)) (signed s) (signed t) (zeros s t)
sub_same x x' y y' (zeros s t) (same w) h = blind (λ z. z ⊖ w) (sub_left w (rw (same_lt (signed s) (signed false) (zeros s false) w) at h)) (signed s) (signed t) (zeros s t)
sub_same x x' y y' (zeros s t) (zeros p q) h = absurd (level_zeros p s h)
