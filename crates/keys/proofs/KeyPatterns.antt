-- The pattern in a key tells finite doubles apart exactly as numbers. Assumes nothing.
use Prim.Native.Nat.{ℕ, zero, suc, ◌*◌}
use mathlib.Core.Path.{◌≡◌, refl, sym, ap, ◌∙◌, subst}
use mathlib.Core.Bool.{Bool, true, false, ◌&&◌, beq, ◌||◌}
use mathlib.Core.Logic.{◌⊎◌, inl, inr, ⊎_elim}
use Rattle.doubles.proofs.Alike.{beq→eq}
use native.Mathlib.Nat.{mul-pos}
use native.Mathlib.Omega.{arith}
use lib.IntN.{ℤ, pos}
use lib.Dec.{T, eqb, eqb→eq, ltb}
use lib.Ieee.{Float, nan, inf, fin, binary64, eq, up, down, fits, to_bits, of_bits, add, sum, round}
use lib.Ieee.Bits.{of_bits-to_bits}
use lib.Ieee.Fits.{add-fits, down_pos}
use lib.Ieee.Scale.{finite}
use mir.Facts.{and_yes, or_yes}
use Rattle.std.proofs.lemmas.Float.{eq_flip, eq_trans}
use Rattle.doubles.specs.Arithmetic.{◌⊕◌, zero64}
use Rattle.doubles.proofs.AddZero.{plus_zero, add_zero_same, zero_is}
use Rattle.layout.proofs.SameNumbers.{eq_refl}
use Rattle.keys.specs.Keys.{pattern}

-- ---- equal as numbers, then equal patterns
signs : (s t : Bool) (a : ℕ) → (s ≡ t) ⊎ (a ≡ 0) → (s && ltb 0 a) ≡ (t && ltb 0 a)
signs s t a w = ⊎_elim (λ e. ap (λ (b : Bool). b && ltb 0 a) e) (λ e. rw e (none s ∙ sym (none t))) w
  where
    none : (b : Bool) → (b && false) ≡ false
    none true = refl
    none false = refl

numbers : (s : Bool) (m : ℕ) (e : ℤ) (t : Bool) (n : ℕ) (d : ℤ) → m * up e * down d ≡ n * up d * down e → (s ≡ t) ⊎ (m * up e * down d ≡ 0) → fin s m e ⊕ zero64 ≡ fin t n d ⊕ zero64
numbers s m e t n d q w =
    let a = m * up e * down d in
    let c = down e * down d in
    let k : m * up e * down d * down d ≡ n * up d * down e * down d = ap (λ (z : ℕ). z * down d) q in
    plus_zero binary64 (fin s m e) s a c (mul-pos (down_pos e) (down_pos d)) (refl, omega arith)
    ∙ ap (λ (b : Bool). round binary64 b a c) (signs s t a w)
    ∙ sym (plus_zero binary64 (fin t n d) t a c (mul-pos (down_pos e) (down_pos d)) (refl, omega arith))

pub eq_pattern : (x y : Float) → T (eq x y) → pattern x ≡ pattern y
unfolding eq
eq_pattern nan y h = absurd h
eq_pattern (inf s) nan h = absurd h
eq_pattern (inf s) (inf t) h = ap (λ (b : Bool). pattern (inf b)) (beq→eq s t h)
eq_pattern (inf s) (fin t n d) h = absurd h
eq_pattern (fin s m e) nan h = absurd h
eq_pattern (fin s m e) (inf t) h = absurd h
eq_pattern (fin s m e) (fin t n d) h =
    let a = m * up e * down d in
    let p = and_yes (eqb a (n * up d * down e)) (beq s t || eqb a 0) h in
    ap (to_bits binary64) (numbers s m e t n d (eqb→eq a (n * up d * down e) p.0) (⊎_elim (λ q. inl (beq→eq s t q)) (λ q. inr (eqb→eq a 0 q)) (or_yes (beq s t) (eqb a 0) p.1)))

-- ---- equal patterns, then equal as numbers
minus : T (eq (fin true 0 (pos 0) ⊕ zero64) (fin true 0 (pos 0)))
unfolding eq add sum round
minus = tt

plus_same : (x : Float) → T (fits binary64 x) → T (finite x) → T (eq (x ⊕ zero64) x)
plus_same nan h f = absurd f
plus_same (inf s) h f = absurd f
plus_same (fin false m e) h f = rw (add_zero_same binary64 (fin false m e) h tt) (eq_refl (fin false m e) tt)
plus_same (fin true (suc m) e) h f = rw (add_zero_same binary64 (fin true (suc m) e) h tt) (eq_refl (fin true (suc m) e) tt)
plus_same (fin true zero e) h f = subst (λ (x : Float). T (eq (x ⊕ zero64) x)) (sym (zero_is binary64 true e h)) minus

pub pattern_eq : (x y : Float) → T (fits binary64 x) → T (finite x) → T (fits binary64 y) → T (finite y) → pattern x ≡ pattern y → T (eq x y)
pattern_eq x y hx fx hy fy q =
    let e : x ⊕ zero64 ≡ y ⊕ zero64 = sym (of_bits-to_bits binary64 (x ⊕ zero64) (add-fits binary64 x zero64)) ∙ ap (of_bits binary64) q ∙ of_bits-to_bits binary64 (y ⊕ zero64) (add-fits binary64 y zero64) in
    eq_trans x (y ⊕ zero64) y (rw e at (eq_flip (x ⊕ zero64) x (plus_same x hx fx))) (plus_same y hy fy)
