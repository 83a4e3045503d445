-- The order of plain values by their fractions, which rounding keeps, and the operations on such values. Assumes nothing.
use mathlib.Core.Path.{◌≡◌, refl, ap, subst}
use Prim.Native.Nat.{ℕ, zero, suc, ◌*◌, ◌≤◌, ◌<◌}
use native.Mathlib.Omega.{arith}
use mathlib.Core.Bool.{Bool, true, false, not, cond}
use lib.Dec.{T, eqb, ltb→lt, eqb-suc-zero}
use lib.Ieee.{Float, nan, inf, fin, binary64, up, down, round, mul, div, lt, le, eq}
use lib.Ieee.Order.{le_of_values, round_mono}
use lib.Ieee.Exact.{HasValue}
use lib.Ieee.Positive.{num, den, den_pos}
use Rattle.doubles.specs.Arithmetic.{◌⊗◌, ◌⊘◌, zero64}
use Rattle.doubles.proofs.Signs.{clear, round_clear}
use Rattle.doubles.proofs.Order.{lt_or_eq}

-- finite, with a clear sign
abbrev pub plain : Float → Bool
plain nan = false
plain (inf s) = false
plain (fin s m e) = not s

-- x is at most y, both plain
abbrev pub Under : Float → Float → Type 0
Under x y = num x * den y ≤ num y * den x

-- ---- order
pub under_of : (x y : Float) → T (plain x) → T (plain y) → T (le x y) → Under x y
unfolding le lt eq
under_of nan y p q h = absurd p
under_of (inf s) y p q h = absurd p
under_of (fin true m e) y p q h = absurd p
under_of (fin false m e) nan p q h = absurd q
under_of (fin false m e) (inf s) p q h = absurd q
under_of (fin false m e) (fin true n d) p q h = absurd q
under_of (fin false m e) (fin false n d) p q h = lt_or_eq (m * up e * down d) (n * up d * down e) h

value : (x : Float) → T (plain x) → HasValue x false (num x) (den x)
value nan p = absurd p
value (inf s) p = absurd p
value (fin true m e) p = absurd p
value (fin false m e) p = (refl, refl)

pub le_of : (x y : Float) → T (plain x) → T (plain y) → Under x y → T (le x y)
le_of x y p q h = le_of_values x y (num x) (den x) (num y) (den y) (den_pos x) (den_pos y) (value x p) (value y q) h

-- what is at most a plain value is plain, where its sign is clear
plain_of : (z hi : Float) → T (clear z) → T (le z hi) → T (plain hi) → T (plain z)
unfolding le lt eq
plain_of nan hi c l q = absurd l
plain_of (inf true) hi c l q = absurd c
plain_of (inf false) nan c l q = absurd q
plain_of (inf false) (inf t) c l q = absurd q
plain_of (inf false) (fin t n d) c l q = absurd l
plain_of (fin s m e) hi c l q = c

-- ---- rounding

-- a / c is at most n / d, which is rounded to hi
abbrev pub Within : Float → Float → Type 0
Within z hi = T (plain z) × Under z hi

pub within : (a c n d : ℕ) (hi : Float) → 0 < c → 0 < d → a * d ≤ n * c → round binary64 false n d ≡ hi → T (plain hi) → Within (round binary64 false a c) hi
within a c n d hi C D h e q =
    let l : T (le (round binary64 false a c) hi) = subst (λ (z : Float). T (le (round binary64 false a c) z)) e (round_mono binary64 a c n d C D h) in
    let p = plain_of (round binary64 false a c) hi (round_clear binary64 a c) l q in
    (p, under_of (round binary64 false a c) hi p q l)

-- ---- the operations on plain values

pub mul_at : (x y : Float) → T (plain x) → T (plain y) → x ⊗ y ≡ round binary64 false (num x * num y) (den x * den y)
unfolding mul
mul_at nan y p q = absurd p
mul_at (inf s) y p q = absurd p
mul_at (fin true m e) y p q = absurd p
mul_at (fin false m e) nan p q = absurd q
mul_at (fin false m e) (inf s) p q = absurd q
mul_at (fin false m e) (fin true n d) p q = absurd q
mul_at (fin false m e) (fin false n d) p q = refl

-- by a value above 0
pub div_at : (x y : Float) → T (plain x) → T (plain y) → T (lt zero64 y) → x ⊘ y ≡ round binary64 false (num x * den y) (num y * den x)
unfolding div lt
div_at nan y p q h = absurd p
div_at (inf s) y p q h = absurd p
div_at (fin true m e) y p q h = absurd p
div_at (fin false m e) nan p q h = absurd q
div_at (fin false m e) (inf s) p q h = absurd q
div_at (fin false m e) (fin true n d) p q h = absurd q
div_at (fin false m e) (fin false zero d) p q h = let l = ltb→lt (0 * 1 * down d) (0 * up d * 1) h in absurd (omega arith)
div_at (fin false m e) (fin false (suc n) d) p q h = ap (λ (b : Bool). cond b (cond (eqb m 0) nan (inf false)) (round binary64 false (m * up e * down d) (suc n * up d * down e))) (eqb-suc-zero n)

pub above_num : (y : Float) → T (plain y) → T (lt zero64 y) → 0 < num y
unfolding lt
above_num nan q h = absurd q
above_num (inf s) q h = absurd q
above_num (fin true n d) q h = absurd q
above_num (fin false n d) q h = let l = ltb→lt (0 * 1 * down d) (n * up d * 1) h in omega arith
