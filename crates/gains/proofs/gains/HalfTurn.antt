-- The angle of the blend, PI × a / 2, is from 0 to the double PI / 2 for an a from 0 to 1; and so the two weights of the blend are not negative. Assumes nothing.
use mathlib.Core.Path.{◌≡◌, refl, sym, ap, ◌∙◌, subst}
use Prim.Native.Nat.{ℕ, ◌+◌, ◌*◌, ◌<◌, zero-le}
use native.Mathlib.Nat.{le_trans, le_of_eq, mul-pos, mul_comm, zero-mul, mul-mul-mul_comm, mul-le-mul_left}
use native.Mathlib.Omega.{arith}
use mathlib.Core.Bool.{Bool, true, false, cond, true≢false, ◌||◌}
use borrow.Author.Tests.{ltb-false}
use lib.IntN.{pos, negsuc}
use lib.Dec.{T, ltb, eqb, lit<, lit≤}
use lib.Ieee.{Float, nan, inf, fin, up, down, round, mul, div, lt, le, eq, of_int}
use lib.Ieee.Fits.{down_pos}
use lib.Ieee.Positive.{num, den, den_pos}
use Rattle.std.proofs.lemmas.Float.{T_from_true}
use Rattle.doubles.specs.Arithmetic.{◌⊗◌, ◌⊘◌, one64, zero64}
use Rattle.approximations.specs.Circular.{sine_of, cosine_of}
use Rattle.doubles.specs.Range.{clamp_to}
use Rattle.doubles.proofs.Signs.{not_neg}
use Rattle.doubles.proofs.Laws.{div-fits, mul_not_neg, not_neg_of_le}
use Rattle.approximations.proofs.Laws.{sine_range, cosine_range}
use Rattle.gains.specs.declared.Blend.{Blend}
use Rattle.gains.specs.declared.Blend.TheVariants.{Point, Both, Field}
use Rattle.gains.specs.Gains.{both_of, blend_of}
use Rattle.extent.proofs.RadiusBounds.{plain, Under, under_of, le_of, Within, within, mul_at, div_at, above_num}

-- ---- x is at most y: times c, and over c
product_within : (c x y z : Float) → T (plain c) → T (plain x) → T (plain y) → T (plain z) → Under x y → c ⊗ y ≡ z → Within (c ⊗ x) z
product_within c x y z p q s t h e =
    subst (λ (w : Float). Within w z) (sym (mul_at c x p q))
    (within (num c * num x) (den c * den x) (num c * num y) (den c * den y) z (mul-pos (den_pos c) (den_pos x)) (mul-pos (den_pos c) (den_pos y))
    (le_trans (le_of_eq (mul-mul-mul_comm (num c) (num x) (den c) (den y)))
    (le_trans (mul-le-mul_left (num c * den c) h) (le_of_eq (sym (mul-mul-mul_comm (num c) (num y) (den c) (den x))))))
    (sym (mul_at c y p s) ∙ e) t)

quotient_within : (c x y z : Float) → T (plain c) → T (lt zero64 c) → T (plain x) → T (plain y) → T (plain z) → Under x y → y ⊘ c ≡ z → Within (x ⊘ c) z
quotient_within c x y z p a q s t h e =
    subst (λ (w : Float). Within w z) (sym (div_at x c q p a))
    (within (num x * den c) (num c * den x) (num y * den c) (num c * den y) z (mul-pos (above_num c p a) (den_pos x)) (mul-pos (above_num c p a) (den_pos y))
    (le_trans (le_of_eq (moved (num x) (den c) (num c) (den y)))
    (le_trans (mul-le-mul_left (den c * num c) h) (le_of_eq (sym (moved (num y) (den c) (num c) (den x))))))
    (sym (div_at y c s p a) ∙ e) t)
  where
    moved : (m c d n : ℕ) → m * c * (d * n) ≡ c * d * (m * n)
    moved m c d n = ap (λ (z : ℕ). z * (d * n)) (mul_comm m c) ∙ mul-mul-mul_comm c m d n

-- ---- the constants
abbrev PI : Float
PI = fin false 884279719003555 (negsuc 47)

abbrev half : Float
half = fin false 884279719003555 (negsuc 48)

abbrev two : Float
two = fin false 1 (pos 1)

abbrev twenty : Float
twenty = fin false 5 (pos 2)

-- 0.05 and 0.000025
abbrev most : Float
most = fin false 3602879701896397 (negsuc 55)

abbrev least : Float
least = fin false 7378697629483821 (negsuc 67)

PI_one : PI ⊗ one64 ≡ PI
unfolding mul round
PI_one = refl

PI_two : PI ⊘ two ≡ half
unfolding div round
PI_two = refl

two_above : T (lt zero64 two)
unfolding lt
two_above = tt

twenty_most : twenty ⊗ most ≡ one64
unfolding mul round
twenty_most = refl

-- ---- the angle, for an a from 0 to 1
half_turn_within : (a : Float) → Within a one64 → Within (PI ⊗ a ⊘ two) half
half_turn_within a w =
    let x = product_within PI a one64 PI tt w.0 tt tt w.1 PI_one in
    quotient_within two (PI ⊗ a) PI half tt two_above x.0 tt tt x.1 PI_two

-- from 0 to y
from0 : (t y : Float) → T (plain y) → Within t y → T (le zero64 t) × T (le t y)
from0 t y q w = (le_of zero64 t tt w.0 (le_trans (le_of_eq (zero-mul (den t))) zero-le), le_of t y w.0 q w.1)

angle_range : (a : Float) → Within a one64 → T (le zero64 (PI ⊗ a ⊘ two)) × T (le (PI ⊗ a ⊘ two) half)
angle_range a w = from0 (PI ⊗ a ⊘ two) half tt (half_turn_within a w)

-- ---- the blend's a: 20 × radius, clamped
below_never : (a b : ℕ) → 0 < b → ltb 0 (a + b) ≡ false → ⊥
below_never a b h e = let l = ltb-false 0 (a + b) e in omega arith

radius_plain : (r : Float) → lt r least ≡ false → le r most ≡ true → T (plain r)
unfolding lt le eq
radius_plain nan h k = absurd (true≢false (sym k))
radius_plain (inf true) h k = absurd (true≢false h)
radius_plain (inf false) h k = absurd (true≢false (sym k))
radius_plain (fin true m e) h k =
    let p : 0 < 7378697629483821 = lit< tt in
    absurd (below_never (m * up e * down (negsuc 67)) (7378697629483821 * down e) (mul-pos p (down_pos e)) h)
radius_plain (fin false m e) h k = tt

clamped_within : (x : Float) → Within x one64 → Within (clamp_to zero64 one64 x) one64
unfolding clamp_to
clamped_within x w = go (lt x zero64) (lt one64 x)
  where
    go : (b c : Bool) → Within (cond b zero64 (cond c one64 x)) one64
    go true c = (tt, lit≤ tt)
    go false true = (tt, lit≤ tt)
    go false false = w

-- ---- the weights
abbrev pub Weights : Blend → Type 0
Weights Point = T true
Weights (Both a b) = T (not_neg a) × T (not_neg b)
Weights Field = T true

-- with PI, H and the other constants as literals
module _ (r : Float) (h : lt r least ≡ false) (k : le r most ≡ true) where
  abbrev part : Float
  part = clamp_to zero64 one64 (twenty ⊗ r)

  abbrev angle : Float
  angle = PI ⊗ part ⊘ two

  part_within : Within part one64
  part_within =
      let p = radius_plain r h k in
      clamped_within (twenty ⊗ r) (product_within twenty r most one64 tt p tt tt (under_of r most p tt (T_from_true _ k)) twenty_most)

  both_weights : T (not_neg (fin false 1 (negsuc 0) ⊗ cosine_of angle)) × T (not_neg (fin false 1 (negsuc 0) ⊗ sine_of angle))
  unfolding round
  both_weights =
      let f = div-fits (PI ⊗ part) two in
      let b = angle_range part part_within in (
        mul_not_neg (fin false 1 (negsuc 0)) (cosine_of angle) tt (not_neg_of_le (cosine_of angle) (cosine_range angle f b.0 b.1).1),
        mul_not_neg (fin false 1 (negsuc 0)) (sine_of angle) tt (not_neg_of_le (sine_of angle) (sine_range angle f b.0 b.1).1),
      )

pub weights : (mean : ℕ) (r : Float) → Weights (blend_of mean r)
unfolding blend_of round of_int
weights mean r = go (eqb mean 0) (lt r least) (le r most) refl refl
  where
    go : (z b c : Bool) → lt r least ≡ b → le r most ≡ c → Weights (cond (z || b) Point (cond c (both_of r) Field))
    go true b c h k = tt
    go false true c h k = tt
    go false false true h k = both_weights r h k
    go false false false h k = tt
