-- The five-knot transfer, by the place of the first knot that the scalar does not exceed. Assumes nothing.
use mathlib.Core.Path.{◌≡◌, refl, ap}
use Prim.Native.Nat.{ℕ, zero, suc, ◌-◌}
use native.Mathlib.Omega.{arith}
use mathlib.Core.Bool.{Bool, true, false, cond}
use mathlib.Core.List.{◌∷◌}
use lib.Ieee.{Float, nan, le}
use lib.ListN.{get_or}
use Rattle.std.specs.Prelude.{Option, Some, None}
use Rattle.std.specs.List.{position}
use Rattle.doubles.specs.Arithmetic.{one64, zero64}
use Rattle.doubles.specs.Range.{clamp_to}
use Rattle.extent.specs.declared.radius.Knot.{Knot}
use Rattle.extent.specs.Extent.{first_knot, later_knots, radius_between, radius_from, radius_of}

-- the transfer of s, the clamped scalar
abbrev pub by_knots : Float → Float
by_knots s = cond (le s zero64) zero64 (radius_from first_knot later_knots s)

pub clamped : (x s : Float) → s ≡ clamp_to zero64 one64 x → by_knots s ≡ radius_of x
unfolding radius_of
clamped x s h = ap by_knots h

-- the table of the code
abbrev pub at : ℕ → Knot
at i = get_or (first_knot ∷ later_knots) i (record { scalar = nan; radius = nan })

-- what the place of the first knot that s does not exceed tells
abbrev pub at_place : Option ℕ → Float → Float
at_place None s = (at 4).radius
at_place (Some zero) s = (at 0).radius
at_place (Some (suc i)) s = radius_between (at i) (at (suc i)) s

pub between_at : (i : ℕ) (s : Float) → (i ≡ 0 → ⊥) → radius_between (at (i - 1)) (at i) s ≡ at_place (Some i) s
between_at zero s h = absurd (h refl)
between_at (suc i) s h = let e : suc i - 1 ≡ i = omega arith in rw e

pub by_place : (s : Float) → at_place (position (λ (k : Knot). le s k.scalar) (first_knot ∷ later_knots)) s ≡ by_knots s
by_place s = go (le s (at 0).scalar) (le s (at 1).scalar) (le s (at 2).scalar) (le s (at 3).scalar) (le s (at 4).scalar) refl refl refl refl refl
  where
    go : (a b c d e : Bool) → le s (at 0).scalar ≡ a → le s (at 1).scalar ≡ b → le s (at 2).scalar ≡ c → le s (at 3).scalar ≡ d → le s (at 4).scalar ≡ e → at_place (position (λ (k : Knot). le s k.scalar) (first_knot ∷ later_knots)) s ≡ by_knots s
    go true b c d e p q r t u = rw p
    go false true c d e p q r t u = rw (p, q)
    go false false true d e p q r t u = rw (p, q, r)
    go false false false true e p q r t u = rw (p, q, r, t)
    go false false false false true p q r t u = rw (p, q, r, t, u)
    go false false false false false p q r t u = rw (p, q, r, t, u)
