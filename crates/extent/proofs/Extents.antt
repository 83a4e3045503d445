-- The laws of extents that other crates cite. Assumes nothing.
use mathlib.Core.Path.{refl, subst}
use mathlib.Core.Bool.{Bool, true, ◌&&◌}
use mathlib.Core.List.{List, [], ◌∷◌}
use lib.Dec.{T}
use lib.Ieee.{Float, binary64, round, le, fits}
use lib.Ieee.Fits.{cond-fits, add-fits, and_l, and_r}
use Rattle.doubles.specs.Arithmetic.{zero64, one64}
use Rattle.doubles.specs.Range.{clamp_to}
use Rattle.extent.specs.declared.radius.Knot.{Knot}
use Rattle.extent.specs.Extent.{first_knot, later_knots, radius_between, radius_from, radius_of}
use Rattle.extent.proofs.radius.Transfer.{by_knots, clamped}

abbrev radii_fit : List Knot → Bool
radii_fit [] = true
radii_fit (b ∷ bs) = fits binary64 b.radius && radii_fit bs

from_fits : (a : Knot) (bs : List Knot) (s : Float) → T (fits binary64 a.radius) → T (radii_fit bs) → T (fits binary64 (radius_from a bs s))
from_fits a [] s h k = h
from_fits a (b ∷ bs) s h k =
    let l = and_l (fits binary64 b.radius) (radii_fit bs) k in
    let r = and_r (fits binary64 b.radius) (radii_fit bs) k in
    cond-fits binary64 (le s b.scalar) (radius_between a b s) (radius_from b bs s) (add-fits binary64 _ _) (from_fits b bs s l r)

pub radius_fits : (x : Float) → T (fits binary64 (radius_of x))
unfolding fits round
radius_fits x = subst (λ (z : Float). T (fits binary64 z)) (clamped x _ refl) (at (clamp_to zero64 one64 x))
  where
    at : (s : Float) → T (fits binary64 (by_knots s))
    at s = cond-fits binary64 (le s zero64) zero64 (radius_from first_knot later_knots s) tt (from_fits first_knot later_knots s tt tt)
