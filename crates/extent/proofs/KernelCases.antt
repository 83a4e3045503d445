-- The definitions of the kernel and the shaping, case by case. Assumes nothing.
use mathlib.Core.Path.{◌≡◌, sym, ap, ◌∙◌}
use mathlib.Core.Bool.{Bool, true, false, ◌||◌, cond}
use lib.IntN.{pos}
use lib.Ieee.{Float, neg, lt, le}
use Rattle.doubles.specs.Arithmetic.{◌⊖◌, ◌⊗◌, ◌⊘◌, dec, from_int, zero64}
use Rattle.approximations.specs.Circular.{cosine_of}
use Rattle.approximations.specs.Exp2.{exp2_of}
use Rattle.approximations.specs.Log2.{log2_of}
use Rattle.extent.specs.Kernel.{threshold, positive, quartic_of, heightened, kernel_at, kernel_of, shaped_of, exponent_of}

-- a quarter of the distance
abbrev pub quarter : Float → Float → Float
quarter u c = (u ⊖ c) ⊘ from_int (pos 4)

module _ (u c r : Float) (z : Bool) where
  pub kernel_small : lt r threshold ≡ true → kernel_of u c r z ≡ zero64
  unfolding kernel_of
  kernel_small s = rw s

  module _ (s : lt r threshold ≡ false) where
    pub kernel_far : (lt r (quarter u c) || lt r (neg (quarter u c))) ≡ true → kernel_of u c r z ≡ zero64
    unfolding kernel_of kernel_at
    kernel_far f = rw (s, f)

    -- v is the quartic
    module _ (f : (lt r (quarter u c) || lt r (neg (quarter u c))) ≡ false) (v : Float) (h : v ≡ quartic_of (quarter u c ⊘ r)) where
      kernel_near : kernel_of u c r z ≡ cond (positive v) (heightened z u v) zero64
      unfolding kernel_of kernel_at
      kernel_near = rw (s, f, h)

      pub kernel_bad : positive v ≡ false → kernel_of u c r z ≡ zero64
      kernel_bad b = kernel_near ∙ rw b

      pub kernel_good : positive v ≡ true → kernel_of u c r z ≡ heightened z u v
      kernel_good g = kernel_near ∙ rw g

-- w is the height's cosine
pub heightened_z : (z : Bool) (u v w : Float) → z ≡ true → w ≡ cosine_of (dec 1365909936 9 ⊗ u) → heightened z u v ≡ v ⊗ w
heightened_z z u v w h e = rw (h, e)

pub heightened_not : (z : Bool) (u v : Float) → z ≡ false → heightened z u v ≡ v
heightened_not z u v h = rw h

abbrev pub power : Float → Float → Float
power v e = exp2_of (e ⊗ log2_of v)

module _ (v e : Float) where
  pub shaped_not : lt zero64 v ≡ false → shaped_of v e ≡ zero64
  unfolding shaped_of
  shaped_not p = rw p

  shaped_above : lt zero64 v ≡ true → shaped_of v e ≡ cond (positive (power v e)) (power v e) zero64
  unfolding shaped_of
  shaped_above p = rw p

  -- x is the power
  module _ (x : Float) (p : lt zero64 v ≡ true) (h : x ≡ power v e) where
    shaped_by_lem : shaped_of v e ≡ cond (positive x) x zero64
    shaped_by_lem = shaped_above p ∙ ap (λ (y : Float). cond (positive y) y zero64) (sym h)

    pub shaped_good : positive x ≡ true → shaped_of v e ≡ x
    shaped_good g = shaped_by_lem ∙ rw g

    pub shaped_bad : positive x ≡ false → shaped_of v e ≡ zero64
    shaped_bad b = shaped_by_lem ∙ rw b

module _ (r : Float) where
  pub exponent_low : le r (dec 125 3) ≡ true → exponent_of r ≡ from_int (pos 6)
  unfolding exponent_of
  exponent_low p = rw p

  pub exponent_high : le r (dec 125 3) ≡ false → exponent_of r ≡ dec 686956501 8 ⊖ dec 695652199 8 ⊗ r
  unfolding exponent_of
  exponent_high p = rw p
