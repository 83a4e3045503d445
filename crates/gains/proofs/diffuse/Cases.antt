-- The definitions of the diffuse field, case by case. Assumes nothing.
use mathlib.Core.Path.{◌≡◌}
use mathlib.Core.Bool.{Bool, true, false, ◌&&◌, ◌||◌}
use lib.IntN.{pos}
use lib.Ieee.{Float, le}
use Rattle.doubles.specs.Arithmetic.{◌⊕◌, ◌⊗◌, ◌⊘◌, dec, from_int, zero64}
use Rattle.extent.specs.Kernel.{threshold}
use Rattle.gains.specs.Diffuse.{lambda_of}

-- ---- lambda
module _ (d r : Float) where
  -- whether it counts
  abbrev pub counts : Bool
  counts = (le (d ⊘ from_int (pos 4)) r || le (d ⊘ from_int (pos 4)) (dec 5 2)) && le threshold r

  pub lambda_near : counts ≡ true → lambda_of d r ≡ from_int (pos 25) ⊗ d ⊗ d ⊗ d ⊘ (from_int (pos 4) ⊗ r)
  unfolding lambda_of
  lambda_near h = rw h

  pub lambda_far : counts ≡ false → lambda_of d r ≡ zero64
  unfolding lambda_of
  lambda_far h = rw h

-- ---- a channel near a wall
module _ (inside product lambda e : Float) where
  abbrev pub field : Float
  field = dec 31640625 8 ⊗ (inside ⊕ lambda ⊗ product)
