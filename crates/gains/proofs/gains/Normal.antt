-- The branches of `normalize` and of `mix` are the cases of their definitions. Assumes nothing.
use mathlib.Core.Path.{◌≡◌}
use mathlib.Core.Bool.{Bool, true, false, ◌&&◌, cond}
use mathlib.Core.List.{List, map}
use lib.Ieee.{Float, binary64, lt}
use lib.Ieee.Scale.{finite}
use lib.ListN.{length, length-map}
use Rattle.doubles.specs.Arithmetic.{◌⊕◌, ◌⊗◌, ◌⊘◌, dec, zero64}
use Rattle.doubles.specs.Norm.{sum_squares}
use Rattle.doubles.specs.Root.{sqrt_of}
use Rattle.gains.specs.declared.Blend.{Blend}
use Rattle.gains.specs.declared.Blend.TheVariants.{Point, Both, Field}
use Rattle.gains.specs.Gains.{normalized_of, blended}
use Rattle.lists.specs.Lists.{zip_with}

-- s: the sum, b: it is finite, r: its root
module _ (v : List Float) (s : Float) (b : Bool) (e : s ≡ sum_squares v) (f : b ≡ finite s) where
  pub normalized_yes : (r : Float) → b && lt zero64 s ≡ true → r ≡ sqrt_of binary64 s → map (λ (x : Float). x ⊘ r) v ≡ normalized_of v
  unfolding normalized_of
  normalized_yes r h q = rw (← e, ← f, h, q)

  pub normalized_no : b && lt zero64 s ≡ false → map (λ (x : Float). zero64) v ≡ normalized_of v
  unfolding normalized_of
  normalized_no h = rw (← e, ← f, h)

pub normalized_length : (v : List Float) → length (normalized_of v) ≡ length v
unfolding normalized_of
normalized_length v = go (finite (sum_squares v) && lt zero64 (sum_squares v)) _ _
  where
    go : (b : Bool) (f g : Float → Float) → length (cond b (map f v) (map g v)) ≡ length v
    go true f g = length-map v f
    go false f g = length-map v g

-- ---- the three blends
module _ (w : Blend) (points field : List Float) where
  pub blended_point : w ≡ Point → points ≡ blended w points field
  unfolding blended
  blended_point e = rw e

  pub blended_both : (a b : Float) → w ≡ Both a b → normalized_of (zip_with (λ (p d : Float). a ⊗ p ⊕ b ⊗ d) points field) ≡ blended w points field
  unfolding blended
  blended_both a b e = rw e

  pub blended_field : w ≡ Field → normalized_of (map (λ (d : Float). dec 5 1 ⊗ d) field) ≡ blended w points field
  unfolding blended
  blended_field e = rw e
