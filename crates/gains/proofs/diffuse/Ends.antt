-- The response at the nearest wall, by the wall. Assumes nothing.
use Prim.Native.Nat.{ℕ, ◌+◌}
use mathlib.Core.Path.{◌≡◌, ap, ◌∙◌}
use mathlib.Core.Bool.{Bool, false, true}
use native.Mathlib.Nat.{add-zero}
use mir.Val.{bool_byte}
use lib.IntN.{pos}
use lib.Ieee.{Float, binary64, of_int, round}
use Rattle.doubles.specs.Arithmetic.{◌⊗◌, one64}
use Rattle.layout.specs.declared.Centre.{Centre}
use Rattle.extent.specs.Kernel.{kernel_of, shaped_of, exponent_of}
use Rattle.gains.specs.declared.Wall.{Wall}
use Rattle.gains.specs.declared.Wall.TheVariants.{X, Y, Z}
use Rattle.gains.specs.Walls.{distance_of, nearest_wall}
use Rattle.gains.specs.Diffuse.{Rows, wall_at, end_row, end_product, lambda_of, weight_of}

-- wall and weight by way of the code
pub weight_is : (c : Centre) (deep : Bool) (r : Float) (wall : Wall) (d w : Float) → wall ≡ nearest_wall c deep → d ≡ distance_of wall → w ≡ lambda_of d r → w ≡ weight_of c deep r
unfolding weight_of
weight_is c deep r wall d w p q h = h ∙ ap (λ (v : Float). lambda_of v r) (q ∙ ap distance_of p)

-- the far wall's row is the next one
row_of : (near b : ℕ) (far : Bool) → b ≡ bool_byte far → near + b ≡ end_row near far
row_of near b true e = rw e
row_of near b false e = rw e (add-zero near)

-- where a wall stands, by the number of its flag
stands : (b : ℕ) (far : Bool) → b ≡ bool_byte far → of_int binary64 (pos b) ≡ wall_at far
unfolding of_int round
stands b true e = rw e
stands b false e = rw e

-- v: the channel's number at the wall, k: the kernel there
module _ (f : Rows) (c : Centre) (r x y z v k : Float) (wall : Wall) where
  pub by_X : (far : Bool) (d u : Float) (a b : ℕ) → wall ≡ X far d → a ≡ bool_byte far → b ≡ bool_byte far → v ≡ f (1480 + a) → u ≡ of_int binary64 (pos b) → k ≡ kernel_of u c.x r false → shaped_of (k ⊗ v) (exponent_of r) ⊗ y ⊗ z ≡ end_product wall f c r x y z
  unfolding end_product
  by_X far d u a b p h i e q t = rw (p, e, row_of 1480 a far h, t, q, stands b far i)

  pub by_Y : (far : Bool) (d u : Float) (a b : ℕ) → wall ≡ Y far d → a ≡ bool_byte far → b ≡ bool_byte far → v ≡ f (1482 + a) → u ≡ of_int binary64 (pos b) → k ≡ kernel_of u c.y r false → shaped_of (k ⊗ v) (exponent_of r) ⊗ x ⊗ z ≡ end_product wall f c r x y z
  unfolding end_product
  by_Y far d u a b p h i e q t = rw (p, e, row_of 1482 a far h, t, q, stands b far i)

  pub by_Z : (d : Float) → wall ≡ Z d → v ≡ f 1485 → k ≡ kernel_of one64 c.z r true → shaped_of (k ⊗ v) (exponent_of r) ⊗ x ⊗ y ≡ end_product wall f c r x y z
  unfolding end_product
  by_Z d p e t = rw (p, e, t)
