-- The diffuse field of each channel, from the arrays of the code. Assumes nothing.
use mathlib.Core.Path.{◌≡◌, sym, ap, ◌∙◌}
use mathlib.Core.Bool.{Bool, true, false, cond}
use lib.Ieee.{Float, eq}
use Rattle.doubles.specs.Arithmetic.{◌⊗◌, zero64}
use Rattle.layout.specs.declared.Centre.{Centre}
use Rattle.extent.specs.Kernel.{exponent_of}
use Rattle.gains.specs.declared.Wall.{Wall}
use Rattle.gains.specs.Walls.{nearest_wall}
use Rattle.gains.specs.Diffuse.{Rows, response_x, response_y, response_z, weight_of, end_product, compensated_of, diffuse_of}

-- ---- the definition, case by case
module _ (f : Rows) (deep : Bool) (c : Centre) (r : Float) where
  -- away from the walls
  abbrev pub inside : Float
  inside = response_x f c r ⊗ response_y f c r ⊗ response_z f deep c r

  -- by the nearest wall
  abbrev pub near : Float
  near = compensated_of inside (end_product (nearest_wall c deep) f c r (response_x f c r) (response_y f c r) (response_z f deep c r)) (weight_of c deep r) (exponent_of r)

  pub diffuse_by : (b : Bool) → eq (weight_of c deep r) zero64 ≡ b → diffuse_of f deep c r ≡ cond b inside near
  unfolding diffuse_of
  diffuse_by b e = ap (λ (t : Bool). cond t inside near) e

-- ---- x, y and z: the responses, w: the weight
module _ (f : Rows) (deep : Bool) (c : Centre) (r x y z w : Float) (px : x ≡ response_x f c r) (py : y ≡ response_y f c r) (pz : z ≡ response_z f deep c r) (pw : w ≡ weight_of c deep r) where
  -- where the wall does not count
  pub far_at : eq w zero64 ≡ true → x ⊗ y ⊗ z ≡ diffuse_of f deep c r
  far_at t = rw (px, py, pz) (sym (diffuse_by f deep c r true (ap (λ (v : Float). eq v zero64) (sym pw) ∙ t)))

  -- and where it does: i is their product, p the response there
  pub near_at : (wall : Wall) (i p : Float) → wall ≡ nearest_wall c deep → i ≡ x ⊗ y ⊗ z → p ≡ end_product wall f c r x y z → eq w zero64 ≡ false → compensated_of i p w (exponent_of r) ≡ diffuse_of f deep c r
  near_at wall i p q j e t =
      rw (j, e, q, px, py, pz, pw) (sym (diffuse_by f deep c r false (ap (λ (v : Float). eq v zero64) (sym pw) ∙ t)))
