-- The responses of the three axes: the code's tables are those of the definition. Assumes nothing.
use Prim.Native.Nat.{ℕ, ◌+◌}
use mathlib.Core.Path.{◌≡◌, ap, ◌∙◌, fun_ext}
use mathlib.Core.Bool.{Bool, true, false}
use mathlib.Core.List.{List}
use native.Mathlib.Nat.{zero-add}
use lib.Ieee.{Float}
use Rattle.doubles.specs.Arithmetic.{one64}
use Rattle.gains.specs.declared.Bracket.{Bracket}
use Rattle.layout.specs.declared.Centre.{Centre}
use Rattle.field.specs.Knots.{X, Y, Z}
use Rattle.gains.specs.Lookup.{centre_knots, radius_knots, bracket_of, lookup_of}
use Rattle.gains.specs.Diffuse.{Rows, response_x, response_y, response_z}

-- the bracket of a radius, by way of the code
pub of_radius : (xs : List Float) (r : Float) (b : Bracket) → xs ≡ radius_knots → b ≡ bracket_of xs r → b ≡ bracket_of radius_knots r
of_radius xs r b h e = e ∙ ap (λ (ys : List Float). bracket_of ys r) h

-- ks: the axis's knots, b: the radius's bracket
module _ (f : Rows) (c : Centre) (r : Float) (b : Bracket) (e : b ≡ bracket_of radius_knots r) (ks : List Float) where
  pub axis_X : ks ≡ centre_knots X → lookup_of (λ (i : ℕ). f (0 + i)) (bracket_of ks c.x) b ≡ response_x f c r
  unfolding response_x
  axis_X h = rw (h, e) (ap (λ (g : ℕ → Float). lookup_of g (bracket_of (centre_knots X) c.x) (bracket_of radius_knots r)) (fun_ext (λ (i : ℕ). ap f (zero-add i))))

  pub axis_Y : ks ≡ centre_knots Y → lookup_of (λ (i : ℕ). f (700 + i)) (bracket_of ks c.y) b ≡ response_y f c r
  unfolding response_y
  axis_Y h = rw (h, e)

  pub axis_Z : (deep : Bool) → deep ≡ true → ks ≡ centre_knots Z → lookup_of (λ (i : ℕ). f (1400 + i)) (bracket_of ks c.z) b ≡ response_z f deep c r
  unfolding response_z
  axis_Z deep t h = rw (t, h, e)

pub response_flat : (f : Rows) (deep : Bool) (c : Centre) (r : Float) → deep ≡ false → one64 ≡ response_z f deep c r
unfolding response_z
response_flat f deep c r e = rw e
