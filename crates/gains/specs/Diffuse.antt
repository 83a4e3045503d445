-- The diffuse field over the numbers of a place, whatever they are. Definitions only.
use Rattle.std.specs.Prelude.{ℕ, ◌+◌, ◌*◌, Bool, true, false, ◌&&◌, ◌||◌, cond, List, pos, Float, get_or}
use Rattle.std.specs.Float.{nan}
use Rattle.std.specs.Float.Ieee.{lt, le, eq}
use Rattle.doubles.specs.Arithmetic.{◌⊕◌, ◌⊗◌, ◌⊘◌, dec, from_int, zero64, one64}
use Rattle.approximations.specs.Exp2.{exp2_of}
use Rattle.approximations.specs.Log2.{log2_of}
use Rattle.layout.specs.declared.Centre.{Centre}
use Rattle.gains.specs.declared.Wall.{Wall}
use Rattle.gains.specs.declared.Wall.TheVariants.{X, Y, Z}
use Rattle.extent.specs.Kernel.{threshold, kernel_of, shaped_of, exponent_of}
use Rattle.field.specs.Knots as knots
use Rattle.gains.specs.Lookup.{centre_knots, radius_knots, bracket_of, lookup_of}
use Rattle.gains.specs.Walls.{distance_of, nearest_wall}

-- the numbers of one channel in a place, row by row: X from row 0, Y from 700, Z from 1400, the end responses X0 X1 Y0 Y1 Z0 Z1 from 1480
abbrev pub Rows : Type 0
Rows = ℕ → Float

-- those of channel k in a store, where the place begins at base and has n numbers to a row
abbrev pub place_rows : List Float → ℕ → ℕ → ℕ → Rows
place_rows store base n k = λ (i : ℕ). get_or store (base + (i * n + k)) nan

-- the channel's response on each axis, for a centre and a radius; without Z it is 1
unfoldable pub response_x : Rows → Centre → Float → Float
unfolding bracket_of lookup_of
response_x f c r = lookup_of f (bracket_of (centre_knots knots.X) c.x) (bracket_of radius_knots r)

unfoldable pub response_y : Rows → Centre → Float → Float
unfolding bracket_of lookup_of
response_y f c r = lookup_of (λ (i : ℕ). f (700 + i)) (bracket_of (centre_knots knots.Y) c.y) (bracket_of radius_knots r)

unfoldable pub response_z : Rows → Bool → Centre → Float → Float
unfolding bracket_of lookup_of
response_z f deep c r = cond deep (lookup_of (λ (i : ℕ). f (1400 + i)) (bracket_of (centre_knots knots.Z) c.z) (bracket_of radius_knots r)) one64

-- lambda of `diffuse`
unfoldable pub lambda_of : Float → Float → Float
lambda_of d r = cond ((le (d ⊘ from_int (pos 4)) r || le (d ⊘ from_int (pos 4)) (dec 5 2)) && le threshold r) (from_int (pos 25) ⊗ d ⊗ d ⊗ d ⊘ (from_int (pos 4) ⊗ r)) zero64

-- lambda of the nearest wall
unfoldable pub weight_of : Centre → Bool → Float → Float
unfolding lambda_of nearest_wall
weight_of c deep r = lambda_of (distance_of (nearest_wall c deep)) r

-- where a wall stands on its axis
abbrev pub wall_at : Bool → Float
wall_at far = cond far one64 zero64

-- the end response of a wall, by the kernel there: `sampled_endpoint_response`
abbrev pub ended : Float → Float → Float → Bool → Float → Float
ended number u centre z r = shaped_of (kernel_of u centre r z ⊗ number) (exponent_of r)

-- the row of a wall's end responses: `near`, or for the far wall the next one
abbrev pub end_row : ℕ → Bool → ℕ
end_row near far = cond far (near + 1) near

-- the end response and the other two axes' responses, in the Rust's order
unfoldable pub end_product : Wall → Rows → Centre → Float → Float → Float → Float → Float
unfolding shaped_of kernel_of exponent_of
end_product (X far d) f c r x y z = ended (f (end_row 1480 far)) (wall_at far) c.x false r ⊗ y ⊗ z
end_product (Y far d) f c r x y z = ended (f (end_row 1482 far)) (wall_at far) c.y false r ⊗ x ⊗ z
end_product (Z d) f c r x y z = ended (f 1485) one64 c.z true r ⊗ x ⊗ y

-- shaped with the end response: 0.31640625 is half of 0.6328125
unfoldable pub compensated_of : Float → Float → Float → Float → Float
unfolding exp2_of log2_of
compensated_of inside product lambda e = let field = dec 31640625 8 ⊗ (inside ⊕ lambda ⊗ product) in cond (lt zero64 field) (exp2_of (log2_of field ⊘ e)) zero64

-- a channel's value before the first normalising
unfoldable pub diffuse_of : Rows → Bool → Centre → Float → Float
unfolding response_x response_y response_z weight_of end_product compensated_of nearest_wall exponent_of
diffuse_of f deep c r =
    let x = response_x f c r in
    let y = response_y f c r in
    let z = response_z f deep c r in
    let lambda = weight_of c deep r in
    cond (eq lambda zero64) (x ⊗ y ⊗ z) (compensated_of (x ⊗ y ⊗ z) (end_product (nearest_wall c deep) f c r x y z) lambda (exponent_of r))
