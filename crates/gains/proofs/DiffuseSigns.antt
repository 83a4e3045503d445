-- The laws of the diffuse field that other crates cite: its values are doubles, and clear (NaN, or the sign is clear). Assumes nothing.
use Prim.Native.Nat.{ℕ, ◌+◌, ◌≤◌, ◌<◌}
use mathlib.Core.Path.{refl, sym, subst}
use mathlib.Core.Bool.{Bool, true, false, cond}
use native.Mathlib.Omega.{arith}
use lib.Dec.{T}
use lib.Ieee.{Float, binary64, lt, eq, fits}
use lib.Ieee.Fits.{cond-fits}
use Rattle.doubles.specs.Arithmetic.{◌⊘◌, zero64}
use Rattle.approximations.specs.Exp2.{exp2_of}
use Rattle.approximations.specs.Log2.{log2_of}
use Rattle.doubles.proofs.Signs.{clear, cond_clear}
use Rattle.doubles.proofs.Laws.{mul-fits, div-fits, mul_clear}
use Rattle.approximations.proofs.Laws.{exp2_clear, exp2_fits}
use Rattle.layout.specs.declared.Centre.{Centre}
use Rattle.field.specs.Knots.{X, Y, Z}
use Rattle.gains.specs.Lookup.{centre_knots, radius_knots, bracket_of}
use Rattle.gains.specs.Diffuse.{Rows, response_x, response_y, response_z, weight_of, compensated_of, diffuse_of}
use Rattle.gains.proofs.Lookups.{placed_X, placed_Y, placed_Z, placed_radius, lookup_clear}
use Rattle.gains.proofs.diffuse.Cases.{field}
use Rattle.gains.proofs.diffuse.Field.{inside, near, diffuse_by}

-- ---- a channel near a wall, whatever the numbers
pub compensated_clear : (i p l e : Float) → T (clear (compensated_of i p l e))
unfolding compensated_of
compensated_clear i p l e =
    let v = log2_of (field i p l e) ⊘ e in
    cond_clear (lt zero64 (field i p l e)) (exp2_of v) zero64 (exp2_clear v (div-fits (log2_of (field i p l e)) e)) tt

pub compensated_fits : (i p l e : Float) → T (fits binary64 (compensated_of i p l e))
unfolding compensated_of fits
compensated_fits i p l e =
    let v = log2_of (field i p l e) ⊘ e in
    cond-fits binary64 (lt zero64 (field i p l e)) (exp2_of v) zero64 (exp2_fits v) tt

-- ---- the diffuse field
module _ (f : Rows) (deep : Bool) (c : Centre) (r : Float) where
  at_weight : Bool
  at_weight = eq (weight_of c deep r) zero64

  -- it is a double
  pub diffuse_fits : T (fits binary64 (diffuse_of f deep c r))
  unfolding at_weight
  diffuse_fits =
      subst (λ (x : Float). T (fits binary64 x)) (sym (diffuse_by f deep c r at_weight refl))
      (cond-fits binary64 at_weight (inside f deep c r) (near f deep c r) (mul-fits _ _) (compensated_fits _ _ _ _))

  -- it is clear where the three responses are
  diffuse_clear_by : T (clear (response_x f c r)) → T (clear (response_y f c r)) → T (clear (response_z f deep c r)) → T (clear (diffuse_of f deep c r))
  unfolding at_weight
  diffuse_clear_by p q s =
      subst (λ (x : Float). T (clear x)) (sym (diffuse_by f deep c r at_weight refl))
      (cond_clear at_weight (inside f deep c r) (near f deep c r) (mul_clear _ _ (mul_clear _ _ p q) s) (compensated_clear _ _ _ _))

-- ---- clear tables

-- how many rows the tables have: without Z, 80 fewer
abbrev pub table_rows : Bool → ℕ
table_rows deep = cond deep 1480 1400

abbrev pub CentreFits : Centre → Type 0
CentreFits c = T (fits binary64 c.x) × T (fits binary64 c.y) × T (fits binary64 c.z)

-- a row's number is a double, and clear
abbrev pub Good : Float → Type 0
Good x = T (clear x) × T (fits binary64 x)

tables_XY : (deep : Bool) → 1400 ≤ table_rows deep
tables_XY true = omega arith
tables_XY false = omega arith

module _ (f : Rows) (c : Centre) (r : Float) (h : CentreFits c) (k : T (fits binary64 r)) where
  clear_X : ((i : ℕ) → i < 1400 → Good (f i)) → T (clear (response_x f c r))
  unfolding response_x
  clear_X g =
      lookup_clear 34 c.x r (bracket_of (centre_knots X) c.x) (bracket_of radius_knots r) (placed_X c.x h.0) (placed_radius r k) f
      (λ (i : ℕ) (l : i < 700). (g i (omega arith)).0)
      (λ (i : ℕ) (l : i < 700). (g i (omega arith)).1)

  clear_Y : ((i : ℕ) → i < 1400 → Good (f i)) → T (clear (response_y f c r))
  unfolding response_y
  clear_Y g =
      lookup_clear 34 c.y r (bracket_of (centre_knots Y) c.y) (bracket_of radius_knots r) (placed_Y c.y h.1) (placed_radius r k) (λ (i : ℕ). f (700 + i))
      (λ (i : ℕ) (l : i < 700). (g (700 + i) (omega arith)).0)
      (λ (i : ℕ) (l : i < 700). (g (700 + i) (omega arith)).1)

  clear_Z : (deep : Bool) → ((i : ℕ) → i < table_rows deep → Good (f i)) → T (clear (response_z f deep c r))
  unfolding response_z
  clear_Z true g =
      lookup_clear 3 c.z r (bracket_of (centre_knots Z) c.z) (bracket_of radius_knots r) (placed_Z c.z h.2) (placed_radius r k) (λ (i : ℕ). f (1400 + i))
      (λ (i : ℕ) (l : i < 80). (g (1400 + i) (omega arith)).0)
      (λ (i : ℕ) (l : i < 80). (g (1400 + i) (omega arith)).1)
  clear_Z false g = tt

  -- over tables of clear doubles the field is clear, for any centre and radius that are doubles
  pub diffuse_clear : (deep : Bool) → ((i : ℕ) → i < table_rows deep → Good (f i)) → T (clear (diffuse_of f deep c r))
  diffuse_clear deep g =
      let t = tables_XY deep in
      let xy : (i : ℕ) → i < 1400 → Good (f i) = λ (i : ℕ) (l : i < 1400). g i (omega arith) in
      diffuse_clear_by f deep c r (clear_X xy) (clear_Y xy) (clear_Z deep g)
