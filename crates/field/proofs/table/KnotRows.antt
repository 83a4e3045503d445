-- The rows of the tables as the loops write them: one knot's numbers, and the rows written so far. Assumes nothing.
use Prim.Native.Nat.{ℕ, ◌+◌, ◌-◌, ◌*◌, ◌/◌, ◌%◌, ◌≤◌, ◌<◌}
use mathlib.Core.Path.{◌≡◌, refl, sym, ap, ap₂, ◌∙◌}
use mathlib.Core.Bool.{Bool, true, false, ◌||◌}
use mathlib.Core.List.{List}
use native.Mathlib.Nat.{le_trans, mul-le-mul_right}
use native.Mathlib.Omega.{arith}
use borrow.Rule.Slice.PartMut.{mid_of, put_mid}
use lib.Ieee.{Float, nan}
use lib.ListN.{length, get_or}
use Rattle.extent.specs.Kernel.{kernel_of, exponent_of}
use Rattle.field.specs.Knots.{Axis, X, Y, Z, is_z, sample_count, sample, centre_knot, radius_knot}
use Rattle.field.specs.Patched.{patched, within, either}
use Rattle.field.specs.Steps.Columns.{in_columns}
use Rattle.field.specs.Tables.{sampled_over, knot_number, number_xy, row}
use Rattle.field.proofs.Patching.{patched_length, within_fails, within_none, patched_none, patched_both, patched_where}
use Rattle.field.proofs.Tables.{sampled_cong, rows_more, rows_patched, row_patched, number_X, number_Y}

-- a list has the kernels of a knot
abbrev pub HasKernels : Axis → ℕ → List Float → Type 0
HasKernels a knot ks = (s : ℕ) → s < sample_count a → get_or ks s nan ≡ kernel_of (sample a s) (centre_knot a (knot / 20)) (radius_knot (knot % 20)) (is_z a)

-- the number of channel k from kernels in a list
abbrev pub listed : Axis → List Float → List (List Float) → ℕ → ℕ → Float
listed a kernels columns knot k =
    sampled_over (λ (s : ℕ). get_or kernels s nan) (λ (s : ℕ). in_columns columns s k) (exponent_of (radius_knot (knot % 20))) (sample_count a)

pub listed_is : (a : Axis) (ks : List Float) (columns : List (List Float)) (knot k : ℕ) → HasKernels a knot ks → listed a ks columns knot k ≡ knot_number a columns knot k
unfolding knot_number
listed_is a ks columns knot k h =
    let K : ℕ → Float = λ (s : ℕ). kernel_of (sample a s) (centre_knot a (knot / 20)) (radius_knot (knot % 20)) (is_z a) in
    let R : ℕ → Float = λ (s : ℕ). in_columns columns s k in
    sampled_cong (λ (s : ℕ). get_or ks s nan) K R R (exponent_of (radius_knot (knot % 20))) (sample_count a) h (λ (s : ℕ) (l : s < sample_count a). refl)

-- a row has the numbers of a knot, from kernels in a list
abbrev pub HasNumbers : Axis → List Float → List (List Float) → ℕ → ℕ → List Float → Type 0
HasNumbers a kernels columns knot n ys = (k : ℕ) → k < n → get_or ys k nan ≡ listed a kernels columns knot k

-- ---- X and Y

-- the number at index i
abbrev pub table_xy : List (List Float) → List (List Float) → ℕ → ℕ → Float
table_xy x y n i = number_xy x y (i / n) (i % n)

-- one knot's rows of X and Y
module _ (n knot : ℕ) (x y : List (List Float)) (ks xs ps qs : List Float) where
  abbrev pub first_row : List Float
  first_row = put_mid (knot * n) ((knot + 1) * n - knot * n) xs ps

  pub knot_XY : 1400 * n ≤ length xs → knot < 700 → HasKernels X knot ks → length ps ≡ length (mid_of (knot * n) ((knot + 1) * n - knot * n) xs) → length qs ≡ length (mid_of ((700 + knot) * n) ((701 + knot) * n - (700 + knot) * n) first_row) →
      HasNumbers X ks x knot n ps → HasNumbers Y ks y knot n qs → put_mid ((700 + knot) * n) ((701 + knot) * n - (700 + knot) * n) first_row qs ≡ patched (either (row n knot) (row n (700 + knot))) (table_xy x y n) xs
  knot_XY long h l mp mq p q =
      row_patched n (700 + knot) ((701 + knot) * n) (number_xy x y) first_row qs (omega arith) (rw same (most (701 + knot) (omega arith))) mq (λ k j. q k j ∙ listed_is Y ks y knot k l ∙ sym (number_Y x y knot k))
      ∙ ap (patched (row n (700 + knot)) (table_xy x y n)) low
      ∙ patched_both (row n (700 + knot)) (row n knot) (table_xy x y n) xs
    where
      most : (r : ℕ) → r ≤ 1400 → r * n ≤ length xs
      most r m = le_trans (mul-le-mul_right n m) long

      low : first_row ≡ patched (row n knot) (table_xy x y n) xs
      low = row_patched n knot ((knot + 1) * n) (number_xy x y) xs ps refl (most (knot + 1) (omega arith)) mp (λ k j. p k j ∙ listed_is X ks x knot k l ∙ sym (number_X x y knot k h))

      same : length first_row ≡ length xs
      same = ap length low ∙ patched_length (row n knot) (table_xy x y n) xs

-- the places written after some knots
abbrev pub written_xy : ℕ → ℕ → ℕ → Bool
written_xy n knot = either (within 0 (knot * n)) (within (700 * n) ((700 + knot) * n))

module _ (n : ℕ) (F : ℕ → Float) (xs : List Float) where
  pub written_xy_none : patched (written_xy n 0) F xs ≡ xs
  written_xy_none =
      patched_none (written_xy n 0) F xs (λ (i : ℕ) (k : i < length xs). rw (within_fails 0 (0 * n) i (λ h l. omega arith), within_fails (700 * n) (700 * n) i (λ h l. omega arith)))

  pub written_xy_more : (knot : ℕ) → patched (either (row n knot) (row n (700 + knot))) F (patched (written_xy n knot) F xs) ≡ patched (written_xy n (knot + 1)) F xs
  written_xy_more knot =
      patched_both (either (row n knot) (row n (700 + knot))) (written_xy n knot) F xs
      ∙ patched_where (either (written_xy n knot) (either (row n knot) (row n (700 + knot)))) (written_xy n (knot + 1)) F xs
      (λ (i : ℕ) (k : i < length xs).
      let e : 700 + (knot + 1) ≡ 700 + knot + 1 = omega arith in
      rw e
      (regroup (within 0 (knot * n) i) (within (700 * n) ((700 + knot) * n) i) (row n knot i) (row n (700 + knot) i)
      ∙ ap₂ ◌||◌ (rows_more n 0 knot i (omega arith)) (rows_more n (700 * n) (700 + knot) i (omega arith))))
    where
      regroup : (a b c d : Bool) → ((a || b) || (c || d)) ≡ ((a || c) || (b || d))
      regroup true b c d = refl
      regroup false true true d = refl
      regroup false false true d = refl
      regroup false b false d = refl

-- ---- Z

-- the number at index i
abbrev pub table_z : List (List Float) → ℕ → ℕ → Float
table_z z n i = knot_number Z z (i / n - 1400) (i % n)

-- one knot's row of Z
pub knot_Z : (n knot : ℕ) (z : List (List Float)) (ks xs ps : List Float) → 1480 * n ≤ length xs → knot < 80 → HasKernels Z knot ks → length ps ≡ length (mid_of ((1400 + knot) * n) ((1401 + knot) * n - (1400 + knot) * n) xs) → HasNumbers Z ks z knot n ps →
    put_mid ((1400 + knot) * n) ((1401 + knot) * n - (1400 + knot) * n) xs ps ≡ patched (row n (1400 + knot)) (table_z z n) xs
knot_Z n knot z ks xs ps long h l mp p =
    row_patched n (1400 + knot) ((1401 + knot) * n) (λ (r k : ℕ). knot_number Z z (r - 1400) k) xs ps (omega arith) (le_trans (mul-le-mul_right n most) long) mp
    (λ k j. p k j ∙ listed_is Z ks z knot k l ∙ ap (λ (r : ℕ). knot_number Z z r k) (omega arith))
  where
    most : 1401 + knot ≤ 1480
    most = omega arith

-- the places written after some knots
abbrev pub written_z : ℕ → ℕ → ℕ → Bool
written_z n knot = within (1400 * n) ((1400 + knot) * n)

module _ (n : ℕ) (F : ℕ → Float) (xs : List Float) where
  pub written_z_none : patched (written_z n 0) F xs ≡ xs
  written_z_none = within_none (1400 * n) F xs

  pub written_z_more : (knot : ℕ) → patched (row n (1400 + knot)) F (patched (written_z n knot) F xs) ≡ patched (written_z n (knot + 1)) F xs
  written_z_more knot =
      let e : 1400 + (knot + 1) ≡ 1400 + knot + 1 = omega arith in
      rw e (rows_patched n (1400 * n) (1400 + knot) F xs (omega arith))
