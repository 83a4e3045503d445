-- Laws of the tables' numbers: they are equal where kernels and responses are, they are doubles, and they are clear (NaN, or the sign is clear). Assumes nothing.
use Prim.Native.Nat.{ℕ, zero, suc, ◌+◌, ◌-◌, ◌*◌, ◌/◌, ◌%◌, ◌≤◌, ◌<◌}
use mathlib.Core.Path.{◌≡◌, refl, sym, ap, ◌∙◌}
use mathlib.Core.Bool.{Bool, true, false, cond}
use mathlib.Core.List.{List}
use native.Mathlib.Nat.{div-eq_of_lt-le, mod-eq-sub-div-mul}
use native.Mathlib.Omega.{arith}
use borrow.Author.Tests.{lt-ltb, le-ltb}
use borrow.Rule.Slice.PartMut.{mid_of, put_mid}
use lib.Dec.{T}
use lib.Ieee.{Float, nan, binary64, le, lt, fits}
use lib.ListN.{length, get_or}
use Rattle.doubles.specs.Arithmetic.{◌⊕◌, ◌⊗◌, zero64}
use Rattle.approximations.specs.Exp2.{exp2_of}
use Rattle.approximations.specs.Log2.{log2_of}
use Rattle.doubles.proofs.Signs.{clear}
use Rattle.doubles.proofs.Laws.{add-fits, mul-fits, add_clear}
use Rattle.approximations.proofs.Laws.{exp2_clear}
use Rattle.layout.specs.Topology.{TopologyLayer}
use Rattle.extent.specs.Kernel.{positive, kernel_of, shaped_of, exponent_of}
use Rattle.field.specs.Knots.{Axis, X, Y, is_z, sample_count, sample, centre_knot, radius_knot}
use Rattle.field.specs.Responses.{response_on}
use Rattle.field.specs.Patched.{patched, within, either}
use Rattle.field.specs.Tables.{add_sample, sampled_over, sampled_on, knot_number, number_xy, row}
use Rattle.field.proofs.Patching.{part_patched, patched_where, patched_both, within_join}

-- ---- rows of n numbers

-- index i of row r
pub row_place : (n r i : ℕ) → r * n ≤ i → i < (r + 1) * n → (i / n ≡ r) × (i % n ≡ i - r * n)
row_place n r i h k =
    let q : i / n ≡ r = div-eq_of_lt-le n (omega arith) (omega arith) in
    (q, mod-eq-sub-div-mul i n ∙ rw q (omega arith))

-- the same of rows from base on
pub row_index : (base n r i : ℕ) → base + r * n ≤ i → i < base + r * n + n → ((i - base) / n ≡ r) × ((i - base) % n ≡ i - (base + r * n))
row_index base n r i h k =
    let p = row_place n r (i - base) (omega arith) (omega arith) in
    (p.0, p.1 ∙ omega arith)

-- numbers put into row r, which ends at e, are h by row and place in the row
pub row_patched : (n r e : ℕ) (h : ℕ → ℕ → Float) (xs ys : List Float) → e ≡ (r + 1) * n → e ≤ length xs → length ys ≡ length (mid_of (r * n) (e - r * n) xs) → ((k : ℕ) → k < n → get_or ys k nan ≡ h r k) → put_mid (r * n) (e - r * n) xs ys ≡ patched (row n r) (λ (i : ℕ). h (i / n) (i % n)) xs
row_patched n r e h xs ys is l m k =
    let f : e - r * n ≡ n = omega arith in
    part_patched (r * n) e (λ (i : ℕ). h (i / n) (i % n)) xs ys (omega arith) l m
    (λ (i : ℕ) (j : i < e - r * n).
    let p = row_place n r (r * n + i) (omega arith) (omega arith) in
    let d : r * n + i - r * n ≡ i = omega arith in
    k i (omega arith) ∙ sym (rw (p.0, p.1, d)))
    ∙ ap (λ (b : ℕ). patched (within (r * n) b) (λ (i : ℕ). h (i / n) (i % n)) xs) is

-- one more row
pub rows_more : (n a r i : ℕ) → a ≤ r * n → either (within a (r * n)) (row n r) i ≡ within a ((r + 1) * n) i
rows_more n a r i h = within_join a (r * n) ((r + 1) * n) i h (omega arith)

pub rows_patched : (n a r : ℕ) (F : ℕ → Float) (xs : List Float) → a ≤ r * n → patched (row n r) F (patched (within a (r * n)) F xs) ≡ patched (within a ((r + 1) * n)) F xs
rows_patched n a r F xs h =
    patched_both (row n r) (within a (r * n)) F xs ∙ patched_where (either (within a (r * n)) (row n r)) (within a ((r + 1) * n)) F xs (λ (i : ℕ) (k : i < length xs). rows_more n a r i h)

-- the rows of X, and the rows of Y
pub number_X : (x y : List (List Float)) (r k : ℕ) → r < 700 → number_xy x y r k ≡ knot_number X x r k
unfolding number_xy
number_X x y r k h = rw (lt-ltb r 700 h)

pub number_Y : (x y : List (List Float)) (r k : ℕ) → number_xy x y (700 + r) k ≡ knot_number Y y r k
unfolding number_xy
number_Y x y r k =
    ap (λ (b : Bool). cond b (knot_number X x (700 + r) k) (knot_number Y y (700 + r - 700) k)) (le-ltb (700 + r) 700 (omega arith))
    ∙ ap (λ (q : ℕ). knot_number Y y q k) (omega arith)

-- ---- sums over the samples: equal where kernels and responses are, below the count
pub sampled_cong : (K L R S : ℕ → Float) (e : Float) (c : ℕ) → ((s : ℕ) → s < c → K s ≡ L s) → ((s : ℕ) → s < c → R s ≡ S s) → sampled_over K R e c ≡ sampled_over L S e c
unfolding sampled_over
sampled_cong K L R S e zero p q = refl
sampled_cong K L R S e (suc c) p q =
    ap (λ (k : Float). add_sample k (R c) e (sampled_over K R e c)) (p c (omega arith))
    ∙ ap (λ (r : Float). add_sample (L c) r e (sampled_over K R e c)) (q c (omega arith))
    ∙ ap (λ (sum : Float). add_sample (L c) (S c) e sum) (sampled_cong K L R S e c (λ (s : ℕ) (h : s < c). p s (omega arith)) (λ (s : ℕ) (h : s < c). q s (omega arith)))

-- ---- they are doubles and clear, whatever the kernels and responses
cond_holds : (P : Float → Type 0) (b : Bool) (x y : Float) → P x → P y → P (cond b x y)
cond_holds P true x y p q = p
cond_holds P false x y p q = q

pub shaped_clear : (v e : Float) → T (clear (shaped_of v e))
unfolding shaped_of
shaped_clear v e =
    let r = exp2_of (e ⊗ log2_of v) in
    cond_holds (λ (x : Float). T (clear x)) (lt zero64 v) (cond (positive r) r zero64) zero64
    (cond_holds (λ (x : Float). T (clear x)) (positive r) r zero64 (exp2_clear (e ⊗ log2_of v) (mul-fits e (log2_of v))) tt) tt

pub sampled_over_clear : (K R : ℕ → Float) (e : Float) (c : ℕ) → T (clear (sampled_over K R e c))
unfolding sampled_over
sampled_over_clear K R e zero = tt
sampled_over_clear K R e (suc s) =
    let sum = sampled_over K R e s in
    let v = shaped_of (K s ⊗ R s) e in
    cond_holds (λ (x : Float). T (clear x)) (le (K s) zero64) sum (sum ⊕ v) (sampled_over_clear K R e s) (add_clear sum v (sampled_over_clear K R e s) (shaped_clear (K s ⊗ R s) e))

pub sampled_over_fits : (K R : ℕ → Float) (e : Float) (c : ℕ) → T (fits binary64 (sampled_over K R e c))
unfolding sampled_over
sampled_over_fits K R e zero = unfold fits in tt
sampled_over_fits K R e (suc s) =
    let sum = sampled_over K R e s in
    let v = shaped_of (K s ⊗ R s) e in
    cond_holds (λ (x : Float). T (fits binary64 x)) (le (K s) zero64) sum (sum ⊕ v) (sampled_over_fits K R e s) (add-fits sum v)

-- what every such sum has, a number of the tables has
module _ (P : Float → Type 0) (h : (K R : ℕ → Float) (e : Float) (c : ℕ) → P (sampled_over K R e c)) where
  sampled_on_has : (a : Axis) (t : List TopologyLayer) (i j name : ℕ) → P (sampled_on a t i j name)
  unfolding sampled_on
  sampled_on_has a t i j name =
      h (λ (s : ℕ). kernel_of (sample a s) (centre_knot a i) (radius_knot j) (is_z a)) (λ (s : ℕ). response_on a t (sample a s) name) (exponent_of (radius_knot j)) (sample_count a)

pub sampled_on_clear : (a : Axis) (t : List TopologyLayer) (i j name : ℕ) → T (clear (sampled_on a t i j name))
sampled_on_clear = sampled_on_has (λ (x : Float). T (clear x)) sampled_over_clear

pub sampled_on_fits : (a : Axis) (t : List TopologyLayer) (i j name : ℕ) → T (fits binary64 (sampled_on a t i j name))
sampled_on_fits = sampled_on_has (λ (x : Float). T (fits binary64 x)) sampled_over_fits
