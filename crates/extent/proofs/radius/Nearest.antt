-- What the proof of `quantise` cites: the lowest 16 digits of the pattern of v * 32768 + 1.5 * 2 ^ 52 are the whole number nearest to v * 32768. Assumes nothing.
use mathlib.Core.Path.{◌≡◌, sym, ap, ◌∙◌}
use Prim.Native.Nat.{ℕ, ◌+◌, ◌*◌, ◌%◌, ◌^◌, ◌≤◌, min}
use native.Mathlib.Nat.{lt_irrefl, lt_of_not-le, le_of_suc-le-suc, mul-le-mul_right}
use native.Mathlib.Omega.{arith}
use mathlib.Core.Bool.{Bool, true, false, not, cond}
use lib.IntN.{ℤ, pos}
use lib.Dec.{T}
use lib.Ieee.{Float, nan, inf, fin, binary64, up, down, lt, le, eq, fits, is_nan, to_bits}
use lib.Ieee.Fits.{down_pos, add-fits}
use lib.Ieee.Nearest.{closest}
use lib.Ieee.Positive.{num, den}
use Rattle.doubles.specs.Arithmetic.{◌⊕◌, ◌⊗◌, from_int, one64, zero64}
use Rattle.doubles.specs.Floor.{shift}
use Rattle.doubles.specs.Range.{is_between}
use Rattle.doubles.proofs.NearestWhole.{sum_nearest}
use Rattle.doubles.proofs.Rounding.{closest_near}
use Rattle.doubles.proofs.WholePatterns.{whole_bits}
use Rattle.extent.specs.Extent.{quantised}
use Rattle.extent.proofs.radius.Product.{minus_zero_lem, at_most_one, product_exact}
use Rattle.extent.proofs.radius.Ranges.{component_is}

-- the whole number nearest to 32768 × v, a half going to the even one
abbrev pub nearest_whole : Float → ℕ
nearest_whole v = closest (32768 * num v) (den v)

-- the sum of the code
abbrev shifted : Float → Float
shifted v = v ⊗ from_int (pos 32768) ⊕ shift

-- it is no NaN, and the lowest digits of its pattern are that number
abbrev pub Shows : Float → Type 0
Shows v = T (not (is_nan (shifted v))) × (to_bits binary64 (shifted v) % 65536 ≡ nearest_whole v)

lowest : (b q : ℕ) → q ≤ 32768 → b ≡ 1075 * 2 ^ 52 + (2 ^ 51 + q) → b % 65536 ≡ q
lowest b q h e = omega arith

module _ (s : Bool) (m : ℕ) (e : ℤ) (h : T (fits binary64 (fin s m e))) (b : T (is_between zero64 one64 (fin s m e))) where
  abbrev v : Float
  v = fin s m e

  nearest_whole_le : nearest_whole v ≤ 32768
  nearest_whole_le =
      let D = down_pos e in
      let k = at_most_one s m e b in
      let n = (closest_near (32768 * (m * up e)) (down e) D).1 in
      le_of_suc-le-suc (lt_of_not-le (λ (g : 32769 ≤ nearest_whole v). let l = mul-le-mul_right (down e) g in lt_irrefl 0 (omega arith)))

  -- where the sign is set, v is -0
  none : (s : Bool) → T (is_between zero64 one64 (fin s m e)) → T s → 32768 * (m * up e) ≡ 0
  none true b t = let z = minus_zero_lem m e b in omega arith
  none false b t = absurd t

  shows : Shows v
  shows =
      let k = at_most_one s m e b in
      let D = down_pos e in
      let l = nearest_whole_le in
      let x = sum_nearest (v ⊗ from_int (pos 32768)) s (32768 * (m * up e)) (down e) D (product_exact s m e h b) (none s b) (omega arith) in
      let p = whole_bits (shifted v) (2 ^ 51 + nearest_whole v) (omega arith) (add-fits binary64 (v ⊗ from_int (pos 32768)) shift) x in
      (p.1, lowest _ (nearest_whole v) l p.0)

pub component_shows : (v : Float) → T (fits binary64 v) → T (is_between zero64 one64 v) → Shows v
component_shows nan h b = absurd (unfold le in unfold lt in unfold eq in b)
component_shows (inf true) h b = absurd (unfold le in unfold lt in unfold eq in b)
component_shows (inf false) h b = absurd (unfold le in unfold lt in unfold eq in b)
component_shows (fin s m e) h b = shows s m e h b

-- ---- `quantised` by the test of the code
pub quantised_in : (v : Float) → is_between zero64 one64 v ≡ true → quantised v ≡ min (nearest_whole v) 32767
unfolding quantised
quantised_in v t = ap (λ (b : Bool). cond b (min (nearest_whole v) 32767) 0) (sym (component_is v) ∙ t)

pub quantised_out : (v : Float) → is_between zero64 one64 v ≡ false → quantised v ≡ 0
unfolding quantised
quantised_out v t = ap (λ (b : Bool). cond b (min (nearest_whole v) 32767) 0) (sym (component_is v) ∙ t)
