-- The gains of an object, however they are blended, are finite and from 0 to 5/4. Assumes nothing.
use mathlib.Core.Path.{◌≡◌, refl, sym, ◌∙◌, subst}
use Prim.Native.Nat.{ℕ, zero, suc, ◌<◌}
use mathlib.Core.Bool.{Bool, true, false, ◌&&◌, cond}
use mathlib.Core.List.{List, [], ◌∷◌, map, Memᴰ}
use native.Mathlib.Omega.{arith}
use lib.Dec.{T}
use lib.Ieee.{Float, nan, binary64, lt, le, eq, fits, round}
use lib.Ieee.Fits.{and_l, and_r, cond-fits}
use lib.Ieee.Scale.{finite}
use lib.ListN.{length, get_or, take, drop, length-map, get_or-append}
use lib.Seq.{get_or-take, length-take-le}
use Rattle.doubles.specs.Arithmetic.{◌⊕◌, ◌⊗◌, ◌⊘◌, dec, one64, zero64}
use Rattle.doubles.specs.Norm.{sum_squares, Bounded}
use Rattle.doubles.specs.Range.{clamp_to}
use Rattle.doubles.specs.Root.{sqrt_of}
use Rattle.doubles.proofs.Signs.{not_neg}
use Rattle.doubles.proofs.Laws.{add-fits, mul-fits, add_not_neg, mul_not_neg, clear_not_neg, not_neg_of_le, norm_bound}
use Rattle.gains.specs.declared.Blend.{Blend}
use Rattle.gains.specs.declared.Blend.TheVariants.{Point, Both, Field}
use Rattle.layout.specs.declared.Centre.{Centre}
use Rattle.gains.specs.Lookup.{channels}
use Rattle.gains.specs.Diffuse.{Rows, diffuse_of}
use Rattle.gains.specs.Gains.{normalized_of, blend_of, blended, clamped_centre, rows_in, gains_of, projectable, projected}
use Rattle.lists.specs.Lists.{zip_with}
use Rattle.gains.proofs.DiffuseSigns.{table_rows, CentreFits, Good, diffuse_fits, diffuse_clear}
use Rattle.gains.proofs.lookup.Listing.{length_listed, get_or_listed}
use Rattle.std.proofs.lemmas.List.{get_or-map}
use Rattle.std.proofs.lemmas.Float.{T_from_true}
use Rattle.gains.proofs.gains.Front.{zipped_long, get_or_zipped}
use Rattle.gains.proofs.gains.Asks.{asked}
use Rattle.gains.proofs.gains.Normal.{normalized_length}
use Rattle.gains.proofs.gains.HalfTurn.{Weights, weights}

-- ---- entries of a list
get_or_mem : (v : List Float) (k : ℕ) (d : Float) → k < length v → Memᴰ (get_or v k d) v
get_or_mem [] k d h = absurd (omega arith)
get_or_mem (x ∷ xs) zero d h = Memᴰ.head refl
get_or_mem (x ∷ xs) (suc k) d h = Memᴰ.tail (get_or_mem xs k d (omega arith))

-- ---- normalising
zero_bounded : Bounded zero64
unfolding le lt eq
zero_bounded = (tt, tt, tt)

-- a value that is a double and not negative
abbrev Plus : Float → Type 0
Plus x = T (fits binary64 x) × T (not_neg x)

normalized_bounded : (v : List Float) (k : ℕ) → k < length v → Plus (get_or v k nan) → Bounded (get_or (normalized_of v) k nan)
unfolding normalized_of
normalized_bounded v k h p = go (finite (sum_squares v) && lt zero64 (sum_squares v)) refl
  where
    go : (b : Bool) → finite (sum_squares v) && lt zero64 (sum_squares v) ≡ b → Bounded (get_or (cond b (map (λ (x : Float). x ⊘ sqrt_of binary64 (sum_squares v)) v) (map (λ (x : Float). zero64) v)) k nan)
    go true e =
        let t = T_from_true _ e in
        subst Bounded (sym (get_or-map (λ (x : Float). x ⊘ sqrt_of binary64 (sum_squares v)) v k nan nan h))
        (norm_bound v (get_or v k nan) (and_l (finite (sum_squares v)) (lt zero64 (sum_squares v)) t) (and_r (finite (sum_squares v)) (lt zero64 (sum_squares v)) t) (get_or_mem v k nan h) p.0 p.1)
    go false e = subst Bounded (sym (get_or-map (λ (x : Float). zero64) v k nan nan h)) zero_bounded

half_not_neg : T (not_neg (dec 5 1))
unfolding round
half_not_neg = tt

-- ---- the three blends
module _ (points field : List Float) (n : ℕ) (p : length points ≡ n) (q : length field ≡ n) where
  blended_length : (w : Blend) → length (blended w points field) ≡ n
  unfolding blended
  blended_length Point = p
  blended_length (Both u v) = normalized_length (zip_with (λ (x y : Float). u ⊗ x ⊕ v ⊗ y) points field) ∙ zipped_long _ points field n p q
  blended_length Field = normalized_length (map (λ (y : Float). dec 5 1 ⊗ y) field) ∙ length-map field _ ∙ q

  blended_bounded : (k : ℕ) → k < n → Bounded (get_or points k nan) → Bounded (get_or field k nan) → (w : Blend) → Weights w → Bounded (get_or (blended w points field) k nan)
  unfolding blended
  blended_bounded k h b d Point w = b
  blended_bounded k h b d (Both u v) w =
      let g : Float → Float → Float = λ (x y : Float). u ⊗ x ⊕ v ⊗ y in
      let x = get_or points k nan in
      let y = get_or field k nan in
      let long = zipped_long g points field n p q in
      normalized_bounded (zip_with g points field) k (omega arith)
      (subst Plus (sym (get_or_zipped g points field k nan (omega arith) (omega arith)))
      (add-fits (u ⊗ x) (v ⊗ y), add_not_neg (u ⊗ x) (v ⊗ y) (mul_not_neg u x w.0 (not_neg_of_le x b.1)) (mul_not_neg v y w.1 (not_neg_of_le y d.1))))
  blended_bounded k h b d Field w =
      let g : Float → Float = λ (y : Float). dec 5 1 ⊗ y in
      let y = get_or field k nan in
      let long = length-map field g in
      normalized_bounded (map g field) k (omega arith)
      (subst Plus (sym (get_or-map g field k nan nan (omega arith))) (mul-fits (dec 5 1) y, mul_not_neg (dec 5 1) y half_not_neg (not_neg_of_le y d.1)))

-- ---- the centre
clamp_fits : (x : Float) → T (fits binary64 x) → T (fits binary64 (clamp_to zero64 one64 x))
unfolding clamp_to fits
clamp_fits x h = cond-fits binary64 (lt x zero64) zero64 (cond (lt one64 x) one64 x) tt (cond-fits binary64 (lt one64 x) one64 x tt h)

pub clamped_fits : (c : Centre) → CentreFits c → CentreFits (clamped_centre c)
clamped_fits c h = (clamp_fits c.x h.0, clamp_fits c.y h.1, clamp_fits c.z h.2)

-- ---- all of them: the numbers of the tables are clear doubles, and the point gains are n numbers that are finite and from 0 to 5/4
module _ (rows : ℕ → Rows) (n : ℕ) (deep : Bool) (mean : ℕ) (r : Float) (c : Centre) (points : List Float) (p : length points ≡ n) where
  abbrev diffused : ℕ → Float
  diffused k = diffuse_of (rows k) deep (clamped_centre c) r

  abbrev field : List Float
  field = normalized_of (channels n diffused)

  field_length : length field ≡ n
  field_length = normalized_length (channels n diffused) ∙ length_listed diffused n

  pub gains_length : length (gains_of rows n deep mean r c points) ≡ n
  unfolding gains_of
  gains_length = blended_length points field n p field_length (blend_of mean r)

  module _ (centre : CentreFits c) (radius : T (fits binary64 r)) (tables : (k : ℕ) → k < n → (i : ℕ) → i < table_rows deep → Good (rows k i)) (given : (k : ℕ) → k < n → Bounded (get_or points k nan)) where
    field_bounded : (k : ℕ) → k < n → Bounded (get_or field k nan)
    field_bounded k h =
        let long = length_listed diffused n in
        normalized_bounded (channels n diffused) k (omega arith)
        (subst Plus (sym (get_or_listed diffused n k nan h))
        (diffuse_fits (rows k) deep (clamped_centre c) r, clear_not_neg (diffused k) (diffuse_clear (rows k) (clamped_centre c) r (clamped_fits c centre) radius deep (tables k h))))

    pub gains_bounded : (k : ℕ) → k < n → Bounded (get_or (gains_of rows n deep mean r c points) k nan)
    unfolding gains_of
    gains_bounded k h = blended_bounded points field n p field_length k h (given k h) (field_bounded k h) (blend_of mean r) (weights mean r)

-- ---- what `project` leaves in the first n slots
pub projected_bounded : (store : List Float) (p n : ℕ) (deep : Bool) (mean : ℕ) (r : Float) (c : Centre) (points gains : List Float) → projectable (length store) p n (length points) (length gains) ≡ true → CentreFits c → T (fits binary64 r) → ((k : ℕ) → k < n → (i : ℕ) → i < table_rows deep → Good (rows_in store p n k i)) → ((k : ℕ) → k < n → Bounded (get_or points k nan)) → (k : ℕ) → k < n → Bounded (get_or (projected store p n deep mean r c points gains) k nan)
unfolding projected
projected_bounded store p n deep mean r c points gains e centre radius tables given k h =
    let a = asked (length store) p n (length points) (length gains) e in
    let ps = take n points in
    let long = length-take-le n points a.points in
    let out = gains_of (rows_in store p n) n deep mean r c ps in
    let all = gains_length (rows_in store p n) n deep mean r c ps long in
    rw e
    (subst Bounded (sym (get_or-append out (drop n gains) nan k (omega arith)))
    (gains_bounded (rows_in store p n) n deep mean r c ps long centre radius tables (λ (i : ℕ) (l : i < n). subst Bounded (sym (get_or-take n points i nan l)) (given i l)) k h))
