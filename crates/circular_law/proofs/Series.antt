-- A rounded series in y beside the exact one of 13 terms in q / v, where y is within 12 eighths of q / v and that is up to 16/25: a step adds 17 eighths to 16/25 of the error before it. Assumes nothing.
use mathlib.Core.Path.{◌≡◌, refl, sym, subst, ◌∙◌, ap}
use Prim.Native.Nat.{ℕ, suc, ◌+◌, ◌*◌, ◌/◌, ◌^◌, ◌≤◌, ◌<◌}
use native.Mathlib.Nat.{mul_assoc, pow-suc}
use native.Mathlib.Omega.{arith}
use mathlib.Core.Bool.{Bool, true, false, ◌&&◌}
use mathlib.Core.List.{List, [], ◌∷◌, ◌++◌}
use lib.Dec.{T, leb, eqb, leb→le, eqb→eq}
use lib.ListN.{length}
use lib.Ieee.{Float, binary64, round, div, of_int, fits}
use lib.Ieee.Fits.{and_l, and_r}
use lib.Ieee.Scale.{finite}
use Rattle.doubles.specs.Arithmetic.{◌⊖◌, ◌⊗◌, one64}
use Rattle.doubles.specs.Distance.{Apart}
use Rattle.doubles.proofs.Magnitude.{mag, plain, plain_finite}
use Rattle.doubles.proofs.Order.{mag_mono}
use Rattle.doubles.proofs.Differences.{UpTo}
use Rattle.approximations.specs.Circular.{inverse, series, odd_factorials, even_factorials}
use Rattle.approximations.proofs.SeriesBounds.{falling, head_plain, tail_falling, inverse_fits, series_up_to, product_up_to}
use Rattle.circular_law.specs.Law.{factorial}
use Rattle.circular_law.proofs.Steps.{Near}
use Rattle.circular_law.proofs.Alternating.{side, total, sides_bound, alone}
use Rattle.circular_law.proofs.FloatSteps.{near_step}

-- ---- 1, in units of the smallest double
unfoldable pub scale : ℕ
scale = 2 ^ 1074

-- an eighth of the last digit of a double from 1/2 to 1: 2 ^ -56, in the same units; errors are counted in it
unfoldable pub eighth : ℕ
eighth = 2 ^ 1018

-- ---- F / k for each k of a list
abbrev pub quotients : ℕ → List ℕ → List ℕ
quotients F [] = []
quotients F (k ∷ ks) = F / k ∷ quotients F ks

-- ---- what is tested of an entry: it divides F, and its inverse is rounded by an eighth at most
abbrev pub rounded : ℕ → ℕ → Bool
rounded F k = eqb (F / k * k) F && leb (mag binary64 (inverse k) * k) (scale + eighth * k) && leb scale (mag binary64 (inverse k) * k + eighth * k)

-- of the list of the rounded series, and of the terms that follow in the exact one: the inverses after the first are up to 1/2
abbrev pub tested : ℕ → ℕ → List ℕ → List ℕ → Bool
tested F e [] ts = false
tested F e (k ∷ []) ts = rounded F k && leb (25 * (eighth * F) + 16 * (total (quotients F ts) * scale)) (25 * (e * eighth * F))
tested F e (k ∷ j ∷ ks) ts = rounded F k && leb (2 * mag binary64 (inverse j)) scale && tested F e (j ∷ ks) ts

-- the error in eighths, from that of the last entry on
abbrev pub error : ℕ → List ℕ → ℕ
error e [] = e
error e (k ∷ []) = e
error e (k ∷ j ∷ ks) = 17 + (16 * error e (j ∷ ks) + 24) / 25

grows : (e : ℕ) → 425 + 16 * e ≤ 25 * (17 + (16 * e + 24) / 25)
grows e = omega arith

pub odd_tested : T (tested (factorial 25) 132 odd_factorials (factorial 17 ∷ factorial 19 ∷ factorial 21 ∷ factorial 23 ∷ factorial 25 ∷ []))
unfolding scale eighth div of_int round
odd_tested = tt

pub even_tested : T (tested (factorial 24) 9 even_factorials (factorial 18 ∷ factorial 20 ∷ factorial 22 ∷ factorial 24 ∷ []))
unfolding scale eighth div of_int round
even_tested = tt

-- ---- the parts of a test
rounded_divides : (F k : ℕ) → T (rounded F k) → F / k * k ≡ F
rounded_divides F k t =
    let a = eqb (F / k * k) F in
    let b = leb (mag binary64 (inverse k) * k) (scale + eighth * k) in
    eqb→eq (F / k * k) F (and_l a b (and_l (a && b) (leb scale (mag binary64 (inverse k) * k + eighth * k)) t))

rounded_near : (F k : ℕ) → T (rounded F k) → Apart (mag binary64 (inverse k) * k) scale (eighth * k)
rounded_near F k t =
    let m = mag binary64 (inverse k) in
    let a = eqb (F / k * k) F in
    let b = leb (m * k) (scale + eighth * k) in
    let c = leb scale (m * k + eighth * k) in
    (leb→le (m * k) (scale + eighth * k) (and_r a b (and_l (a && b) c t)), leb→le scale (m * k + eighth * k) (and_r (a && b) c t))

head_rounded : (F e k : ℕ) (ks ts : List ℕ) → T (tested F e (k ∷ ks) ts) → T (rounded F k)
head_rounded F e k [] ts t = and_l (rounded F k) (leb (25 * (eighth * F) + 16 * (total (quotients F ts) * scale)) (25 * (e * eighth * F))) t
head_rounded F e k (j ∷ ks) ts t = and_l (rounded F k) (leb (2 * mag binary64 (inverse j)) scale) (and_l (rounded F k && leb (2 * mag binary64 (inverse j)) scale) (tested F e (j ∷ ks) ts) t)

tail_tested : (F e k j : ℕ) (ks ts : List ℕ) → T (tested F e (k ∷ j ∷ ks) ts) → T (tested F e (j ∷ ks) ts)
tail_tested F e k j ks ts t = and_r (rounded F k && leb (2 * mag binary64 (inverse j)) scale) (tested F e (j ∷ ks) ts) t

next_half : (F e k j : ℕ) (ks ts : List ℕ) → T (tested F e (k ∷ j ∷ ks) ts) → 2 * mag binary64 (inverse j) ≤ scale
next_half F e k j ks ts t =
    let b = leb (2 * mag binary64 (inverse j)) scale in
    leb→le (2 * mag binary64 (inverse j)) scale (and_r (rounded F k) b (and_l (rounded F k && b) (tested F e (j ∷ ks) ts) t))

last_room : (F e k : ℕ) (ts : List ℕ) → T (tested F e (k ∷ []) ts) → 25 * (eighth * F) + 16 * (total (quotients F ts) * scale) ≤ 25 * (e * eighth * F)
last_room F e k ts t = leb→le _ _ (and_r (rounded F k) (leb (25 * (eighth * F) + 16 * (total (quotients F ts) * scale)) (25 * (e * eighth * F))) t)

-- ---- the series
half_of : (x z w : ℕ) → 2 * z ≤ w → x ≤ z → 2 * x ≤ w
half_of x z w a b = omega arith

up_to_whole : (z w : ℕ) → 2 * z ≤ w → z ≤ w
up_to_whole z w a = omega arith

denominator : (F v n : ℕ) → F * v ^ n * v ≡ F * v ^ suc n
denominator F v n = mul_assoc F (v ^ n) v ∙ ap (λ (z : ℕ). F * z) (sym (pow-suc v n))

less_than : (q v : ℕ) → 25 * q ≤ 16 * v → q ≤ v
less_than q v a = omega arith

pub size_is : 2 ^ 1020 ≡ 4 * eighth
unfolding eighth
size_is = refl

-- a step on doubles
on_doubles : (c y r : Float) → T (fits binary64 c) → T (fits binary64 y) → T (fits binary64 r) → T (plain c) → T (plain y) → T (plain r) → T (plain (y ⊗ r)) → T (finite (c ⊖ y ⊗ r)) → (v W F k q p X x D e E : ℕ) → q * k ≡ F
    → D * v ≡ F * W → mag binary64 (y ⊗ r) ≤ mag binary64 c → mag binary64 c ≤ scale → mag binary64 y < scale → 2 * mag binary64 r ≤ scale → Apart (mag binary64 c * k) scale (eighth * k) → Apart (mag binary64 y * v) (p * scale) (12 * eighth * v)
    → 25 * p ≤ 16 * v → Near scale (mag binary64 r) X x D (e * eighth) → 425 + 16 * e ≤ 25 * E → Near scale (mag binary64 (c ⊖ y ⊗ r)) (q * W + p * x) (p * X) (D * v) (E * eighth)
unfolding scale
on_doubles = near_step binary64 1020 eighth size_is refl

module _ (y : Float) (q v : ℕ) (uy : UpTo binary64 one64 y) (ly : mag binary64 y < scale) (near : Apart (mag binary64 y * v) (q * scale) (12 * eighth * v)) (small : 25 * q ≤ 16 * v) where
  pub near_series : (F e k : ℕ) (ks : List ℕ) (t : ℕ) (ts : List ℕ) → T (falling (k ∷ ks)) → T (tested F e (k ∷ ks) (t ∷ ts)) → mag binary64 (inverse k) ≤ scale
      → Near scale (mag binary64 (series y (k ∷ ks))) (side true q v (quotients F (k ∷ ks ++ t ∷ ts))) (side false q v (quotients F (k ∷ ks ++ t ∷ ts))) (F * v ^ length (quotients F (ks ++ t ∷ ts))) (error e (k ∷ ks) * eighth)
  unfolding series side
  near_series F e k [] t ts d w m =
      let cs = quotients F (t ∷ ts) in
      let n = length (quotients F ts) in
      rw (pow-suc v n)
      (alone scale q v (v ^ n) F k (F / k) (mag binary64 (inverse k)) (side true q v cs) (side false q v cs) (total cs) eighth (e * eighth) (rounded_divides F k (head_rounded F e k [] (t ∷ ts) w))
      (rounded_near F k (head_rounded F e k [] (t ∷ ts) w)) small (sides_bound q v (F / t) (quotients F ts) (less_than q v small)) (last_room F e k (t ∷ ts) w))
  near_series F e k (j ∷ ks) t ts d w m =
      let f = binary64 in
      let c = inverse k in
      let r = series y (j ∷ ks) in
      let n = length (quotients F (ks ++ t ∷ ts)) in
      let cs = quotients F (j ∷ ks ++ t ∷ ts) in
      let D = F * v ^ n in
      let fall = tail_falling k j ks d in
      let a = head_rounded F e k (j ∷ ks) (t ∷ ts) w in
      let o = next_half F e k j ks (t ∷ ts) w in
      let fc = inverse_fits k in
      let fj = inverse_fits j in
      let pc = head_plain k (j ∷ ks) d in
      let ur = series_up_to y j ks fall uy in
      let uz = product_up_to y k j ks d uy in
      let us = series_up_to y k (j ∷ ks) d uy in
      subst (λ (z : ℕ). Near scale (mag f (c ⊖ y ⊗ r)) (F / k * v ^ suc n + q * side false q v cs) (q * side true q v cs) z (error e (k ∷ j ∷ ks) * eighth)) (denominator F v n)
      (on_doubles c y r fc uy.0 ur.0 pc uy.1 ur.1 uz.1 (plain_finite (c ⊖ y ⊗ r) us.1) v (v ^ suc n) F k (F / k) q (side true q v cs) (side false q v cs) D (error e (j ∷ ks)) (error e (k ∷ j ∷ ks))
      (rounded_divides F k a) (denominator F v n) (mag_mono f (y ⊗ r) c uz.0 fc uz.1 pc uz.2) m ly
      (half_of (mag f r) (mag f (inverse j)) scale o (mag_mono f r (inverse j) ur.0 fj ur.1 (head_plain j ks fall) ur.2)) (rounded_near F k a) near small
      (near_series F e j ks t ts fall (tail_tested F e k j ks (t ∷ ts) w) (up_to_whole (mag f (inverse j)) scale o)) (grows (error e (j ∷ ks))))
