-- (v - a) / (b - a), each operation rounded, is from 0 to 1 for v from a to b. Assumes nothing.
use Prim.Native.Nat.{ℕ, zero, suc, ◌-◌, ◌*◌, ◌^◌, ◌≤◌}
use mathlib.Core.Path.{◌≡◌, refl, sym, ap, ◌∙◌, subst}
use mathlib.Core.Bool.{true, false}
use native.Mathlib.Nat.{le_of_eq, le_trans, mul-one, mul_comm, mul-le-mul_right, mul-pos, zero-lt-suc}
use native.Mathlib.Omega.{arith}
use borrow.Author.Tests.{ltb-true}
use lib.Dec.{T, lt→ltb}
use lib.Pow.{pow_pos}
use lib.Ieee.{Float, nan, inf, fin, Format, low, up, down, round, sub, div, lt, le, fits}
use lib.Ieee.Fits.{round-fits}
use lib.Ieee.Order.{round_mono}
use lib.Ieee.Positive.{positive, value_pos}
use Rattle.doubles.specs.Arithmetic.{one64, zero64}
use Rattle.doubles.proofs.Magnitude.{mag, mag_of, plain, plain_val, div_at}
use Rattle.doubles.proofs.Order.{mag_mono, mag_le, round_under_value}
use Rattle.doubles.proofs.Interpolation.{one_fits}
use Rattle.doubles.proofs.Differences.{UpTo, sub_at, sub_up_to}

one_mag : (f : Format) → mag f one64 ≡ 2 ^ low f
one_mag f = mag_of f one64 false (2 ^ low f) (refl, ap (λ (z : ℕ). z * 2 ^ low f) (mul-one 1) ∙ mul_comm 1 (2 ^ low f))

-- what is above 0 has a size above 0
positive_of : (y : Float) → T (plain y) → lt zero64 y ≡ true → T (positive y)
unfolding lt
positive_of nan p h = absurd p
positive_of (inf s) p h = absurd p
positive_of (fin true n d) p h = absurd p
positive_of (fin false zero d) p h = let l = ltb-true (0 * 1 * down d) (0 * up d * 1) h in absurd (omega arith)
positive_of (fin false (suc n) d) p h = lt→ltb 0 (suc n) (zero-lt-suc n)

room : (x y l : ℕ) → x ≤ y → x * l * l ≤ l * (y * l)
room x y l h = le_trans (mul-le-mul_right l (mul-le-mul_right l h)) (le_of_eq (mul_comm (y * l) l))

module _ (f : Format) (x y : Float) (i : T (fits f x)) (j : T (fits f y)) (p : T (plain x)) (q : T (plain y)) (h : lt zero64 y ≡ true) (l : T (le x y)) where
  -- x / y is from 0 to 1 for x up to y
  pub div_up_to : UpTo f one64 (div f x y)
  div_up_to =
      let u = 2 ^ low f in
      let U = pow_pos (low f) in
      let Y = value_pos y (mag f y) u (positive_of y q h) U (plain_val f y j q) in
      let e = div_at f x y (mag f x) u (mag f y) u U U Y (plain_val f x i p) (plain_val f y j q) in
      let z = round f false (mag f x * u) (mag f y * u) in
      let k = round-fits f false (mag f x * u) (mag f y * u) in
      let m = mag_mono f x y i j p q l in
      let r = round_under_value f (mag f x * u) (mag f y * u) one64 (one_fits f) tt (mul-pos Y U) (subst (λ (o : ℕ). mag f x * u * u ≤ o * (mag f y * u)) (sym (one_mag f)) (room (mag f x) (mag f y) u m)) in
      subst (UpTo f one64) (sym e) (k, r.0, mag_le f z one64 k (one_fits f) r.0 tt r.1)

pub quotient_up_to : (f : Format) (a v b : Float) → T (fits f a) → T (fits f v) → T (fits f b) → T (plain a) → T (plain v) → T (plain b) → T (le a v) → T (le v b) → lt zero64 (sub f b a) ≡ true → UpTo f one64 (div f (sub f v a) (sub f b a))
quotient_up_to f a v b ha hv hb pa pv pb l m h =
    let A = mag_mono f a v ha hv pa pv l in
    let B = mag_mono f v b hv hb pv pb m in
    let u = 2 ^ low f in
    let C : mag f a ≤ mag f b = omega arith in
    let D : mag f v - mag f a ≤ mag f b - mag f a = omega arith in
    let x = sub_up_to f b v a hb hv ha pb pv pa l (omega arith) in
    let y = sub_up_to f b b a hb hb ha pb pb pa (mag_le f a b ha hb pa pb C) (omega arith) in
    let o = round_mono f (mag f v - mag f a) u (mag f b - mag f a) u (pow_pos (low f)) (pow_pos (low f)) (mul-le-mul_right u D) in
    div_up_to f (sub f v a) (sub f b a) x.0 y.0 x.1 y.1 h
    (subst (λ (z : Float). T (le z (sub f b a))) (sym (sub_at f v a hv ha pv pa A))
    (subst (λ (z : Float). T (le (round f false (mag f v - mag f a) u) z)) (sym (sub_at f b a hb ha pb pa C)) o))
