-- The steps of a series on values of a format whose errors are counted in h, 2 ^ -(prec + 3): a product below 1/2 is rounded by 2 h, one below 1 by 4 h, a difference up to 1 by 8 h. Assumes nothing.
use mathlib.Core.Path.{◌≡◌, sym, ◌∙◌, ap}
use Prim.Native.Nat.{ℕ, suc, ◌+◌, ◌*◌, ◌^◌, ◌≤◌, ◌<◌}
use native.Mathlib.Nat.{mul_comm, mul-le-mul_right, mul-lt-mul_of_pos_right, pow-suc, add-suc}
use native.Mathlib.Omega.{arith}
use lib.Dec.{T}
use lib.Pow.{pow_pos}
use lib.Ieee.{Float, Format, prec, low, add, sub, mul, fits}
use lib.Ieee.Fits.{mul-fits}
use lib.Ieee.Scale.{finite}
use Rattle.doubles.specs.Distance.{Apart}
use Rattle.doubles.proofs.Magnitude.{mag, plain, plain_finite}
use Rattle.doubles.proofs.Errors.{mul_error, sub_error, add_error}
use Rattle.circular_law.proofs.Steps.{Near, step}

-- ---- an error of 2 ^ i / 2 as a multiple of h
halved : (a b s e : ℕ) → s ≡ 2 * e → Apart (2 * a) (2 * b) s → Apart a b e
halved a b s e q h = omega arith

halved_times : (a b s e u : ℕ) → s ≡ 2 * e → Apart (2 * a) (2 * b) (s * u) → Apart a b (e * u)
halved_times a b s e u q h = let r : s * u ≡ 2 * e * u = ap (λ (z : ℕ). z * u) q in omega arith

-- ---- products below 1/2 and below 1
under_half : (Y R u m : ℕ) → 2 * R ≤ u → Y < u → 0 < u → m * 2 ≡ u → Y * R < m * u
under_half Y R u m h k U e = half (mul-le-mul_right Y h) (mul-lt-mul_of_pos_right k U) (ap (λ (z : ℕ). z * u) e)
  where
    half : 2 * R * Y ≤ u * Y → Y * u < u * u → m * 2 * u ≡ u * u → Y * R < m * u
    half a b c = omega arith

under_one : (A B u : ℕ) → A < u → B ≤ u → 0 < u → A * B < u * u
under_one A B u h k U = lt_of_le (mul-le-mul_right A k) (mul-lt-mul_of_pos_right h U)
  where
    lt_of_le : B * A ≤ u * A → A * u < u * u → A * B < u * u
    lt_of_le a b = omega arith

module _ (f : Format) (i h : ℕ) (size : 2 ^ i ≡ 4 * h) (top : prec f + suc i ≡ low f) where
  abbrev u : ℕ
  u = 2 ^ low f

  U : 0 < u
  U = pow_pos (low f)

  one_power : 2 ^ (prec f + suc i) ≡ u
  one_power = ap (λ (z : ℕ). 2 ^ z) top

  half_power : 2 ^ (prec f + i) * 2 ≡ u
  half_power = sym (pow-suc 2 (prec f + i)) ∙ ap (λ (z : ℕ). 2 ^ z) (sym (add-suc (prec f) i)) ∙ one_power

  two_power : 2 ^ (prec f + suc (suc i)) ≡ u * 2
  two_power = ap (λ (z : ℕ). 2 ^ z) (add-suc (prec f) (suc i)) ∙ pow-suc 2 (prec f + suc i) ∙ ap (λ (z : ℕ). z * 2) one_power

  first_half : 2 ^ i ≡ 2 * (2 * h)
  first_half = size ∙ twice h
    where
      twice : (z : ℕ) → 4 * z ≡ 2 * (2 * z)
      twice z = omega arith

  second_half : 2 ^ suc i ≡ 2 * (4 * h)
  second_half = pow-suc 2 i ∙ ap (λ (z : ℕ). z * 2) size ∙ mul_comm (4 * h) 2

  third_half : 2 ^ suc (suc i) ≡ 2 * (8 * h)
  third_half = pow-suc 2 (suc i) ∙ ap (λ (z : ℕ). z * 2) second_half ∙ eight h
    where
      eight : (z : ℕ) → 2 * (4 * z) * 2 ≡ 2 * (8 * z)
      eight z = omega arith

  product_half : (y r : Float) → T (fits f y) → T (fits f r) → T (plain y) → T (plain r) → T (finite (mul f y r)) → mag f y < u → 2 * mag f r ≤ u → Apart (mag f (mul f y r) * u) (mag f y * mag f r) (2 * h * u)
  product_half y r a b p q t k l =
      halved_times (mag f (mul f y r) * u) (mag f y * mag f r) (2 ^ i) (2 * h) u first_half
      (mul_error f y r i a b p q t (under_half (mag f y) (mag f r) u (2 ^ (prec f + i)) l k U half_power))

  pub product_one : (x y : Float) → T (fits f x) → T (fits f y) → T (plain x) → T (plain y) → T (finite (mul f x y)) → mag f x < u → mag f y ≤ u → Apart (mag f (mul f x y) * u) (mag f x * mag f y) (4 * h * u)
  product_one x y a b p q t k l =
      halved_times (mag f (mul f x y) * u) (mag f x * mag f y) (2 ^ suc i) (4 * h) u second_half
      (mul_error f x y (suc i) a b p q t (rw one_power (under_one (mag f x) (mag f y) u k l U)))

  up_to_double : (x z : ℕ) → x ≤ z → 0 < z → x < z * 2
  up_to_double x z a b = omega arith

  difference_one : (x y : Float) → T (fits f x) → T (fits f y) → T (plain x) → T (plain y) → mag f y ≤ mag f x → T (finite (sub f x y)) → mag f x ≤ u → Apart (mag f (sub f x y) + mag f y) (mag f x) (8 * h)
  difference_one x y a b p q o t l =
      halved (mag f (sub f x y) + mag f y) (mag f x) (2 ^ suc (suc i)) (8 * h) third_half
      (sub_error f x y (suc (suc i)) a b p q o t (rw two_power (up_to_double (mag f x) u l U)))

  pub sum_one : (x y : Float) → T (fits f x) → T (fits f y) → T (plain x) → T (plain y) → T (finite (add f x y)) → mag f x + mag f y < u → Apart (mag f (add f x y)) (mag f x + mag f y) (4 * h)
  sum_one x y a b p q t l =
      halved (mag f (add f x y)) (mag f x + mag f y) (2 ^ suc i) (4 * h) second_half (add_error f x y (suc i) a b p q t (rw one_power l))

  -- ---- a step c - y * r of a series: y is within 12 h of the exact p / v, r within E' of the exact (X - x) / D, and the rounded coefficient within h of 1 / k
  limits : (z e E : ℕ) → 425 + 16 * e ≤ 25 * E → 50 * (z + 2 * z + 8 * z) + 25 * (12 * z) + 32 * (e * z) ≤ 50 * (E * z)
  limits z e E s = let t = mul-le-mul_right (2 * z) s in omega arith

  module _ (c y r : Float) (fc : T (fits f c)) (fy : T (fits f y)) (fr : T (fits f r)) (pc : T (plain c)) (py : T (plain y)) (pr : T (plain r)) (pz : T (plain (mul f y r))) (t : T (finite (sub f c (mul f y r)))) where
    pub near_step : (v W F k q p X x D e E : ℕ) → q * k ≡ F → D * v ≡ F * W → mag f (mul f y r) ≤ mag f c → mag f c ≤ u → mag f y < u → 2 * mag f r ≤ u
        → Apart (mag f c * k) u (h * k) → Apart (mag f y * v) (p * u) (12 * h * v) → 25 * p ≤ 16 * v → Near u (mag f r) X x D (e * h) → 425 + 16 * e ≤ 25 * E
        → Near u (mag f (sub f c (mul f y r))) (q * W + p * x) (p * X) (D * v) (E * h)
    near_step v W F k q p X x D e E g w o m l n a b j N s =
        step u v W F k q p (mag f y) (mag f r) (mag f (mul f y r)) (mag f c) (mag f (sub f c (mul f y r))) X x D h (12 * h) (2 * h) (8 * h) (E * h) (e * h) U g w a b
        (product_half y r fy fr py pr (plain_finite (mul f y r) pz) l n) (difference_one c (mul f y r) fc (mul-fits f y r) pc pz o t m) n j N (limits h e E s)
