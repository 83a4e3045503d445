-- Whole numbers alone: from one exact number to another that is near, and from Near to what the law says, over any fractions that the doubles equal. Assumes nothing.
use mathlib.Core.Path.{◌≡◌, ap, subst}
use Prim.Native.Nat.{ℕ, ◌+◌, ◌*◌, ◌≤◌, ◌<◌}
use native.Mathlib.Nat.{mul-le-mul_right}
use native.Mathlib.Omega.{arith}
use Rattle.doubles.specs.Distance.{Apart}
use Rattle.doubles.proofs.Errors.{apart_mul, apart_cancel}
use Rattle.circular_law.specs.Law.{parts, Within}
use Rattle.circular_law.proofs.Steps.{Near}

-- ---- (X - x) / D, and (Y - y) / (u * w), where s * D = u * w
pub across : (u R X x D Y y s E d w : ℕ) → Near u R X x D E → Apart (Y + s * x) (s * X + y) (d * w) → s * D ≡ u * w → Near u R Y y (u * w) (E + d)
across u R X x D Y y s E d w n t e = subst (λ (z : ℕ). Apart (R * z + y * u) (Y * u) ((E + d) * z)) e (go (apart_mul s (R * D + x * u) (X * u) (E * D) n) (apart_mul u (Y + s * x) (s * X + y) (d * w) t) (ap (λ (z : ℕ). d * z) e))
  where
    go : Apart ((R * D + x * u) * s) (X * u * s) (E * D * s) → Apart ((Y + s * x) * u) ((s * X + y) * u) (d * w * u) → d * (s * D) ≡ d * (u * w) → Apart (R * (s * D) + y * u) (Y * u) ((E + d) * (s * D))
    go a b c = omega arith

pub beside : (u R X x Y y E d w : ℕ) → Near u R X x (u * w) E → Apart (Y + x) (X + y) (d * w) → Near u R Y y (u * w) (E + d)
beside u R X x Y y E d w n t = go n (apart_mul u (Y + x) (X + y) (d * w) t)
  where
    go : Apart (R * (u * w) + x * u) (X * u) (E * (u * w)) → Apart ((Y + x) * u) ((X + y) * u) (d * w * u) → Apart (R * (u * w) + y * u) (Y * u) ((E + d) * (u * w))
    go a b = omega arith

-- equal numbers
pub near_same : (u R X x D E X' x' D' : ℕ) → X ≡ X' → x ≡ x' → D ≡ D' → Near u R X x D E → Near u R X' x' D' E
near_same u R X x D E X' x' D' a b c n = rw (a, b, c) at n

-- one factor throughout
pub smaller : (u R X x D s E : ℕ) → 0 < s → Near u R (s * X) (s * x) (s * D) E → Near u R X x D E
smaller u R X x D s E S n = apart_cancel s (R * D + x * u) (X * u) (E * D) S (go n)
  where
    go : Apart (R * (s * D) + s * x * u) (s * X * u) (E * (s * D)) → Apart ((R * D + x * u) * s) (X * u * s) (E * D * s)
    go a = omega arith

-- ---- to the law: R / u is r / d, and E / u is up to 1 / parts
rated : (a b E D u k : ℕ) → E * k ≤ u → Apart a b (E * D) → Apart (a * k) (b * k) (u * D)
rated a b E D u k l h = let p = mul-le-mul_right k h.0 in let q = mul-le-mul_right k h.1 in let r = mul-le-mul_right D l in omega arith

turned : (u R r d D x X k : ℕ) → R * d ≡ r * u → Apart ((R * D + x * u) * k) (X * u * k) (u * D) → Apart ((r * D + x * d) * k * u) (X * d * k * u) (d * D * u)
turned u R r d D x X k e h =
    let p = mul-le-mul_right d h.0 in
    let q = mul-le-mul_right d h.1 in
    let m = ap (λ (z : ℕ). z * (D * k)) e in
    omega arith

pub within : (u R X x D E r d : ℕ) → 0 < u → R * d ≡ r * u → E * parts ≤ u → Near u R X x D E → Within r d X x D
within u R X x D E r d U e l n =
    apart_cancel u ((r * D + x * d) * parts) (X * d * parts) (d * D) U (turned u R r d D x X parts e (rated (R * D + x * u) (X * u) E D u parts l n))

-- the same fraction (X - x) / D, written with other numbers
grown : (r d X x D s k : ℕ) → Apart ((r * D + x * d) * k) (X * d * k) (d * D) → Apart ((r * (D * s) + x * s * d) * k) (X * s * d * k) (d * (D * s))
grown r d X x D s k h = let m = mul-le-mul_right s h.0 in let n = mul-le-mul_right s h.1 in omega arith

drawn : (r d X x D q k : ℕ) → Apart ((r * (D * q) + x * q * d) * k) (X * q * d * k) (d * (D * q)) → Apart ((r * D + x * d) * k * q) (X * d * k * q) (d * D * q)
drawn r d X x D q k h = omega arith

swapped : (r d X x D X' x' D' s q k : ℕ) → X * s ≡ X' * q → x * s ≡ x' * q → D * s ≡ D' * q → Apart ((r * D + x * d) * k) (X * d * k) (d * D) → Apart ((r * D' + x' * d) * k * q) (X' * d * k * q) (d * D' * q)
swapped r d X x D X' x' D' s q k a b c h = drawn r d X' x' D' q k (rw (a, b, c) at (grown r d X x D s k h))

pub within_same : (r d X x D X' x' D' s q : ℕ) → 0 < q → X * s ≡ X' * q → x * s ≡ x' * q → D * s ≡ D' * q → Within r d X x D → Within r d X' x' D'
within_same r d X x D X' x' D' s q Q a b c h = apart_cancel q ((r * D' + x' * d) * parts) (X' * d * parts) (d * D') Q (swapped r d X x D X' x' D' s q parts a b c h)
