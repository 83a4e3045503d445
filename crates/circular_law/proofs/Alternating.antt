-- The two sides of an alternating sum over y / v: c0 * v ^ n - c1 * y * v ^ (n - 1) + .., over v ^ n. `side true` adds up what is added, `side false` what is taken off. Assumes nothing.
use mathlib.Core.Path.{◌≡◌}
use Prim.Native.Nat.{ℕ, ◌+◌, ◌*◌, ◌^◌, ◌≤◌}
use native.Mathlib.Nat.{mul-le-mul_right, pow-suc, add-mul}
use native.Mathlib.Omega.{arith}
use mathlib.Core.Bool.{Bool, true, false}
use mathlib.Core.List.{List, [], ◌∷◌}
use lib.ListN.{length}
use Rattle.doubles.specs.Distance.{Apart}
use Rattle.circular_law.proofs.Steps.{Near, coefficient}

unfoldable pub side : Bool → ℕ → ℕ → List ℕ → ℕ
side s y v [] = 0
side true y v (c ∷ cs) = c * v ^ length cs + y * side false y v cs
side false y v (c ∷ cs) = y * side true y v cs

abbrev pub total : List ℕ → ℕ
total [] = 0
total (c ∷ cs) = c + total cs

-- ---- both sides are up to the sum of the coefficients, where y is up to v
one_more : (c y v w s t S : ℕ) → y ≤ v → s + t ≤ S * w → c * (w * v) + y * t + y * s ≤ (c + S) * (w * v)
one_more c y v w s t S h k = let a = mul-le-mul_right (s + t) h in let b = mul-le-mul_right v k in omega arith

one_only : (c y w : ℕ) → c * w + y * 0 + y * 0 ≤ (c + 0) * w
one_only c y w = omega arith

pub sides_bound : (y v : ℕ) (c : ℕ) (cs : List ℕ) → y ≤ v → side true y v (c ∷ cs) + side false y v (c ∷ cs) ≤ total (c ∷ cs) * v ^ length cs
unfolding side
sides_bound y v c [] h = one_only c y (v ^ 0)
sides_bound y v c (d ∷ cs) h = rw (pow-suc v (length cs)) (one_more c y v (v ^ length cs) (side true y v (d ∷ cs)) (side false y v (d ∷ cs)) (total (d ∷ cs)) h (sides_bound y v d cs h))

-- ---- a coefficient alone, rounded to C, beside the sum that it starts: the rest is up to 16/25 of the sum of the coefficients
off : (y v w s t S : ℕ) → 25 * y ≤ 16 * v → s + t ≤ S * w → 25 * (y * (s + t)) ≤ 16 * (S * (w * v))
off y v w s t S h k = let a = mul-le-mul_right (s + t) h in let b = mul-le-mul_right (16 * v) k in omega arith

room : (e F S u E W : ℕ) → 25 * (e * F) + 16 * (S * u) ≤ 25 * (E * F) → 25 * (e * (F * W)) + 16 * (S * W * u) ≤ 25 * (E * (F * W))
room e F S u E W h = let a = mul-le-mul_right W h in omega arith

aside : (c t r s e q E : ℕ) → Apart c t e → 25 * (r + s) ≤ 16 * q → 25 * e + 16 * q ≤ 25 * E → Apart (c + r) (t + s) E
aside c t r s e q E h k l = omega arith

pub alone : (u y v w F k c C s t S e E : ℕ) → c * k ≡ F → Apart (C * k) u (e * k) → 25 * y ≤ 16 * v → s + t ≤ S * w → 25 * (e * F) + 16 * (S * u) ≤ 25 * (E * F) → Near u C (c * (w * v) + y * t) (y * s) (F * (w * v)) E
alone u y v w F k c C s t S e E f a h b l =
    let W = w * v in
    rw (add-mul (c * W) (y * t) u)
    (aside (C * (F * W)) (c * W * u) (y * s * u) (y * t * u) (e * (F * W)) (S * W * u) (E * (F * W)) (coefficient u k c F W C e f a) (spread (off y v w s t S h b)) (room e F S u E W l))
  where
    spread : 25 * (y * (s + t)) ≤ 16 * (S * (w * v)) → 25 * (y * s * u + y * t * u) ≤ 16 * (S * (w * v) * u)
    spread g = let m = mul-le-mul_right u g in omega arith
