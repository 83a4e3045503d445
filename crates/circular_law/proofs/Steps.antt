-- Whole numbers alone: how an error passes through one step c - y * t of a series, through a square and through a product. A double is R / u; an exact number is (X - x) / D; Near says that they differ by E / u at most. Assumes nothing.
use mathlib.Core.Path.{◌≡◌}
use Prim.Native.Nat.{ℕ, ◌+◌, ◌*◌, ◌≤◌, ◌<◌}
use native.Mathlib.Nat.{mul-le-mul_right, add-mul}
use native.Mathlib.Omega.{arith}
use Rattle.doubles.specs.Distance.{Apart}
use Rattle.doubles.proofs.Errors.{apart_mul, apart_cancel}

-- R / u is within E / u of (X - x) / D
abbrev pub Near : ℕ → ℕ → ℕ → ℕ → ℕ → ℕ → Type 0
Near u R X x D E = Apart (R * D + x * u) (X * u) (E * D)

-- ---- the product y * t, rounded to Z: Y stands for y / v, R for t, each over u
pub product : (u v y Y R Z e d : ℕ) → 0 < u → Apart (Y * v) (y * u) (e * v) → Apart (Z * u) (Y * R) (d * u) → 2 * R ≤ u → Apart (2 * (y * R)) (2 * (Z * v)) ((e + 2 * d) * v)
product u v y Y R Z e d U h k l =
    let a = mul-le-mul_right (2 * R) h.0 in
    let b = mul-le-mul_right (2 * R) h.1 in
    let c = mul-le-mul_right (2 * v) k.0 in
    let g = mul-le-mul_right (2 * v) k.1 in
    let m = mul-le-mul_right (e * v) l in
    apart_cancel u (2 * (y * R)) (2 * (Z * v)) ((e + 2 * d) * v) U (omega arith)

-- ---- one step: c - y * t. D is the denominator of t and D * v = F * W that of the result; c stands for 1 / k, where c * k = F

-- the exact coefficient and the rounded one
pub coefficient : (u k c F W C e : ℕ) → c * k ≡ F → Apart (C * k) u (e * k) → Apart (C * (F * W)) (c * W * u) (e * (F * W))
coefficient u k c F W C e f h = let p = mul-le-mul_right (c * W) h.0 in let q = mul-le-mul_right (c * W) h.1 in rw (← f) (omega arith)

-- the exact rest, times y
rest : (u y v R X x D E : ℕ) → 25 * y ≤ 16 * v → Near u R X x D E → Apart (25 * (y * R * D + y * x * u)) (25 * (y * X * u)) (16 * (E * (D * v)))
rest u y v R X x D E m n =
    let p = mul-le-mul_right (25 * y) n.0 in
    let q = mul-le-mul_right (25 * y) n.1 in
    let r = mul-le-mul_right (E * D) m in
    omega arith

scaled : (y R Z v e D : ℕ) → Apart (2 * (y * R)) (2 * (Z * v)) (e * v) → Apart (2 * (y * R * D)) (2 * (Z * (D * v))) (e * (D * v))
scaled y R Z v e D h = let p = mul-le-mul_right D h.0 in let q = mul-le-mul_right D h.1 in omega arith

together : (q z c t X x r w₁ w₂ w₄ w₅ w : ℕ)
    → Apart c t w₁ → Apart (q + z) c w₄ → Apart (2 * r) (2 * z) w₂ → Apart (25 * (r + x)) (25 * X) (16 * w₅)
    → 50 * (w₁ + w₄) + 25 * w₂ + 32 * w₅ ≤ 50 * w → Apart (q + X) (t + x) w
together q z c t X x r w₁ w₂ w₄ w₅ w a g b n s = omega arith

bounds : (e₁ e₂ e₃ e₄ E' E d : ℕ) → 50 * (e₁ + e₃ + e₄) + 25 * e₂ + 32 * E' ≤ 50 * E → 50 * (e₁ * d + e₄ * d) + 25 * ((e₂ + 2 * e₃) * d) + 32 * (E' * d) ≤ 50 * (E * d)
bounds e₁ e₂ e₃ e₄ E' E d s = let p = mul-le-mul_right d s in omega arith

module _ (u v W F k c y Y R Z C Q X x D e₁ e₂ e₃ e₄ E E' : ℕ) (U : 0 < u) (f : c * k ≡ F) (whole : D * v ≡ F * W) where
  pub step : Apart (C * k) u (e₁ * k) → Apart (Y * v) (y * u) (e₂ * v) → Apart (Z * u) (Y * R) (e₃ * u) → Apart (Q + Z) C e₄ → 2 * R ≤ u → 25 * y ≤ 16 * v → Near u R X x D E'
      → 50 * (e₁ + e₃ + e₄) + 25 * e₂ + 32 * E' ≤ 50 * E → Near u Q (c * W + y * x) (y * X) (D * v) E
  step a b d g l m n s =
      let d' = D * v in
      let A : Apart (C * d') (c * W * u) (e₁ * d') = rw whole (coefficient u k c F W C e₁ f a) in
      let G : Apart (Q * d' + Z * d') (C * d') (e₄ * d') = rw (← add-mul Q Z d') (apart_mul d' (Q + Z) C e₄ g) in
      rw (add-mul (c * W) (y * x) u)
      (together (Q * d') (Z * d') (C * d') (c * W * u) (y * X * u) (y * x * u) (y * R * D) (e₁ * d') ((e₂ + 2 * e₃) * d') (e₄ * d') (E' * d') (E * d') A G
      (scaled y R Z v (e₂ + 2 * e₃) D (product u v y Y R Z e₂ e₃ U b d l)) (rest u y v R X x D E' m n) (bounds e₁ e₂ e₃ e₄ E' E d' s))

-- ---- the square: b = B / u is d / u from p / u, both are up to 4 / 5, and Y is the square of b, rounded
square_near : (u B p d : ℕ) → Apart B p d → 5 * B ≤ 4 * u → 5 * p ≤ 4 * u → Apart (5 * (B * B)) (5 * (p * p)) (8 * (d * u))
square_near u B p d h k l =
    let a = mul-le-mul_right (5 * B) h.0 in
    let b = mul-le-mul_right (5 * B) h.1 in
    let c = mul-le-mul_right (5 * p) h.0 in
    let g = mul-le-mul_right (5 * p) h.1 in
    let m = mul-le-mul_right d k in
    let n = mul-le-mul_right d l in
    omega arith

pub square : (u B p Y d e : ℕ) → Apart B p d → 5 * B ≤ 4 * u → 5 * p ≤ 4 * u → Apart (Y * u) (B * B) (e * u) → Apart (Y * (u * u)) (p * p * u) ((e + 2 * d) * (u * u))
square u B p Y d e h k l r = go (square_near u B p d h k l)
  where
    go : Apart (5 * (B * B)) (5 * (p * p)) (8 * (d * u)) → Apart (Y * (u * u)) (p * p * u) ((e + 2 * d) * (u * u))
    go s =
        let a = mul-le-mul_right u s.0 in
        let b = mul-le-mul_right u s.1 in
        let c = mul-le-mul_right u r.0 in
        let g = mul-le-mul_right u r.1 in
        omega arith

-- ---- the leading factor b of a sine: Z is b times R, rounded
factor : (u B p R X x D d E : ℕ) → Apart B p d → 5 * p ≤ 4 * u → R ≤ u → Near u R X x D E → Apart (5 * (B * R * D + p * x * u)) (5 * (p * X * u)) (5 * (d * (u * D)) + 4 * (E * (u * D)))
factor u B p R X x D d E h l m n =
    let a = mul-le-mul_right (5 * (R * D)) h.0 in
    let b = mul-le-mul_right (5 * (R * D)) h.1 in
    let c = mul-le-mul_right (5 * (d * D)) m in
    let g = mul-le-mul_right (5 * p) n.0 in
    let k = mul-le-mul_right (5 * p) n.1 in
    let o = mul-le-mul_right (E * D) l in
    omega arith

led : (z r x X w v : ℕ) → Apart z r v → Apart (5 * (r + x)) (5 * X) w → Apart (5 * (z + x)) (5 * X) (5 * v + w)
led z r x X w v h k = omega arith

last : (z x X v w E : ℕ) → Apart (5 * (z + x)) (5 * X) (5 * v + w) → 5 * v + w ≤ 5 * E → Apart (z + x) X E
last z x X v w E h k = omega arith

limit : (d e E G t : ℕ) → 5 * (d + e) + 4 * E ≤ 5 * G → 5 * (e * t) + (5 * (d * t) + 4 * (E * t)) ≤ 5 * (G * t)
limit d e E G t h = let k = mul-le-mul_right t h in omega arith

rescaled : (Z u B R D e : ℕ) → Apart (Z * u) (B * R) (e * u) → Apart (Z * (u * D)) (B * R * D) (e * (u * D))
rescaled Z u B R D e h = let a = mul-le-mul_right D h.0 in let b = mul-le-mul_right D h.1 in omega arith

pub lead : (u B p R Z X x D d e E G : ℕ) → Apart B p d → 5 * p ≤ 4 * u → R ≤ u → Apart (Z * u) (B * R) (e * u) → Near u R X x D E → 5 * (d + e) + 4 * E ≤ 5 * G → Near u Z (p * X) (p * x) (u * D) G
lead u B p R Z X x D d e E G h l m k n s =
    last (Z * (u * D)) (p * x * u) (p * X * u) (e * (u * D)) (5 * (d * (u * D)) + 4 * (E * (u * D))) (G * (u * D))
    (led (Z * (u * D)) (B * R * D) (p * x * u) (p * X * u) (5 * (d * (u * D)) + 4 * (E * (u * D))) (e * (u * D)) (rescaled Z u B R D e k) (factor u B p R X x D d E h l m n))
    (limit d e E G (u * D) s)
