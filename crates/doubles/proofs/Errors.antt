-- The error of one rounded operation, in any format, for values whose sign is clear. Sizes are in units (`mag`). An exact result below 2 ^ (prec + i) units is rounded by 2 ^ i / 2 at most, half the weight of its last digit. Assumes nothing.
use Rattle.std.proofs.Common.{◌≡◌, ℕ, ◌+◌, ◌-◌, ◌*◌, ◌/◌, ◌^◌, ◌<◌, ◌≤◌, false, T, le_of_eq, lt_of_lt_of_le, mul-le-mul_right, mul_assoc, div-lt_iff_lt-mul, mul-lt-mul_of_pos_right, mul-pos, le_of_mul-le-mul_right, arith, pow_pos, pow_mono}
use lib.Ieee.{Float, Format, prec, low, size, round, add, sub, mul, fits}
use lib.Ieee.Digits.{size-le}
use lib.Ieee.Order.{drop}
use lib.Ieee.Scale.{grid, finite}
use Rattle.doubles.specs.Distance.{Apart}
use Rattle.doubles.proofs.Magnitude.{mag, plain, plain_val, mul_at, add_at}
use Rattle.doubles.proofs.Rounding.{grid_near}
use Rattle.doubles.proofs.Order.{grid_is}
use Rattle.doubles.proofs.Differences.{sub_at}

-- ---- a distance times a factor, and without one
pub apart_mul : (k a b e : ℕ) → Apart a b e → Apart (a * k) (b * k) (e * k)
apart_mul k a b e h = let p = mul-le-mul_right k h.0 in let q = mul-le-mul_right k h.1 in omega arith

pub apart_cancel : (k a b e : ℕ) → 0 < k → Apart (a * k) (b * k) (e * k) → Apart a b e
apart_cancel k a b e K h =
    let p : a * k ≤ (b + e) * k = omega (arith, h.0) in
    let q : b * k ≤ (a + e) * k = omega (arith, h.1) in
    (le_of_mul-le-mul_right p K, le_of_mul-le-mul_right q K)

-- ---- `round`, of a fraction a / c that is below 2 ^ (prec + i) units: no more than i digits are dropped
few : (z p i : ℕ) → z ≤ p + i → z - p ≤ i
few z p i h = omega arith

half : (g n c t s : ℕ) → t ≤ s → 2 * n ≤ (2 * g + t) * c → 2 * g * c ≤ 2 * n + t * c → Apart (2 * (g * c)) (2 * n) (s * c)
half g n c t s l h k = let m = mul-le-mul_right c l in omega arith

pub round_error : (f : Format) (a c i : ℕ) → 0 < c → T (finite (round f false a c)) → a * 2 ^ low f < 2 ^ (prec f + i) * c → Apart (2 * (mag f (round f false a c) * c)) (2 * (a * 2 ^ low f)) (2 ^ i * c)
round_error f a c i C t h =
    let n = a * 2 ^ low f in
    let k = drop (prec f) n c in
    let l : k ≤ i = few (size (n / c)) (prec f) i (size-le (n / c) (prec f + i) ((div-lt_iff_lt-mul C).1 h)) in
    let e = grid_near f a c C in
    rw (grid_is f a c t) (half (grid f a c) n c (2 ^ k) (2 ^ i) (pow_mono l) e.0 e.1)

-- ---- a product
regroup : (Z X Y u s : ℕ) → Apart (2 * (Z * (u * u))) (2 * (X * Y * u)) (s * (u * u)) → Apart (2 * (Z * u) * u) (2 * (X * Y) * u) (s * u * u)
regroup Z X Y u s h = omega arith

below : (n m u : ℕ) → 0 < u → n < m * u → n * u < m * (u * u)
below n m u U h = lt_of_lt_of_le (mul-lt-mul_of_pos_right h U) (le_of_eq (mul_assoc m u u))

pub mul_error : (f : Format) (x y : Float) (i : ℕ) → T (fits f x) → T (fits f y) → T (plain x) → T (plain y) → T (finite (mul f x y)) → mag f x * mag f y < 2 ^ (prec f + i) * 2 ^ low f
    → Apart (2 * (mag f (mul f x y) * 2 ^ low f)) (2 * (mag f x * mag f y)) (2 ^ i * 2 ^ low f)
mul_error f x y i h k p q t l =
    let u = 2 ^ low f in
    let U = pow_pos (low f) in
    let e = mul_at f x y (mag f x) u (mag f y) u U U (plain_val f x h p) (plain_val f y k q) in
    let r = round_error f (mag f x * mag f y) (u * u) i (mul-pos U U) (rw e at t) (below (mag f x * mag f y) (2 ^ (prec f + i)) u U l) in
    apart_cancel u (2 * (mag f (mul f x y) * u)) (2 * (mag f x * mag f y)) (2 ^ i * u) U (rw e (regroup (mag f (round f false (mag f x * mag f y) (u * u))) (mag f x) (mag f y) u (2 ^ i) r))

-- ---- a difference x - y with y up to x
difference : (Z X Y u s : ℕ) → Y ≤ X → 0 < u → Apart (2 * (Z * u)) (2 * ((X - Y) * u)) (s * u) → Apart (2 * (Z + Y)) (2 * X) s
difference Z X Y u s l U h = go (X - Y) (omega arith) h
  where
    more : (d : ℕ) → X ≡ d + Y → Apart (2 * Z) (2 * d) s → Apart (2 * (Z + Y)) (2 * X) s
    more d e a = omega arith

    turn : (d : ℕ) → Apart (2 * (Z * u)) (2 * (d * u)) (s * u) → Apart (2 * Z * u) (2 * d * u) (s * u)
    turn d a = omega arith

    go : (d : ℕ) → X ≡ d + Y → Apart (2 * (Z * u)) (2 * (d * u)) (s * u) → Apart (2 * (Z + Y)) (2 * X) s
    go d e a = more d e (apart_cancel u (2 * Z) (2 * d) s U (turn d a))

less : (X Y m u : ℕ) → 0 < u → X < m → (X - Y) * u < m * u
less X Y m u U h = let g : X - Y < m = omega arith in mul-lt-mul_of_pos_right g U

pub sub_error : (f : Format) (x y : Float) (i : ℕ) → T (fits f x) → T (fits f y) → T (plain x) → T (plain y) → mag f y ≤ mag f x → T (finite (sub f x y)) → mag f x < 2 ^ (prec f + i)
    → Apart (2 * (mag f (sub f x y) + mag f y)) (2 * mag f x) (2 ^ i)
sub_error f x y i h k p q o t l =
    let u = 2 ^ low f in
    let U = pow_pos (low f) in
    let e = sub_at f x y h k p q o in
    let r = round_error f (mag f x - mag f y) u i U (rw e at t) (less (mag f x) (mag f y) (2 ^ (prec f + i)) u U l) in
    difference (mag f (sub f x y)) (mag f x) (mag f y) u (2 ^ i) o U (rw e r)

-- ---- a sum
total : (Z X Y u s : ℕ) → Apart (2 * (Z * (u * u))) (2 * ((X * u + Y * u) * u)) (s * (u * u)) → Apart (2 * Z * (u * u)) (2 * (X + Y) * (u * u)) (s * (u * u))
total Z X Y u s h = omega arith

below_sum : (X Y m u : ℕ) → 0 < u → X + Y < m → (X * u + Y * u) * u < m * (u * u)
below_sum X Y m u U h = let g = mul-lt-mul_of_pos_right (mul-lt-mul_of_pos_right h U) U in omega arith

pub add_error : (f : Format) (x y : Float) (i : ℕ) → T (fits f x) → T (fits f y) → T (plain x) → T (plain y) → T (finite (add f x y)) → mag f x + mag f y < 2 ^ (prec f + i)
    → Apart (2 * mag f (add f x y)) (2 * (mag f x + mag f y)) (2 ^ i)
add_error f x y i h k p q t l =
    let u = 2 ^ low f in
    let U = pow_pos (low f) in
    let e = add_at f x y (mag f x) u (mag f y) u U U (plain_val f x h p) (plain_val f y k q) in
    let n = mag f x * u + mag f y * u in
    let r = round_error f n (u * u) i (mul-pos U U) (rw e at t) (below_sum (mag f x) (mag f y) (2 ^ (prec f + i)) u U l) in
    apart_cancel (u * u) (2 * mag f (add f x y)) (2 * (mag f x + mag f y)) (2 ^ i) (mul-pos U U) (rw e (total (mag f (round f false n (u * u))) (mag f x) (mag f y) u (2 ^ i) r))
