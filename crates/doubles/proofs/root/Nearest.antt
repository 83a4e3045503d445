-- `sqrt_of` of a double above zero and finite is the root to the nearest, and std's `sqrt` is `sqrt_of`. Assumes nothing.
use Rattle.std.proofs.Common.{◌≡◌, ℕ, zero, suc, ◌+◌, ◌-◌, ◌*◌, ◌/◌, ◌%◌, ◌^◌, ◌<◌, ◌≤◌, true, false, cond, T, eqb, ltb, leb, ◌&&◌, ℤ, sym, refl, ap, ◌∙◌, subst, inl, inr, zero-le, ltb→lt, le_trans, le_of_eq, lt_of_lt_of_le, le_of_suc-le-suc, lt_of_le_of_lt, lt_irrefl, mul-le-mul_right, mul-le-mul_left, zero-lt-suc, mul_assoc, mul_comm, mul_left_comm, mul-one, zero-mul, mul_right_comm, mul-lt-mul_of_pos_right, mul-pos, lt_of_not-le, not-le_of_lt, div-lt_iff_lt-mul, le-div_iff_mul-le, mul-div_cancel, mul-le-mul, le_of_mul-le-mul_right, eq-zero-or-pos, arith, lit≤, eqb→eq, pow_pos, pow_mono, pow-add}
use native.Mathlib.Nat.{pow-succ', eq_of_mul-eq-mul_right, mul-mul-mul_comm}
use lib.Arith.{lt_of_le-ne}
use lib.Ieee.{Float, nan, inf, fin, binary64, up, down, size, round, fits, lt, root_twice, sqrt}
use lib.Ieee.Digits.{size-lt, size_reaches}
use lib.Ieee.Fits.{and_l, down_pos, round_is}
use lib.Ieee.Nearest.{closest}
use lib.Ieee.Scale.{finite}
use Rattle.doubles.specs.Arithmetic.{zero64}
use Rattle.doubles.specs.Root.{isqrt, sqrt_of, round_root, square_units, NearRoot}
use Rattle.doubles.proofs.Magnitude.{mag, mag_val, plain, low_enough, small_enough, unit_pow}
use Rattle.doubles.proofs.Rounding.{closest_near}
use Rattle.doubles.proofs.Floors.{zero_is}
use Rattle.doubles.proofs.Roots.{handed, root_fraction, root_under, root_from, root_over, root_near, sq_le_back, root_below_same}
use Rattle.doubles.proofs.Bound.{four, zero_mag}

-- ---- the root of an m of at most 53 digits, times a power of two, is never halfway: the square of a number halfway has more digits
twice_pow : (m i : ℕ) → m * 2 ^ suc i ≡ 2 * (m * 2 ^ i)
twice_pow m i = ap (λ (z : ℕ). m * z) (pow-succ' 2 i) ∙ mul_left_comm m 2 (2 ^ i)

not_even : (m n : ℕ) → m % 2 ≡ 1 → m ≡ 2 * n → ⊥
not_even m n p e = omega arith

odd_part : (i j m n : ℕ) → m % 2 ≡ 1 → n % 2 ≡ 1 → m * 2 ^ i ≡ n * 2 ^ j → m ≡ n
odd_part zero zero m n p q e = sym (mul-one m) ∙ e ∙ mul-one n
odd_part zero (suc j) m n p q e = absurd (not_even m (n * 2 ^ j) p (sym (mul-one m) ∙ e ∙ twice_pow n j))
odd_part (suc i) zero m n p q e = absurd (not_even n (m * 2 ^ i) q (sym (mul-one n) ∙ sym e ∙ twice_pow m i))
odd_part (suc i) (suc j) m n p q e = odd_part i j m n p q (half (m * 2 ^ i) (n * 2 ^ j) (sym (twice_pow m i) ∙ e ∙ twice_pow n j))
  where
    half : (a b : ℕ) → 2 * a ≡ 2 * b → a ≡ b
    half a b e = omega arith

ruleset products = (mul_assoc, mul_comm, mul_left_comm)

never_half : (m j k h : ℕ) → m % 2 ≡ 1 → m < 2 ^ 53 → 2 ^ 53 - 1 ≤ 2 * h + 1 → (2 * h + 1) * 2 ^ k * ((2 * h + 1) * 2 ^ k) ≡ 4 * (m * 2 ^ j * 2 ^ 1074) → ⊥
never_half m j k h p u l e =
    let z = 2 * h + 1 in
    let a : m * 2 ^ (j + 1076) ≡ z * z * 2 ^ (k + k) = ap (λ (y : ℕ). m * y) (pow-add 2 j 1076) ∙ move m (2 ^ j) (2 ^ 1074) ∙ sym e ∙ mul-mul-mul_comm z (2 ^ k) z (2 ^ k) ∙ ap (λ (y : ℕ). z * z * y) (sym (pow-add 2 k k)) in
    let s : m ≡ z * z = odd_part (j + 1076) (k + k) m (z * z) p (odd_square h) a in
    lt_irrefl m (lt_of_lt_of_le u (le_trans (lit≤ tt) (le_trans (mul-le-mul l l) (le_of_eq (sym s)))))
  where
    odd_square : (h : ℕ) → (2 * h + 1) * (2 * h + 1) % 2 ≡ 1
    odd_square h = omega arith

    move : (m a b : ℕ) → m * (a * (4 * b)) ≡ 4 * (m * a * b)
    move m a b = simp products

-- ---- √(num / den) to the nearest. v is its square in units of the square of the smallest value
module _ (num den m j : ℕ) (D : 0 < den) (p : m % 2 ≡ 1) (u : m < 2 ^ 53) (e : num * 2 ^ 1074 ≡ m * 2 ^ j * den) where
  abbrev l : ℕ
  l = 2 ^ 1074

  abbrev v : ℕ
  v = m * 2 ^ j * l

  abbrev c : ℕ
  c = 2 * (den * (2 * l))

  abbrev n : ℕ
  n = handed num den l * l

  abbrev k : ℕ
  k = size (n / c) - 53

  abbrev g : ℕ
  g = closest n (c * 2 ^ k)

  L : 0 < l
  L = pow_pos 1074

  C : 0 < c
  C = mul-pos (zero-lt-suc 1) (mul-pos D (mul-pos (zero-lt-suc 1) L))

  W : num * (2 * l * (2 * l)) ≡ 4 * v * den
  W = four num den l (m * 2 ^ j) e

  -- 2 * n / c is on the same side of each whole number w as the root of 4 * v
  from : (w : ℕ) → w * c ≤ 2 * n → w * w ≤ 4 * v
  from w h = le_of_suc-le-suc (lt_of_not-le (λ (q : suc (4 * v) ≤ w * w). not-le_of_lt (root_under num den l w D L (lt_of_le_of_lt (le_of_eq W) (mul-lt-mul_of_pos_right q D))) h))

  to : (w : ℕ) → 2 * n ≤ w * c → 4 * v ≤ w * w
  to w h = le_of_suc-le-suc (lt_of_not-le (λ (q : suc (w * w) ≤ 4 * v). not-le_of_lt (root_over num den l w D L (lt_of_lt_of_le (mul-lt-mul_of_pos_right q D) (le_of_eq (sym W)))) h))

  below : (w : ℕ) → 2 * n < w * c → 4 * v < w * w
  below w h = lt_of_not-le (λ (q : w * w ≤ 4 * v). not-le_of_lt h (root_from num den l w D (le_trans (mul-le-mul_right den q) (le_of_eq (sym W)))))

  hi : 4 * v < 2 ^ 54 * 2 ^ k * (2 ^ 54 * 2 ^ k)
  hi = below (2 ^ 54 * 2 ^ k) (twice n (2 ^ k) c (lt_of_lt_of_le ((div-lt_iff_lt-mul C).0 (lt_of_lt_of_le (size-lt (n / c)) (pow_mono (most (size (n / c)))))) (le_of_eq (ap (λ (z : ℕ). z * c) (pow-add 2 53 k)))))
    where
      most : (s : ℕ) → s ≤ 53 + (s - 53)
      most s = omega arith

      twice : (n P c : ℕ) → n < 2 ^ 53 * P * c → 2 * n < 2 ^ 54 * P * c
      twice n P c h = omega arith

  some : 1 ≤ m * 2 ^ j
  some = mul-pos (odd_pos m p) (pow_pos j)
    where
      odd_pos : (m : ℕ) → m % 2 ≡ 1 → 0 < m
      odd_pos m p = omega arith

  lo : 2 ^ 53 * 2 ^ k * (2 ^ 53 * 2 ^ k) ≤ 4 * v
  lo = elim (eq-zero-or-pos k) [
    | inl z ↦ subst (λ (y : ℕ). 2 ^ 53 * 2 ^ y * (2 ^ 53 * 2 ^ y) ≤ 4 * v) (sym z) (le_trans (lit≤ tt) (mul-le-mul_left 4 (mul-le-mul_right l some)))
    | inr o ↦ from (2 ^ 53 * 2 ^ k) (twice n (2 ^ k) c (le_trans (le_of_eq (ap (λ (z : ℕ). z * c) (sym (pow-add 2 52 k)))) ((le-div_iff_mul-le C).0 (size_reaches (n / c) (52 + k) (least (size (n / c)) o)))))
  ]
    where
      least : (s : ℕ) → 0 < s - 53 → 52 + (s - 53) < s
      least s h = omega arith

      twice : (n P c : ℕ) → 2 ^ 52 * P * c ≤ n → 2 ^ 53 * P * c ≤ 2 * n
      twice n P c h = omega arith

  near : (2 * n ≤ 2 * (g * (c * 2 ^ k)) + c * 2 ^ k) × (2 * (g * (c * 2 ^ k)) ≤ 2 * n + c * 2 ^ k)
  near = closest_near n (c * 2 ^ k) (mul-pos C (pow_pos k))

  over : 4 * v ≤ (2 * g + 1) * 2 ^ k * ((2 * g + 1) * 2 ^ k)
  over = to ((2 * g + 1) * 2 ^ k) (half n g (2 ^ k) c near.0)
    where
      half : (n g P c : ℕ) → 2 * n ≤ 2 * (g * (c * P)) + c * P → 2 * n ≤ (2 * g + 1) * P * c
      half n g P c h = omega arith

  large : 2 ^ 52 ≤ g
  large = enough g (le_of_mul-le-mul_right (sq_le_back (2 ^ 53 * 2 ^ k) ((2 * g + 1) * 2 ^ k) (le_trans lo over)) (pow_pos k))
    where
      enough : (g : ℕ) → 2 ^ 53 ≤ 2 * g + 1 → 2 ^ 52 ≤ g
      enough g h = omega arith

  under : (2 * g - 1) * 2 ^ k * ((2 * g - 1) * 2 ^ k) ≤ 4 * v
  under = from ((2 * g - 1) * 2 ^ k) (half n g (2 ^ k) c near.1)
    where
      half : (n g P c : ℕ) → 2 * (g * (c * P)) ≤ 2 * n + c * P → (2 * g - 1) * P * c ≤ 2 * n
      half n zero P c h = omega arith
      half n (suc h) P c q = rw (less h) (omega (arith, q))
        where
          less : (h : ℕ) → 2 * suc h - 1 ≡ 2 * h + 1
          less h = omega arith

  pub round_root_near : NearRoot v (round_root binary64 num den)
  round_root_near = record {
    g = g;
    k = k;
    is = root_fraction binary64 num den ∙ round_is binary64 false (handed num den l) c;
    lo = lo;
    hi = hi;
    under = lt_of_le-ne under (λ (q : (2 * g - 1) * 2 ^ k * ((2 * g - 1) * 2 ^ k) ≡ 4 * v). never_half m j k (g - 1) p u (big g large) (ap (λ (z : ℕ). z * 2 ^ k * (z * 2 ^ k)) (less g large) ∙ q));
    over = lt_of_le-ne over (λ (q : 4 * v ≡ (2 * g + 1) * 2 ^ k * ((2 * g + 1) * 2 ^ k)). never_half m j k g p u (bigger g large) (sym q));
  }
    where
      less : (g : ℕ) → 2 ^ 52 ≤ g → 2 * (g - 1) + 1 ≡ 2 * g - 1
      less g h = omega arith

      big : (g : ℕ) → 2 ^ 52 ≤ g → 2 ^ 53 - 1 ≤ 2 * (g - 1) + 1
      big g h = omega arith

      bigger : (g : ℕ) → 2 ^ 52 ≤ g → 2 ^ 53 - 1 ≤ 2 * g + 1
      bigger g h = omega arith

-- what is near is `round_root`
near_at : (num den X : ℕ) (r : Float) → 0 < den → num * 2 ^ 1074 ≡ X * den → NearRoot (X * 2 ^ 1074) r → r ≡ round_root binary64 num den
near_at num den X r D e n =
    let l = 2 ^ 1074 in
    let W : num * (2 * l * (2 * l)) ≡ 4 * (X * l) * den = four num den l X e in
    n.is
    ∙ sym (root_near binary64 num den n.g n.k D
    (inr (le_trans (mul-le-mul_right den n.lo) (le_of_eq (sym W))))
    (lt_of_le_of_lt (le_of_eq W) (mul-lt-mul_of_pos_right n.hi D))
    (lt_of_lt_of_le (mul-lt-mul_of_pos_right n.under D) (le_of_eq (sym W)))
    (lt_of_le_of_lt (le_of_eq W) (mul-lt-mul_of_pos_right n.over D)))

-- what is near the root of x is `sqrt_of x`
pub near_sqrt : (x : Float) (r : Float) → T (fits binary64 x) → T (plain x) → 1 ≤ mag binary64 x → NearRoot (square_units x) r → r ≡ sqrt_of binary64 x
unfolding sqrt_of
near_sqrt nan r h p o n = absurd p
near_sqrt (inf s) r h p o n = absurd p
near_sqrt (fin true m e) r h p o n = absurd p
near_sqrt (fin false zero e) r h p o n = absurd (lt_irrefl 0 (lt_of_lt_of_le o (le_of_eq (zero_mag (2 ^ 1074) (down e) (up e)))))
near_sqrt (fin false (suc m) e) r h p o n = near_at (suc m * up e) (down e) (mag binary64 (fin false (suc m) e)) r (down_pos e) (mag_val binary64 (fin false (suc m) e) h tt).1 n

-- ---- std's root of a / down e, which is X units: that of X * 2 ^ 122 / 2 ^ 1196
same_twice : (n : ℕ) → root_twice n ≡ 2 * isqrt n + cond (eqb (isqrt n * isqrt n) n) 0 1
unfolding root_twice isqrt
same_twice n = ap (λ (q : ℕ). 2 * q + cond (eqb (q * q) n) 0 1) (root_below_same (size n) n)

std_root : (a X : ℕ) (e : ℤ) → a * 2 ^ 1074 ≡ X * down e → round binary64 false (root_twice (a * 2 ^ 4542 / down e)) (2 ^ 2272) ≡ round_root binary64 (X * 2 ^ 122) (2 ^ 1196)
std_root a X e h =
    ap (λ (z : ℕ). round binary64 false (root_twice z) (2 ^ 2272)) whole
    ∙ ap (λ (z : ℕ). round binary64 false z (2 ^ 2272)) (same_twice (X * 2 ^ 122 * 2 ^ 1196 * (2 * 2 ^ 1074 * (2 * 2 ^ 1074))))
    ∙ sym (root_fraction binary64 (X * 2 ^ 122) (2 ^ 1196))
  where
    apart : (X b c d : ℕ) → X * (b * c * d) ≡ X * b * c * d
    apart X b c d = sym (mul_assoc X (b * c) d) ∙ ap (λ (z : ℕ). z * d) (sym (mul_assoc X b c))

    more : (a X b c d : ℕ) → a * b ≡ X * d → a * (b * c) ≡ X * c * d
    more a X b c d e = sym (mul_assoc a b c) ∙ ap (λ (z : ℕ). z * c) e ∙ mul_right_comm X d c

    whole : a * 2 ^ 4542 / down e ≡ X * 2 ^ 122 * 2 ^ 1196 * (2 * 2 ^ 1074 * (2 * 2 ^ 1074))
    whole = ap (λ (z : ℕ). z / down e) (more a X (2 ^ 1074) (2 ^ 3468) (down e) h) ∙ mul-div_cancel (X * 2 ^ 3468) (down_pos e) ∙ apart X (2 ^ 122) (2 ^ 1196) (2 * 2 ^ 1074 * (2 * 2 ^ 1074))

-- ---- a double above zero and finite is an odd number of units, times a power of two
module _ (m : ℕ) (e : ℤ) (h : T (fits binary64 (fin false (suc m) e))) where
  abbrev X : ℕ
  X = mag binary64 (fin false (suc m) e)

  value : suc m * up e * 2 ^ 1074 ≡ X * down e
  value = (mag_val binary64 (fin false (suc m) e) h tt).1

  odd : suc m % 2 ≡ 1
  unfolding fits
  odd =
      let a = eqb (suc m % 2) 1 in
      let b = ltb (suc m) (2 ^ 53) in
      let c = leb (down e) (2 ^ 1074) in
      eqb→eq (suc m % 2) 1 (and_l a b (and_l (a && b) c (and_l (a && b && c) (ltb (suc m * up e) (2 ^ 1024 * down e)) h)))

  power : (j : ℕ) × (up e * 2 ^ 1074 ≡ 2 ^ j * down e)
  power = unit_pow 1074 e (low_enough binary64 false (suc m) e h)

  parts : suc m * up e * 2 ^ 1074 ≡ suc m * 2 ^ power.0 * down e
  parts = mul_assoc (suc m) (up e) (2 ^ 1074) ∙ ap (λ (z : ℕ). suc m * z) power.1 ∙ sym (mul_assoc (suc m) (2 ^ power.0) (down e))

  root : NearRoot (X * 2 ^ 1074) (round_root binary64 (suc m * up e) (down e))
  root =
      subst (λ (z : ℕ). NearRoot (z * 2 ^ 1074) (round_root binary64 (suc m * up e) (down e))) (eq_of_mul-eq-mul_right (down e) (down_pos e) (suc m * 2 ^ power.0) X (sym parts ∙ value))
      (round_root_near (suc m * up e) (down e) (suc m) power.0 (down_pos e) odd (small_enough binary64 false (suc m) e h) parts)

  same : round binary64 false (root_twice (suc m * up e * 2 ^ 4542 / down e)) (2 ^ 2272) ≡ round_root binary64 (suc m * up e) (down e)
  same = std_root (suc m * up e) X e value ∙ sym (near_at (X * 2 ^ 122) (2 ^ 1196) X (round_root binary64 (suc m * up e) (down e)) (pow_pos 1196) (mul_assoc X (2 ^ 122) (2 ^ 1074)) root)

-- ---- `sqrt_of`
pub sqrt_near : (x : Float) → T (fits binary64 x) → T (lt zero64 x) → T (finite x) → NearRoot (square_units x) (sqrt_of binary64 x)
unfolding lt sqrt_of
sqrt_near nan h p t = absurd p
sqrt_near (inf s) h p t = absurd t
sqrt_near (fin true m e) h p t = absurd p
sqrt_near (fin false zero e) h p t = absurd (lt_irrefl 0 (lt_of_le_of_lt zero-le (lt_of_lt_of_le (ltb→lt (0 * 1 * down e) (0 * up e * 1) p) (le_of_eq (mul-one (0 * up e) ∙ zero-mul (up e))))))
sqrt_near (fin false (suc m) e) h p t = root m e h

pub sqrt_same : (x : Float) → T (fits binary64 x) → sqrt binary64 x ≡ sqrt_of binary64 x
unfolding sqrt sqrt_of
sqrt_same nan h = refl
sqrt_same (inf true) h = refl
sqrt_same (inf false) h = refl
sqrt_same (fin s zero e) h = sym (zero_is s 0 e h (zero-mul (up e)))
sqrt_same (fin true (suc m) e) h = refl
sqrt_same (fin false (suc m) e) h = same m e h
