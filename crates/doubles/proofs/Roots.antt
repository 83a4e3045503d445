-- `isqrt n` is √n rounded down, and `sqrt_of` is √x rounded to the nearest. Assumes nothing.
use Rattle.std.proofs.Common.{◌≡◌, ℕ, zero, suc, ◌+◌, ◌-◌, ◌*◌, ◌/◌, ◌^◌, ◌<◌, ◌≤◌, Bool, true, false, cond, T, eqb, leb, ◌⊎◌, sym, refl, subst, ap, ◌∙◌, inl, inr, le_of_eq, lt_of_lt_of_le, le_of_suc-le-suc, lt_of_le_of_lt, le_of_lt, lt_irrefl, mul-le-mul_right, zero-lt-suc, mul_assoc, suc-mul, mul_comm, add-mul, mul-le-mul, eq-or-lt_of_le, mul-le-mul_left, mul-lt-mul_of_pos_right, mul-pos, lt_of_not-le, mul-suc, mul_right_comm, mul_left_comm, add-one, arith, eqb→eq, pow_pos}
use native.Mathlib.Nat.{mul-lt-mul_of_pos_left, pow-succ'}
use lib.Ieee as Ieee
use lib.Ieee.{Format, prec, low, size, round, units}
use lib.Ieee.Fits.{two, two-le_pos}
use lib.Ieee.Root.{whole_part}
use Rattle.doubles.proofs.Rounding.{round_near}
use Rattle.doubles.specs.Root.{root_below, isqrt, round_root}

-- q is √n rounded down
abbrev pub IsRoot : ℕ → ℕ → Type 0
IsRoot n q = (q * q ≤ n) × (n < suc q * suc q)

-- ---- std's root is ours, and it is √n rounded down
pub root_below_same : (k n : ℕ) → Ieee.root_below k n ≡ root_below k n
unfolding Ieee.root_below root_below
root_below_same zero n = refl
root_below_same (suc k) n = ap (λ (q : ℕ). cond (leb ((q + 1) * (q + 1)) n) (q + 1) q) (mul_comm 2 (Ieee.root_below k (n / 4)) ∙ ap (λ (q : ℕ). q * 2) (root_below_same k (n / 4)))

pub isqrt_is : (n : ℕ) → IsRoot n (isqrt n)
unfolding isqrt
isqrt_is n = subst (λ (q : ℕ). IsRoot n q) (root_below_same (size n) n) ((whole_part n).0, rw (sym (add-one (Ieee.root_below (size n) n))) (whole_part n).1)

-- ---- squares and the order
sq_lt : (a b : ℕ) → a < b → a * a < b * b
sq_lt a b h = lt_of_lt_of_le (lt_of_lt_of_le (grow a) (le_of_eq refl)) (mul-le-mul h h)
  where
    grow : (a : ℕ) → a * a < suc a * suc a
    grow a = let e = suc-mul a (suc a) in let d = mul-suc a a in omega arith

pub sq_le_back : (a b : ℕ) → a * a ≤ b * b → a ≤ b
sq_le_back a b h = le_of_suc-le-suc (lt_of_not-le (λ (g : suc b ≤ a). lt_irrefl (a * a) (lt_of_le_of_lt h (sq_lt b a g))))

pub sq_lt_back : (a b : ℕ) → a * a < b * b → a < b
sq_lt_back a b h = lt_of_not-le (λ (g : b ≤ a). lt_irrefl (a * a) (lt_of_lt_of_le h (mul-le-mul g g)))

-- ---- √n cut to a half, with a last digit that says whether something was cut: it is on the same side of each whole number as √n
abbrev sticky : ℕ → ℕ → ℕ
sticky q n = 2 * q + cond (eqb (q * q) n) 0 1

module _ (n q z : ℕ) (r : IsRoot n q) where
  pub sticky_under : n < z * z → sticky q n < 2 * z
  sticky_under h = go (eqb (q * q) n) (sq_lt_back q z (lt_of_le_of_lt r.0 h))
    where
      go : (b : Bool) → q < z → 2 * q + cond b 0 1 < 2 * z
      go true l = omega arith
      go false l = omega arith

  pub sticky_from : z * z ≤ n → 2 * z ≤ sticky q n
  sticky_from h = go (cond (eqb (q * q) n) 0 1) (le_of_suc-le-suc (sq_lt_back z (suc q) (lt_of_le_of_lt h r.1)))
    where
      go : (b : ℕ) → z ≤ q → 2 * z ≤ 2 * q + b
      go b l = omega arith

  pub sticky_over : z * z < n → 2 * z < sticky q n
  sticky_over h = go (eqb (q * q) n) (eqb→eq (q * q) n) (eq-or-lt_of_le (le_of_suc-le-suc (sq_lt_back z (suc q) (lt_of_lt_of_le h (le_of_lt r.1)))))
    where
      more : (b z q : ℕ) → z < q → 2 * z < 2 * q + b
      more b z q l = omega arith

      go : (b : Bool) → (T b → q * q ≡ n) → (z ≡ q) ⊎ (z < q) → 2 * z < 2 * q + cond b 0 1
      go true e (inl p) = absurd (lt_irrefl n (lt_of_le_of_lt (le_of_eq (sym (e tt) ∙ ap (λ (k : ℕ). k * k) (sym p))) h))
      go false e (inl p) = rw p (one_over q)
        where
          one_over : (q : ℕ) → 2 * q < 2 * q + 1
          one_over q = omega arith
      go b e (inr l) = more (cond b 0 1) z q l

-- ---- the fraction a / c that `sqrt_of` hands to `round`, in halves of the smallest value, is on the same side of each whole number w as √(num / den): a / c = w / (2 * l) where W / den = w * w
ruleset products = (mul_assoc, mul_comm, mul_left_comm)

abbrev pub handed : ℕ → ℕ → ℕ → ℕ
handed num den l = sticky (isqrt (num * den * (2 * l * (2 * l)))) (num * den * (2 * l * (2 * l)))

-- h is 2 * l, n is num * den * (h * h), c is 2 * (den * h)
module _ (num den l w : ℕ) (D : 0 < den) where
  square : w * den * (w * den) ≡ w * w * den * den
  square = simp products

  whole : num * den * (2 * l * (2 * l)) ≡ num * (2 * l * (2 * l)) * den
  whole = mul_right_comm num den (2 * l * (2 * l))

  down_up : w * (2 * (den * (2 * l))) ≡ 2 * (2 * (w * den) * l)
  down_up = simp products

  is : IsRoot (num * den * (2 * l * (2 * l))) (isqrt (num * den * (2 * l * (2 * l))))
  is = isqrt_is (num * den * (2 * l * (2 * l)))

  pub root_under : 0 < l → num * (2 * l * (2 * l)) < w * w * den → 2 * (handed num den l * l) < w * (2 * (den * (2 * l)))
  root_under L h =
      rw down_up
      (mul-lt-mul_of_pos_left (mul-lt-mul_of_pos_right (sticky_under _ _ (w * den) is (rw (whole, square) (mul-lt-mul_of_pos_right h D))) L) (zero-lt-suc 1))

  pub root_from : w * w * den ≤ num * (2 * l * (2 * l)) → w * (2 * (den * (2 * l))) ≤ 2 * (handed num den l * l)
  root_from h = rw down_up (mul-le-mul_left 2 (mul-le-mul_right l (sticky_from _ _ (w * den) is (rw (whole, square) (mul-le-mul_right den h)))))

  pub root_over : 0 < l → w * w * den < num * (2 * l * (2 * l)) → w * (2 * (den * (2 * l))) < 2 * (handed num den l * l)
  root_over L h =
      rw down_up
      (mul-lt-mul_of_pos_left (mul-lt-mul_of_pos_right (sticky_over _ _ (w * den) is (rw (whole, square) (mul-lt-mul_of_pos_right h D))) L) (zero-lt-suc 1))

-- ---- `round_root`, with 2 ^ (low + 1) as 2 * 2 ^ low
pub root_fraction : (f : Format) (num den : ℕ) → round_root f num den ≡ round f false (handed num den (2 ^ low f)) (2 * (den * (2 * 2 ^ low f)))
unfolding round_root
root_fraction f num den = ap (λ (h : ℕ). round f false (sticky (isqrt (num * den * (h * h))) (num * den * (h * h))) (2 * (den * h))) (pow-succ' 2 (low f))

half_lt : (n v c w : ℕ) → w ≡ 2 * v → 2 * n < w * c → n < v * c
half_lt n v c w e h = let d : w * c ≡ 2 * (v * c) = ap (λ (z : ℕ). z * c) e ∙ mul_assoc 2 v c in omega arith

half_le : (n v c w : ℕ) → w ≡ 2 * v → w * c ≤ 2 * n → v * c ≤ n
half_le n v c w e h = let d : w * c ≡ 2 * (v * c) = ap (λ (z : ℕ). z * c) e ∙ mul_assoc 2 v c in omega arith

from_below : (n g k c : ℕ) → (2 * g - 1) * k * c < 2 * n → 2 * (g * (c * k)) < 2 * n + c * k
from_below n g k c h =
    let x : 2 * g ≤ (2 * g - 1) + 1 = omega arith in
    let y : 2 * g * (c * k) ≤ (2 * g - 1 + 1) * (c * k) = mul-le-mul_right (c * k) x in
    let z : (2 * g - 1 + 1) * (c * k) ≡ (2 * g - 1) * (c * k) + 1 * (c * k) = add-mul (2 * g - 1) 1 (c * k) in
    let a : 2 * g * (c * k) ≡ 2 * (g * (c * k)) = mul_assoc 2 g (c * k) in
    let b : (2 * g - 1) * k * c ≡ (2 * g - 1) * (c * k) = mul_assoc (2 * g - 1) k c ∙ ap (λ (t : ℕ). (2 * g - 1) * t) (mul_comm k c) in
    omega arith

from_above : (n g k c : ℕ) → 2 * n < (2 * g + 1) * k * c → 2 * n < 2 * (g * (c * k)) + c * k
from_above n g k c h =
    let z : (2 * g + 1) * (c * k) ≡ 2 * g * (c * k) + 1 * (c * k) = add-mul (2 * g) 1 (c * k) in
    let a : 2 * g * (c * k) ≡ 2 * (g * (c * k)) = mul_assoc 2 g (c * k) in
    let b : (2 * g + 1) * k * c ≡ (2 * g + 1) * (c * k) = mul_assoc (2 * g + 1) k c ∙ ap (λ (t : ℕ). (2 * g + 1) * t) (mul_comm k c) in
    omega arith

twice_pow : (p k : ℕ) → 2 ^ suc p * 2 ^ k ≡ 2 * (2 ^ p * 2 ^ k)
twice_pow p k = ap (λ (z : ℕ). z * 2 ^ k) (pow-succ' 2 p) ∙ mul_assoc 2 (2 ^ p) (2 ^ k)

pred_suc : (p : ℕ) → 0 < p → p ≡ suc (p - 1)
pred_suc p h = omega arith

-- √(num / den) in units of the smallest value is nearer than a half of 2 ^ k to g * 2 ^ k, and 2 ^ k is the weight of the last digit that is kept: all said with both sides squared, in halves of a unit.
-- So the root, rounded, is g * 2 ^ k units.
pub root_near : (f : Format) (num den g k : ℕ) → 0 < den
    → (k ≡ 0) ⊎ (2 ^ prec f * 2 ^ k * (2 ^ prec f * 2 ^ k) * den ≤ num * (2 * 2 ^ low f * (2 * 2 ^ low f)))
    → num * (2 * 2 ^ low f * (2 * 2 ^ low f)) < 2 ^ suc (prec f) * 2 ^ k * (2 ^ suc (prec f) * 2 ^ k) * den
    → (2 * g - 1) * 2 ^ k * ((2 * g - 1) * 2 ^ k) * den < num * (2 * 2 ^ low f * (2 * 2 ^ low f))
    → num * (2 * 2 ^ low f * (2 * 2 ^ low f)) < (2 * g + 1) * 2 ^ k * ((2 * g + 1) * 2 ^ k) * den
    → round_root f num den ≡ units f false g k
root_near f num den g k D lo hi under over =
    let l = 2 ^ low f in
    let L = pow_pos (low f) in
    let c = 2 * (den * (2 * l)) in
    let a = handed num den l in
    root_fraction f num den
    ∙ round_near f false a c g k (mul-pos (zero-lt-suc 1) (mul-pos D (mul-pos (zero-lt-suc 1) L)))
    (low_end lo)
    (half_lt (a * l) (2 ^ prec f * 2 ^ k) c (2 ^ suc (prec f) * 2 ^ k) (twice_pow (prec f) k) (root_under num den l (2 ^ suc (prec f) * 2 ^ k) D L hi))
    (from_below (a * l) g (2 ^ k) c (root_over num den l ((2 * g - 1) * 2 ^ k) D L under))
    (from_above (a * l) g (2 ^ k) c (root_under num den l ((2 * g + 1) * 2 ^ k) D L over))
  where
    low_end : (k ≡ 0) ⊎ (2 ^ prec f * 2 ^ k * (2 ^ prec f * 2 ^ k) * den ≤ num * (2 * 2 ^ low f * (2 * 2 ^ low f)))
        → (k ≡ 0) ⊎ (2 ^ (prec f - 1) * 2 ^ k * (2 * (den * (2 * 2 ^ low f))) ≤ handed num den (2 ^ low f) * 2 ^ low f)
    low_end (inl e) = inl e
    low_end (inr h) =
        inr
        (half_le (handed num den (2 ^ low f) * 2 ^ low f) (2 ^ (prec f - 1) * 2 ^ k) (2 * (den * (2 * 2 ^ low f))) (2 ^ prec f * 2 ^ k)
        (ap (λ (z : ℕ). 2 ^ z * 2 ^ k) (pred_suc (prec f) (two-le_pos (prec f) (two f))) ∙ twice_pow (prec f - 1) k)
        (root_from num den (2 ^ low f) (2 ^ prec f * 2 ^ k) D h))
