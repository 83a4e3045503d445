-- How far `round` can be from its fraction: half a unit of the last digit that it keeps. And what a fraction that lies within half a unit of a number is rounded to. Assumes nothing.
use Rattle.std.proofs.Common.{◌≡◌, ℕ, zero, suc, ◌+◌, ◌-◌, ◌*◌, ◌/◌, ◌%◌, ◌^◌, ◌<◌, ◌≤◌, Bool, not, T, eqb, ◌⊎◌, sym, ap, ◌∙◌, subst, inl, inr, le_trans, le_of_eq, lt_of_lt_of_le, le_of_suc-le-suc, lt_irrefl, mul-le-mul_right, mod-lt, mul_assoc, suc-mul, mul_comm, div-lt_iff_lt-mul, add-mul, eq-zero-or-pos, le_antisymm, mul-pos, lt_of_not-le, div-add-mod', le-div_iff_mul-le, arith, eqb→eq, leb→le, pow_pos, pow_mono, pow-add}
use Prim.Native.Nat.{compare, Ordering}
use native.Mathlib.Nat.{mul-add-div_right, div-div-eq-div-mul, mul-add-mod_self_right}
use lib.Dec.{is_le, compare_is_eq, nleb→lt, eqb_refl}
use lib.Arith.{lt_of_le-ne}
use lib.Ieee.{Format, prec, low, size, nearest, units, round}
use lib.Ieee.Digits.{size-lt, size-le, size_reaches}
use lib.Ieee.Fits.{two, two-le_pos, round_is}
use lib.Ieee.Nearest.{closest, nearest-ge}
use lib.Ieee.Order.{drop, kept}
use lib.Ieee.Scale.{grid}

-- ---- what `compare` says
abbrev Cmp : Ordering → ℕ → ℕ → Type 0
Cmp Ordering.lt a b = a < b
Cmp Ordering.eq a b = a ≡ b
Cmp Ordering.gt a b = b < a

cmp : (a b : ℕ) → Cmp (compare a b) a b
cmp a b = go (compare a b) (leb→le a b) (nleb→lt a b) (eqb→eq a b) (λ (e : a ≡ b). subst (λ (x : ℕ). T (eqb a x)) e (eqb_refl a))
  where
    go : (o : Ordering) → (T (is_le o) → a ≤ b) → (T (not (is_le o)) → b < a) → (T (compare_is_eq o) → a ≡ b) → (a ≡ b → T (compare_is_eq o)) → Cmp o a b
    go Ordering.lt h k e n = lt_of_le-ne (h tt) n
    go Ordering.eq h k e n = e tt
    go Ordering.gt h k e n = k tt

-- ---- n / u to the nearest whole number w is within a half of it
abbrev Near : ℕ → ℕ → ℕ → Type 0
Near c n u = (2 * n ≤ 2 * (c * u) + u) × (2 * (c * u) ≤ 2 * n + u)

tie_near : (w r u b : ℕ) → r * 2 ≡ u → b < 2 → Near (w + b) (w * u + r) u
tie_near w r u zero c l = rw (add-mul w 0 u) (omega arith)
tie_near w r u (suc zero) c l = rw (add-mul w 1 u) (omega arith)
tie_near w r u (suc (suc b)) c l = absurd (omega arith)

bit : (x : ℕ) → x % 2 < 2
bit x = omega arith

near_at : (w r u : ℕ) (o : Ordering) → Cmp o (r * 2) u → r < u → Near (nearest w o) (w * u + r) u
near_at w r u Ordering.lt c h = omega arith
near_at w r u Ordering.eq c h = tie_near w r u (w % 2) c (bit w)
near_at w r u Ordering.gt c h = rw (suc-mul w u) (omega arith)

pub closest_near : (n u : ℕ) → 0 < u → Near (closest n u) n u
closest_near n u U = subst (λ (z : ℕ). Near (closest n u) z u) (div-add-mod' n u) (near_at (n / u) (n % u) u (compare (n % u * 2) u) (cmp (n % u * 2) u) (mod-lt n U))

-- ---- and a number that is nearer than a half is the nearest
apart : (c q u n : ℕ) → c < q → 2 * n ≤ 2 * (c * u) + u → 2 * (q * u) < 2 * n + u → ⊥
apart c q u n h a b = let k : suc c * u ≤ q * u = mul-le-mul_right u h in let e = suc-mul c u in omega arith

apart' : (c q u n : ℕ) → q < c → 2 * (c * u) ≤ 2 * n + u → 2 * n < 2 * (q * u) + u → ⊥
apart' c q u n h a b = let k : suc q * u ≤ c * u = mul-le-mul_right u h in let e = suc-mul q u in omega arith

pub closest_is : (n u q : ℕ) → 0 < u → 2 * (q * u) < 2 * n + u → 2 * n < 2 * (q * u) + u → closest n u ≡ q
closest_is n u q U a b =
    let c = closest_near n u U in
    le_antisymm (le_of_suc-le-suc (lt_of_not-le (λ (g : suc q ≤ closest n u). apart' (closest n u) q u n g c.1 b)))
    (le_of_suc-le-suc (lt_of_not-le (λ (g : suc (closest n u) ≤ q). apart (closest n u) q u n g c.0 a)))

-- ---- moved by an even number, which keeps a half even
nearest_moved : (w q : ℕ) (o : Ordering) → w % 2 ≡ 0 → nearest (w + q) o ≡ w + nearest q o
nearest_moved w q Ordering.lt h = omega arith
nearest_moved w q Ordering.eq h = omega arith
nearest_moved w q Ordering.gt h = omega arith

pub closest_moved : (w n u : ℕ) → 0 < u → w % 2 ≡ 0 → closest (w * u + n) u ≡ w + closest n u
closest_moved w n u U h =
    ap (λ (q : ℕ). nearest q (compare ((w * u + n) % u * 2) u)) (mul-add-div_right U w n)
    ∙ ap (λ (r : ℕ). nearest (w + n / u) (compare (r * 2) u)) (mul-add-mod_self_right w u n)
    ∙ nearest_moved w (n / u) (compare (n % u * 2) u) h

-- ---- `round`: of n / den in units of the smallest value, `drop` digits are dropped
all_in_use : (z p : ℕ) → 0 < p → 0 < z - p → p - 1 + (z - p) < z
all_in_use z p P h = omega arith

kept_ge : (p n den : ℕ) → 0 < p → 0 < drop p n den → 2 ^ (p - 1) ≤ kept p n den
kept_ge p n den P K =
    let k = drop p n den in
    let u = den * 2 ^ k in
    let w = n / den in
    let a : 2 ^ (p - 1) * 2 ^ k ≤ w = le_trans (le_of_eq (sym (pow-add 2 (p - 1) k))) (size_reaches w (p - 1 + k) (all_in_use (size w) p P K)) in
    le_trans (subst (λ (x : ℕ). 2 ^ (p - 1) ≤ x) (div-div-eq-div-mul n den (2 ^ k)) ((le-div_iff_mul-le (pow_pos k)).1 a)) (nearest-ge (n / u) (compare (n % u * 2) u))

-- the last digit kept weighs no more than 2 ^ (1 - prec) of the result, but for a weight of 1
pub step_small : (p n den : ℕ) → 0 < p → (drop p n den ≡ 0) ⊎ (2 ^ (p - 1) * 2 ^ drop p n den ≤ kept p n den * 2 ^ drop p n den)
step_small p n den P = elim (eq-zero-or-pos (drop p n den)) [ inl z ↦ inl z | inr h ↦ inr (mul-le-mul_right (2 ^ drop p n den) (kept_ge p n den P h)) ]

regroup : (c k n d : ℕ) → Near c n (d * k) → (2 * n ≤ (2 * (c * k) + k) * d) × (2 * (c * k) * d ≤ 2 * n + k * d)
regroup c k n d h =
    let a : c * (d * k) ≡ c * k * d = ap (λ (z : ℕ). c * z) (mul_comm d k) ∙ sym (mul_assoc c k d) in
    let b : d * k ≡ k * d = mul_comm d k in
    let e : (2 * (c * k) + k) * d ≡ 2 * (c * k) * d + k * d = add-mul (2 * (c * k)) k d in
    let g : 2 * (c * k) * d ≡ 2 * (c * k * d) = mul_assoc 2 (c * k) d in
    let h0 = h.0 in
    let h1 = h.1 in
    omega arith

-- the rounded value, in units, is within half of the weight of its last digit
pub grid_near : (f : Format) (a c : ℕ) → 0 < c
    → (2 * (a * 2 ^ low f) ≤ (2 * grid f a c + 2 ^ drop (prec f) (a * 2 ^ low f) c) * c) × (2 * grid f a c * c ≤ 2 * (a * 2 ^ low f) + 2 ^ drop (prec f) (a * 2 ^ low f) c * c)
grid_near f a c C =
    let n = a * 2 ^ low f in
    let k = drop (prec f) n c in
    regroup (kept (prec f) n c) (2 ^ k) n c (closest_near n (c * 2 ^ k) (mul-pos C (pow_pos k)))

-- ---- how many digits are dropped of a fraction that is from 2 ^ (p - 1) up and below 2 ^ p times 2 ^ k
size_gt : (n j : ℕ) → 2 ^ j ≤ n → j < size n
size_gt n j h = lt_of_not-le (λ (g : size n ≤ j). lt_irrefl n (lt_of_lt_of_le (size-lt n) (le_trans (pow_mono g) h)))

pub drop_is : (p n c k : ℕ) → 0 < p → 0 < c → (k ≡ 0) ⊎ (2 ^ (p - 1) * 2 ^ k * c ≤ n) → n < 2 ^ p * 2 ^ k * c → drop p n c ≡ k
drop_is p n c k P C lo hi =
    go lo (size-le (n / c) (p + k) ((div-lt_iff_lt-mul C).1 (lt_of_lt_of_le hi (le_of_eq (ap (λ (z : ℕ). z * c) (sym (pow-add 2 p k)))))))
  where
    none : (z : ℕ) → z ≤ p + k → k ≡ 0 → z - p ≡ k
    none z h e = omega arith

    some : (z : ℕ) → z ≤ p + k → p - 1 + k < z → z - p ≡ k
    some z h g = omega arith

    go : (k ≡ 0) ⊎ (2 ^ (p - 1) * 2 ^ k * c ≤ n) → size (n / c) ≤ p + k → size (n / c) - p ≡ k
    go (inl e) h = none (size (n / c)) h e
    go (inr l) h = some (size (n / c)) h (size_gt (n / c) (p - 1 + k) ((le-div_iff_mul-le C).1 (le_trans (le_of_eq (ap (λ (z : ℕ). z * c) (pow-add 2 (p - 1) k))) l)))

-- `round`, of a fraction that is nearer than half a unit to g units of 2 ^ k
pub round_near : (f : Format) (s : Bool) (a c g k : ℕ) → 0 < c → (k ≡ 0) ⊎ (2 ^ (prec f - 1) * 2 ^ k * c ≤ a * 2 ^ low f) → a * 2 ^ low f < 2 ^ prec f * 2 ^ k * c
    → 2 * (g * (c * 2 ^ k)) < 2 * (a * 2 ^ low f) + c * 2 ^ k → 2 * (a * 2 ^ low f) < 2 * (g * (c * 2 ^ k)) + c * 2 ^ k → round f s a c ≡ units f s g k
round_near f s a c g k C lo hi under over =
    let n = a * 2 ^ low f in
    round_is f s a c
    ∙ ap (λ (z : ℕ). units f s (closest n (c * 2 ^ z)) z) (drop_is (prec f) n c k (two-le_pos (prec f) (two f)) C lo hi)
    ∙ ap (λ (z : ℕ). units f s z k) (closest_is n (c * 2 ^ k) g (mul-pos C (pow_pos k)) under over)
