-- `add` and `lt` by any fractions that their operands equal, whatever their signs. Assumes nothing.
use Rattle.std.proofs.Common.{◌≡◌, ℕ, ◌+◌, ◌-◌, ◌*◌, ◌<◌, ◌≤◌, Bool, true, false, cond, not, ◌&&◌, T, ltb, sym, refl, ap, ◌∙◌, le_of_eq, lt_of_lt_of_le, lt_of_le_of_lt, mul_assoc, mul_comm, add-mul, lt_of_mul-lt-mul_right, mul-lt-mul_of_pos_right, mul-pos, zero-mul, mul_right_comm, mul_left_comm, arith, ltb→lt, lt→ltb, nltb→le}
use native.Mathlib.Nat.{mul-sub, eq_of_mul-eq-mul_right}
use mathlib.Core.Bool.{beq}
use lib.Arith.{le→nltb}
use lib.Ieee.{Float, nan, inf, fin, Format, up, down, round, sum, add, below, lt}
use lib.Ieee.Fits.{down_pos}
use lib.Ieee.Bits.{is_true, cond_no}
use lib.Ieee.Exact.{HasValue}
use lib.Ieee.Scale.{round_same}

-- from one fraction to another of the same size
pub rescale : (x : Float) (s : Bool) (w l a c : ℕ) → 0 < l → a * l ≡ w * c → HasValue x s w l → HasValue x s a c
rescale nan s w l a c L h v = v
rescale (inf t) s w l a c L h v = v
rescale (fin t m e) s w l a c L h v = (
  v.0,
  eq_of_mul-eq-mul_right l L (m * up e * c) (a * down e)
      (mul_right_comm (m * up e) c l ∙ ap (λ (z : ℕ). z * c) v.1 ∙ mul_right_comm w (down e) c ∙ ap (λ (z : ℕ). z * down e) (sym h) ∙ mul_right_comm a l (down e)),
)

-- ---- two tests that say the same
pub same_test : (p q : Bool) → (T p → T q) → (T q → T p) → p ≡ q
same_test true true h k = refl
same_test true false h k = absurd (h tt)
same_test false true h k = absurd (k tt)
same_test false false h k = refl

-- ---- a / c and b / c, which are a' / c' and b' / c'
lt_scaled : (a b c a' b' c' : ℕ) → 0 < c' → a * c' ≡ a' * c → b * c' ≡ b' * c → a < b → a' < b'
lt_scaled a b c a' b' c' C' h k l = lt_of_mul-lt-mul_right c (lt_of_le_of_lt (le_of_eq (sym h)) (lt_of_lt_of_le (mul-lt-mul_of_pos_right l C') (le_of_eq k)))

ltb_scaled : (a b c a' b' c' : ℕ) → 0 < c → 0 < c' → a * c' ≡ a' * c → b * c' ≡ b' * c → ltb a b ≡ ltb a' b'
ltb_scaled a b c a' b' c' C C' h k =
    same_test (ltb a b) (ltb a' b') (λ (t : T (ltb a b)). lt→ltb a' b' (lt_scaled a b c a' b' c' C' h k (ltb→lt a b t)))
    (λ (t : T (ltb a' b')). lt→ltb a b (lt_scaled a' b' c' a b c C (sym h) (sym k) (ltb→lt a' b' t)))

pub sub_mul : (a b c : ℕ) → (a - b) * c ≡ a * c - b * c
sub_mul a b c = mul_comm (a - b) c ∙ mul-sub c a b ∙ ap (λ (z : ℕ). z - c * b) (mul_comm c a) ∙ ap (λ (z : ℕ). a * c - z) (mul_comm c b)

less_scaled : (a b c a' b' c' : ℕ) → a * c' ≡ a' * c → b * c' ≡ b' * c → (a - b) * c' ≡ (a' - b') * c
less_scaled a b c a' b' c' h k = sub_mul a b c' ∙ ap (λ (z : ℕ). z - b * c') h ∙ ap (λ (z : ℕ). a' * c - z) k ∙ sym (sub_mul a' b' c)

more_scaled : (a b c a' b' c' : ℕ) → a * c' ≡ a' * c → b * c' ≡ b' * c → (a + b) * c' ≡ (a' + b') * c
more_scaled a b c a' b' c' h k = add-mul a b c' ∙ ap (λ (z : ℕ). z + b * c') h ∙ ap (λ (z : ℕ). a' * c + z) k ∙ sym (add-mul a' b' c)

pub sum_scaled : (f : Format) (s t : Bool) (a b c a' b' c' : ℕ) → 0 < c → 0 < c' → a * c' ≡ a' * c → b * c' ≡ b' * c → sum f s a t b c ≡ sum f s a' t b' c'
unfolding sum
sum_scaled f s t a b c a' b' c' C C' h k =
    let p = round_same f s (a + b) c (a' + b') c' C C' (more_scaled a b c a' b' c' h k) in
    let q = round_same f t (b - a) c (b' - a') c' C C' (less_scaled b a c b' a' c' k h) in
    let r = round_same f (s && ltb b a) (a - b) c (a' - b') c' C C' (less_scaled a b c a' b' c' h k) ∙ ap (λ (z : Bool). round f (s && z) (a' - b') c') (ltb_scaled b a c b' a' c' C C' k h) in
    let u = ltb_scaled a b c a' b' c' C C' h k in
    λ i. cond (beq s t) (p i) (cond (u i) (q i) (r i))

below_scaled : (s t : Bool) (a b c a' b' c' : ℕ) → 0 < c → 0 < c' → a * c' ≡ a' * c → b * c' ≡ b' * c → below s a t b ≡ below s a' t b'
below_scaled false false a b c a' b' c' C C' h k = ltb_scaled a b c a' b' c' C C' h k
below_scaled false true a b c a' b' c' C C' h k = refl
below_scaled true false a b c a' b' c' C C' h k = ltb_scaled 0 (a + b) c 0 (a' + b') c' C C' (zero-mul c' ∙ sym (zero-mul c)) (more_scaled a b c a' b' c' h k)
below_scaled true true a b c a' b' c' C C' h k = ltb_scaled b a c b' a' c' C C' k h

-- ---- a sum of unlike signs: the larger less the smaller, with the larger's sign
pub sum_plain : (f : Format) (a b c : ℕ) → b ≤ a → sum f false a true b c ≡ round f false (a - b) c
unfolding sum
sum_plain f a b c h = cond_no (ltb a b) (round f true (b - a) c) (round f false (a - b) c) (le→nltb a b h)

pub sum_minus : (f : Format) (a b c : ℕ) → a < b → sum f false a true b c ≡ round f true (b - a) c
unfolding sum
sum_minus f a b c h = ap (λ (t : Bool). cond t (round f true (b - a) c) (round f false (a - b) c)) (is_true (ltb a b) (lt→ltb a b h))

pub sum_turned : (f : Format) (a b c : ℕ) → a ≤ b → sum f true a false b c ≡ round f false (b - a) c
unfolding sum
sum_turned f a b c h = go (ltb a b) (ltb b a) (ltb→lt b a) (nltb→le a b)
  where
    go : (t u : Bool) → (T u → b < a) → (T (not t) → b ≤ a) → cond t (round f false (b - a) c) (round f (true && u) (a - b) c) ≡ round f false (b - a) c
    go true u k l = refl
    go false true k l = let g = k tt in absurd (omega arith)
    go false false k l = let g = l tt in let z : a - b ≡ b - a = omega arith in ap (λ (n : ℕ). round f false n c) z

-- ---- x = a / c and y = b / d over the denominator c * d
ruleset products = (mul_assoc, mul_comm, mul_left_comm)

left_cross : (x p q a c d : ℕ) → x * c ≡ a * p → x * q * (c * d) ≡ a * d * (p * q)
left_cross x p q a c d h = simp products (simp products at (ap (λ (z : ℕ). z * (q * d)) h))

right_cross : (y q p b d c : ℕ) → y * d ≡ b * q → y * p * (c * d) ≡ b * c * (p * q)
right_cross y q p b d c k = simp products (simp products at (ap (λ (z : ℕ). z * (p * c)) k))

pub add_of : (f : Format) (x y : Float) (s : Bool) (a c : ℕ) (t : Bool) (b d : ℕ) → 0 < c → 0 < d → HasValue x s a c → HasValue y t b d → add f x y ≡ sum f s (a * d) t (b * c) (c * d)
unfolding add
add_of f nan y s a c t b d C D v w = absurd v
add_of f (inf u) y s a c t b d C D v w = absurd v
add_of f (fin u m e) nan s a c t b d C D v w = absurd w
add_of f (fin u m e) (inf o) s a c t b d C D v w = absurd w
add_of f (fin u m e) (fin o n g) s a c t b d C D v w =
    let p = v.0 in
    let q = w.0 in
    (λ i. sum f (p i) (m * up e * down g) (q i) (n * up g * down e) (down e * down g))
    ∙ sum_scaled f s t (m * up e * down g) (n * up g * down e) (down e * down g) (a * d) (b * c) (c * d) (mul-pos (down_pos e) (down_pos g)) (mul-pos C D)
    (left_cross (m * up e) (down e) (down g) a c d v.1) (right_cross (n * up g) (down g) (down e) b d c w.1)

pub lt_of : (x y : Float) (s : Bool) (a c : ℕ) (t : Bool) (b d : ℕ) → 0 < c → 0 < d → HasValue x s a c → HasValue y t b d → lt x y ≡ below s (a * d) t (b * c)
unfolding lt
lt_of nan y s a c t b d C D v w = absurd v
lt_of (inf u) y s a c t b d C D v w = absurd v
lt_of (fin u m e) nan s a c t b d C D v w = absurd w
lt_of (fin u m e) (inf o) s a c t b d C D v w = absurd w
lt_of (fin u m e) (fin o n g) s a c t b d C D v w =
    let p = v.0 in
    let q = w.0 in
    (λ i. below (p i) (m * up e * down g) (q i) (n * up g * down e))
    ∙ below_scaled s t (m * up e * down g) (n * up g * down e) (down e * down g) (a * d) (b * c) (c * d) (mul-pos (down_pos e) (down_pos g)) (mul-pos C D)
    (left_cross (m * up e) (down e) (down g) a c d v.1) (right_cross (n * up g) (down g) (down e) b d c w.1)
