-- What the proof of `floor_log2` cites: the floor of the logarithm from a value's size in units, and the size from the pattern without its sign. Assumes nothing.
use Rattle.std.proofs.Common.{◌≡◌, ℕ, zero, suc, ◌+◌, ◌-◌, ◌*◌, ◌/◌, ◌%◌, ◌^◌, ◌<◌, ◌≤◌, Bool, true, false, not, T, ℤ, pos, negsuc, ◌-ℤ◌, sym, refl, ap, ◌∙◌, subst, inl, inr, le_trans, le_of_eq, lt_of_lt_of_le, lt_of_le_of_lt, lt_irrefl, mul-le-mul_right, mod-lt, mod-eq_of_lt, zero-lt-suc, mul-lt-mul_of_pos_right, mul-pos, mul-one, arith, lit<, lit≤, pow_pos, pow-add, w64, SFits, to_z, of_z}
use lib.Signed as Sign
use lib.Bits.{bit_and, and_mask, mask_lt}
use lib.Count.{count_leading_zeros, leading_le, leading_top}
use lib.Ieee.{Float, nan, inf, fin, Format, binary64, low, up, down, minus, size, neg, fits, is_nan, to_bits, top}
use lib.Ieee.Fits.{down_pos, up_pos, neg-fits}
use lib.Ieee.Digits.{size-lt, size_reaches}
use lib.Ieee.Positive.{first_pos}
use lib.Ieee.Scale.{finite}
use mir.ValLaws.{to_z_pos, to_z-of_z}
use Rattle.doubles.specs.Power.{floor_log2}
use Rattle.doubles.proofs.Magnitude.{mag, mag_val, mag_lt}
use Rattle.doubles.proofs.Exponents.{minus_neg, minus_pos, sub_is_minus, minus_same, minus_small, small_fits, pow_lt_back, pow_suc_add, one_power}
use Rattle.doubles.proofs.Squares.{Shape, shape}

-- ---- m > 0 has its highest digit at `size m - 1`
some_digits : (m : ℕ) → 0 < m → 0 < size m
some_digits m h = go (size m) (size-lt m)
  where
    go : (z : ℕ) → m < 2 ^ z → 0 < z
    go zero l = absurd (omega arith)
    go (suc z) l = omega arith

highest : (m : ℕ) → 0 < m → (2 ^ (size m - 1) ≤ m) × (m < 2 ^ suc (size m - 1))
highest m h =
    let s = some_digits m h in
    let a : size m - 1 < size m = omega arith in
    let b : size m ≡ suc (size m - 1) = omega arith in
    (size_reaches m (size m - 1) a, lt_of_lt_of_le (size-lt m) (le_of_eq (ap (λ (z : ℕ). 2 ^ z) b)))

-- m * 2 ^ e is from 2 ^ i up and below 2 ^ (i + 1), in units of 2 ^ -l
log_at : (s : Bool) (m : ℕ) (e : ℤ) (l i : ℕ) → 0 < m → 2 ^ i * down e ≤ m * up e * 2 ^ l → m * up e * 2 ^ l < 2 ^ suc i * down e → floor_log2 (fin s m e) ≡ minus i l
unfolding floor_log2
log_at s zero e l i p lo hi = absurd (omega arith)
log_at s (suc m) (pos k) l i p lo hi =
    let h = highest (suc m) p in
    let j = size (suc m) - 1 in
    let n : 2 ^ (j + k + l) ≡ 2 ^ j * 2 ^ k * 2 ^ l = pow-add 2 (j + k) l ∙ ap (λ (y : ℕ). y * 2 ^ l) (pow-add 2 j k) in
    let n' : 2 ^ suc (j + k + l) ≡ 2 ^ suc j * 2 ^ k * 2 ^ l = pow_suc_add (j + k) l ∙ ap (λ (y : ℕ). y * 2 ^ l) (pow_suc_add j k) in
    let e : i ≡ j + k + l = one_power i (j + k + l) (suc m * 2 ^ k * 2 ^ l) (le_trans (le_of_eq (sym (mul-one (2 ^ i)))) lo) (lt_of_lt_of_le hi (le_of_eq (mul-one (2 ^ suc i))))
    (le_trans (le_of_eq n) (mul-le-mul_right (2 ^ l) (mul-le-mul_right (2 ^ k) h.0)))
    (lt_of_lt_of_le (mul-lt-mul_of_pos_right (mul-lt-mul_of_pos_right h.1 (pow_pos k)) (pow_pos l)) (le_of_eq (sym n'))) in
    let a : l ≤ i = omega arith in
    let b : j + k ≡ i - l = omega arith in
    ap pos b ∙ sym (minus_pos i l a)
log_at s (suc m) (negsuc k) l i p lo hi =
    let h = highest (suc m) p in
    let j = size (suc m) - 1 in
    let a : suc m * 1 * 2 ^ l ≡ suc m * 2 ^ l = ap (λ (y : ℕ). y * 2 ^ l) (mul-one (suc m)) in
    let e : i + suc k ≡ j + l = one_power (i + suc k) (j + l) (suc m * 2 ^ l)
    (le_trans (le_of_eq (pow-add 2 i (suc k))) (le_trans lo (le_of_eq a)))
    (lt_of_le_of_lt (le_of_eq (sym a)) (lt_of_lt_of_le hi (le_of_eq (sym (pow_suc_add i (suc k))))))
    (le_trans (le_of_eq (pow-add 2 j l)) (mul-le-mul_right (2 ^ l) h.0))
    (lt_of_lt_of_le (mul-lt-mul_of_pos_right h.1 (pow_pos l)) (le_of_eq (sym (pow_suc_add j l)))) in
    sub_is_minus j (suc k) ∙ minus_same j (suc k) i l (sym e)

-- from the size in units
pub log_of : (f : Format) (x : Float) → T (fits f x) → T (finite x) → (i : ℕ) → 2 ^ i ≤ mag f x → mag f x < 2 ^ suc i → floor_log2 x ≡ minus i (low f)
log_of f nan h t i lo hi = absurd t
log_of f (inf s) h t i lo hi = absurd t
log_of f (fin s m e) h t i lo hi =
    let v = (mag_val f (fin s m e) h tt).1 in
    let a : 2 ^ i * down e ≤ m * up e * 2 ^ low f = le_trans (mul-le-mul_right (down e) lo) (le_of_eq (sym v)) in
    log_at s m e (low f) i (first_pos m (up e) (first_pos (m * up e) (2 ^ low f) (lt_of_lt_of_le (mul-pos (pow_pos i) (down_pos e)) a))) a
    (lt_of_le_of_lt (le_of_eq v) (mul-lt-mul_of_pos_right hi (down_pos e)))

-- and there is such an i
abbrev pub Logged : Float → Type 0
Logged x = (i : ℕ) × (i < 2098) × (floor_log2 x ≡ minus i 1074)

pub logged : (x : Float) → T (fits binary64 x) → T (finite x) → 1 ≤ mag binary64 x → Logged x
logged x h t o =
    let X = mag binary64 x in
    let d = highest X o in
    let l : X < 2 ^ 2098 = lt_of_lt_of_le (mag_lt binary64 x h t) (le_of_eq (sym (pow-add 2 1024 1074))) in
    (size X - 1, pow_lt_back (size X - 1) 2098 (lt_of_le_of_lt d.0 l), log_of binary64 x h t (size X - 1) d.0 d.1)

-- ---- the pattern without its sign
abbrev pub plain_bits : Float → ℕ
plain_bits x = bit_and (to_bits binary64 x) (2 ^ 63 - 1)

to_bits_minus : (f : Format) (m : ℕ) (e : ℤ) → to_bits f (fin true m e) ≡ top f + to_bits f (fin false m e)
unfolding to_bits
to_bits_minus f m e = regroup (top f) _ _
  where
    regroup : (t a b : ℕ) → t + a + b ≡ t + (0 + a + b)
    regroup t a b = omega arith

pub plain_shape : (x : Float) → T (fits binary64 x) → T (finite x) → Shape (plain_bits x) (mag binary64 x)
unfolding neg
plain_shape nan h t = absurd t
plain_shape (inf s) h t = absurd t
plain_shape (fin false m e) h t =
    let b = to_bits binary64 (fin false m e) in
    let s = shape (fin false m e) h tt in
    subst (λ (z : ℕ). Shape z (mag binary64 (fin false m e))) (sym (and_mask b 63 ∙ mod-eq_of_lt s.0)) s
plain_shape (fin true m e) h t =
    let b = to_bits binary64 (fin false m e) in
    let s = shape (fin false m e) (neg-fits binary64 (fin true m e) h) tt in
    let c : to_bits binary64 (fin true m e) % 2 ^ 63 ≡ b = ap (λ (z : ℕ). z % 2 ^ 63) (to_bits_minus binary64 m e) ∙ cut b s.0 in
    subst (λ (z : ℕ). Shape z (mag binary64 (fin true m e))) (sym (and_mask (to_bits binary64 (fin true m e)) 63 ∙ c)) s
  where
    cut : (b : ℕ) → b < 2 ^ 63 → (2 ^ 63 + b) % 2 ^ 63 ≡ b
    cut b h = omega arith

inf_bits : (s : Bool) → to_bits binary64 (inf s) % 2 ^ 63 / 2 ^ 52 ≡ 2047
unfolding to_bits
inf_bits true = refl
inf_bits false = refl

inf_field : (s : Bool) → plain_bits (inf s) / 2 ^ 52 ≡ 2047
inf_field s = ap (λ (z : ℕ). z / 2 ^ 52) (and_mask (to_bits binary64 (inf s)) 63) ∙ inf_bits s

pub field_small : (x : Float) → plain_bits x / 2 ^ 52 < 2 ^ 11
field_small x = go (plain_bits x) (mask_lt (to_bits binary64 x) 63)
  where
    go : (b : ℕ) → b < 2 ^ 63 → b / 2 ^ 52 < 2 ^ 11
    go b h = omega arith

finite_field : (x : Float) → T (not (is_nan x)) → (plain_bits x / 2 ^ 52 ≡ 2047 → ⊥) → T (finite x)
unfolding is_nan
finite_field nan n k = absurd n
finite_field (inf s) n k = absurd (k (inf_field s))
finite_field (fin s m e) n k = tt

-- ---- a pattern of no digits, or with the highest field: no logarithm
suc_mag : (s : Bool) (m : ℕ) (e : ℤ) → T (fits binary64 (fin s (suc m) e)) → 0 < mag binary64 (fin s (suc m) e)
suc_mag s m e h =
    first_pos (mag binary64 (fin s (suc m) e)) (down e) (lt_of_lt_of_le (mul-pos (mul-pos (zero-lt-suc m) (up_pos e)) (pow_pos 1074)) (le_of_eq (mag_val binary64 (fin s (suc m) e) h tt).1))

pub log_zero : (x : Float) → T (fits binary64 x) → plain_bits x ≡ 0 → pos 0 ≡ floor_log2 x
unfolding floor_log2
log_zero nan h z = refl
log_zero (inf s) h z = refl
log_zero (fin s zero e) h z = refl
log_zero (fin s (suc m) e) h z =
    absurd (elim (plain_shape (fin s (suc m) e) h tt).1 [ inl p ↦ lt_irrefl 0 (lt_of_lt_of_le (suc_mag s m e h) (le_of_eq (p.1 ∙ z))) | inr p ↦ clash (plain_bits (fin s (suc m) e)) p.0 z p.1 ])
  where
    clash : (b j : ℕ) → b ≡ 0 → b / 2 ^ 52 ≡ suc j → ⊥
    clash b j z k = omega arith

pub log_top : (x : Float) → T (fits binary64 x) → plain_bits x / 2 ^ 52 ≡ 2047 → pos 0 ≡ floor_log2 x
unfolding floor_log2
log_top nan h z = refl
log_top (inf s) h z = refl
log_top (fin s zero e) h z = refl
log_top (fin s (suc m) e) h z =
    absurd (elim (plain_shape (fin s (suc m) e) h tt).1 [ inl p ↦ clash (plain_bits (fin s (suc m) e) / 2 ^ 52) z p.0 | inr p ↦ clash' (plain_bits (fin s (suc m) e) / 2 ^ 52) p.0 z p.1 p.2 ])
  where
    clash : (b : ℕ) → b ≡ 2047 → b ≡ 0 → ⊥
    clash b z k = omega arith

    clash' : (b j : ℕ) → b ≡ 2047 → b ≡ suc j → j < 2046 → ⊥
    clash' b j z k l = omega arith

pub log_nan : (x : Float) → x ≡ nan → pos 0 ≡ floor_log2 x
unfolding floor_log2
log_nan x e = rw e refl

-- ---- z is an `i64`, and the floor of the logarithm of x
abbrev pub Is : ℤ → Float → Type 0
Is z x = SFits w64 z × (to_z w64 (of_z w64 z) ≡ floor_log2 x)

is : (z : ℤ) (x : Float) (i : ℕ) → i < 2098 → z ≡ minus i 1074 → floor_log2 x ≡ minus i 1074 → Is z x
is z x i h e k =
    let f : SFits w64 z = small_fits z (subst (λ (y : ℤ). Sign.mag y < 2 ^ 12) (sym e) (minus_small i 1074 (2 ^ 12) (lt_of_lt_of_le h (lit≤ tt)) (lit< tt))) in
    (f, to_z-of_z w64 z f ∙ e ∙ sym k)

-- ---- a subnormal: its digits are its size
abbrev pub by_digits : Float → ℤ
by_digits x = negsuc 1010 -ℤ to_z w64 (count_leading_zeros 64 (plain_bits x))

count_down : (z j : ℕ) → z + suc j ≡ 64 → j < 52 → negsuc 1010 -ℤ pos z ≡ minus j 1074
count_down zero j e h = absurd (omega arith)
count_down (suc z) j e h =
    let k : j < 1074 = omega arith in
    let n : suc (1010 + z) ≡ 1074 - suc j = omega arith in
    ap negsuc n ∙ sym (minus_neg j 1074 k)

pub log_subnormal : (x : Float) → T (fits binary64 x) → T (not (is_nan x)) → plain_bits x / 2 ^ 52 ≡ 0 → (plain_bits x ≡ 0 → ⊥) → Is (by_digits x) x
log_subnormal x h v z n =
    let b = plain_bits x in
    let t = finite_field x v (λ (k : b / 2 ^ 52 ≡ 2047). clash (b / 2 ^ 52) 2046 z k) in
    let s = plain_shape x h t in
    let X : mag binary64 x ≡ b = elim s.1 [ inl p ↦ p.1 | inr p ↦ absurd (clash (b / 2 ^ 52) p.0 z p.1) ] in
    let p = leading_top 64 b (some b n) (lt_of_lt_of_le s.0 (lit≤ tt)) in
    let j = p.0 in
    let J : j < 52 = pow_lt_back j 52 (lt_of_le_of_lt p.2 (below b z)) in
    is (by_digits x) x j (lt_of_lt_of_le J (lit≤ tt))
    (ap (λ (y : ℤ). negsuc 1010 -ℤ y) (to_z_pos w64 (count_leading_zeros 64 b) (lt_of_le_of_lt (leading_le 64 b) (lit< tt))) ∙ count_down (count_leading_zeros 64 b) j p.1 J)
    (log_of binary64 x h t j (le_trans p.2 (le_of_eq (sym X))) (lt_of_le_of_lt (le_of_eq X) p.3))
  where
    clash : (f j : ℕ) → f ≡ 0 → f ≡ suc j → ⊥
    clash f j z k = omega arith

    some : (b : ℕ) → (b ≡ 0 → ⊥) → 0 < b
    some b n = omega arith

    below : (b : ℕ) → b / 2 ^ 52 ≡ 0 → b < 2 ^ 52
    below b z = omega arith

-- ---- a normal value: the field
abbrev pub by_field : Float → ℤ
by_field x = to_z w64 (plain_bits x / 2 ^ 52) -ℤ pos 1023

count_up : (F j : ℕ) → F ≡ suc j → pos F -ℤ pos 1023 ≡ minus (52 + j) 1074
count_up F j e = let n : F + 1074 ≡ 52 + j + 1023 = omega arith in sub_is_minus F 1023 ∙ minus_same F 1023 (52 + j) 1074 n

-- 53 digits, and j places more
pub digits_power : (t j : ℕ) → t < 2 ^ 52 → (2 ^ (52 + j) ≤ (2 ^ 52 + t) * 2 ^ j) × ((2 ^ 52 + t) * 2 ^ j < 2 ^ suc (52 + j))
digits_power t j h =
    let a : 2 ^ 52 ≤ 2 ^ 52 + t = omega arith in
    let b : 2 ^ 52 + t < 2 ^ 53 = omega arith in
    (le_trans (le_of_eq (pow-add 2 52 j)) (mul-le-mul_right (2 ^ j) a), lt_of_lt_of_le (mul-lt-mul_of_pos_right b (pow_pos j)) (le_of_eq (sym (pow_suc_add 52 j))))

pub log_digits : (x : Float) (t j : ℕ) → T (fits binary64 x) → T (finite x) → t < 2 ^ 52 → mag binary64 x ≡ (2 ^ 52 + t) * 2 ^ j → floor_log2 x ≡ minus (52 + j) 1074
log_digits x t j h f l X =
    let d = digits_power t j l in
    log_of binary64 x h f (52 + j) (le_trans d.0 (le_of_eq (sym X))) (lt_of_le_of_lt (le_of_eq X) d.1)

pub log_normal : (x : Float) → T (fits binary64 x) → T (not (is_nan x)) → (plain_bits x / 2 ^ 52 ≡ 0 → ⊥) → (plain_bits x / 2 ^ 52 ≡ 2047 → ⊥) → Is (by_field x) x
log_normal x h v n k =
    let b = plain_bits x in
    let t = finite_field x v k in
    elim (plain_shape x h t).1 [
      | inl p ↦ absurd (n p.0)
      | inr p ↦
          is (by_field x) x (52 + p.0) (room p.0 p.2)
          (ap (λ (y : ℤ). y -ℤ pos 1023) (to_z_pos w64 (b / 2 ^ 52) (lt_of_lt_of_le (field_small x) (lit≤ tt))) ∙ count_up (b / 2 ^ 52) p.0 p.1)
          (log_digits x (b % 2 ^ 52) p.0 h t (mod-lt b (pow_pos 52)) p.3)
    ]
  where
    room : (j : ℕ) → j < 2046 → 52 + j < 2098
    room j h = omega arith
