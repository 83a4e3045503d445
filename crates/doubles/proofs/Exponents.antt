-- Exponents of two: the difference of two numbers as an integer, and that one power of two at most is the highest in a number. Assumes nothing.
use Rattle.std.proofs.Common.{◌≡◌, ℕ, suc, ◌+◌, ◌-◌, ◌*◌, ◌^◌, ◌<◌, ◌≤◌, Bool, cond, T, ltb, leb, ◌⊎◌, ℤ, pos, negsuc, ◌+ℤ◌, sym, ap, ◌∙◌, subst, inl, inr, lt_of_lt_of_le, lt_of_le_of_lt, lt_irrefl, lt_of_not-le, arith, lit≤, le→leb, lt→ltb, pow_mono, pow-add, w64, SFits}
use Rattle.std.proofs.lemmas.Bool.{cases_lt}
use lib.IntN.{suc_ℤ, sub_ℕ, +ℤ_one}
use lib.Signed.{mag}
use lib.Arith.{lt→nleb, le→nltb}
use lib.Ieee.{binary64, minus, in_float}
use lib.Ieee.Bits.{is_true, cond_no}

pub cond_yes : {X : Type 0} (b : Bool) (x y : X) → T b → cond b x y ≡ x
cond_yes b x y h = rw (is_true b h)

-- ---- a - b
pub minus_neg : (a b : ℕ) → a < b → minus a b ≡ negsuc (b - suc a)
minus_neg a b h = cond_no (leb b a) (pos (a - b)) (negsuc (b - suc a)) (lt→nleb b a h)

pub minus_pos : (a b : ℕ) → b ≤ a → minus a b ≡ pos (a - b)
minus_pos a b h = cond_yes (leb b a) (pos (a - b)) (negsuc (b - suc a)) (le→leb b a h)

pub sub_is_minus : (a b : ℕ) → sub_ℕ a b ≡ minus a b
sub_is_minus a b = go (cases_lt a b)
  where
    go : (a < b) ⊎ (b ≤ a) → sub_ℕ a b ≡ minus a b
    go (inl h) = cond_yes (ltb a b) (negsuc (b - suc a)) (pos (a - b)) (lt→ltb a b h) ∙ sym (minus_neg a b h)
    go (inr h) = cond_no (ltb a b) (negsuc (b - suc a)) (pos (a - b)) (le→nltb a b h) ∙ sym (minus_pos a b h)

pub minus_same : (a b c d : ℕ) → a + d ≡ c + b → minus a b ≡ minus c d
minus_same a b c d e = go (cases_lt a b)
  where
    go : (a < b) ⊎ (b ≤ a) → minus a b ≡ minus c d
    go (inl h) =
        let k : c < d = omega arith in
        let n : b - suc a ≡ d - suc c = omega arith in
        minus_neg a b h ∙ ap negsuc n ∙ sym (minus_neg c d k)
    go (inr h) =
        let k : d ≤ c = omega arith in
        let n : a - b ≡ c - d = omega arith in
        minus_pos a b h ∙ ap pos n ∙ sym (minus_pos c d k)

pub minus_suc : (a b : ℕ) → minus a b +ℤ pos 1 ≡ minus (suc a) b
minus_suc a b = +ℤ_one (minus a b) ∙ go (cases_lt a b) (cases_lt (suc a) b)
  where
    go : (a < b) ⊎ (b ≤ a) → (suc a < b) ⊎ (b ≤ suc a) → suc_ℤ (minus a b) ≡ minus (suc a) b
    go (inl h) (inl k) =
        let n : b - suc a ≡ suc (b - suc (suc a)) = omega arith in
        ap suc_ℤ (minus_neg a b h ∙ ap negsuc n) ∙ sym (minus_neg (suc a) b k)
    go (inl h) (inr k) =
        let n : b - suc a ≡ 0 = omega arith in
        let m : 0 ≡ suc a - b = omega arith in
        ap suc_ℤ (minus_neg a b h ∙ ap negsuc n) ∙ ap pos m ∙ sym (minus_pos (suc a) b k)
    go (inr h) k =
        let l : b ≤ suc a = omega arith in
        let n : suc (a - b) ≡ suc a - b = omega arith in
        ap suc_ℤ (minus_pos a b h) ∙ ap pos n ∙ sym (minus_pos (suc a) b l)

-- ---- a small integer fits an `i64`, and casts to a double
pub minus_small : (a b n : ℕ) → a < n → b < n → mag (minus a b) < n
minus_small a b n h k = go (cases_lt a b)
  where
    go : (a < b) ⊎ (b ≤ a) → mag (minus a b) < n
    go (inl l) = let m : b - suc a < n = omega arith in subst (λ (z : ℤ). mag z < n) (sym (minus_neg a b l)) m
    go (inr l) = let m : a - b < n = omega arith in subst (λ (z : ℤ). mag z < n) (sym (minus_pos a b l)) m

pub small_fits : (z : ℤ) → mag z < 2 ^ 12 → SFits w64 z
small_fits z h = record { sfits = lt_of_lt_of_le h (lit≤ tt) }

pub small_in_float : (z : ℤ) → mag z < 2 ^ 12 → T (in_float binary64 z)
unfolding in_float
small_in_float (pos n) h = le→leb n (2 ^ 53) (omega arith)
small_in_float (negsuc n) h = lt→ltb n (2 ^ 53) (lt_of_lt_of_le h (lit≤ tt))

-- ---- 2 ^ i ≤ a < 2 ^ (i + 1) of one i only
pub pow_suc_add : (a b : ℕ) → 2 ^ suc (a + b) ≡ 2 ^ suc a * 2 ^ b
pow_suc_add a b = let n : suc (a + b) ≡ suc a + b = omega arith in ap (λ (z : ℕ). 2 ^ z) n ∙ pow-add 2 (suc a) b

pub pow_lt_back : (i p : ℕ) → 2 ^ i < 2 ^ p → i < p
pow_lt_back i p h = lt_of_not-le (λ (g : p ≤ i). lt_irrefl (2 ^ i) (lt_of_lt_of_le h (pow_mono g)))

pub one_power : (i n a : ℕ) → 2 ^ i ≤ a → a < 2 ^ suc i → 2 ^ n ≤ a → a < 2 ^ suc n → i ≡ n
one_power i n a lo hi lo' hi' =
    let h : i < suc n = pow_lt_back i (suc n) (lt_of_le_of_lt lo hi') in
    let k : n < suc i = pow_lt_back n (suc i) (lt_of_le_of_lt lo' hi) in
    omega arith
