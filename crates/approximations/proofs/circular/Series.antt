-- What the proofs of `sine` and `cosine` cite: the series from one entry of the list on, and that the entries are doubles. Assumes nothing.
use Rattle.std.proofs.Common.{◌≡◌, ℕ, zero, suc, ◌-◌, ◌^◌, ◌<◌, ◌≤◌, Bool, true, false, cond, T, leb, List, [], ◌∷◌, length, get_or, take, ◌++◌, refl, sym, ap, ◌∙◌, append_assoc, zero-le, arith, leb→le}
use lib.Seq.{take-suc}
use Rattle.std.proofs.lemmas.List.{take_all}
use lib.Ieee.{Float, binary64, le, round, div, of_int, of_bits}
use lib.Ieee.Fits.{and_l, and_r}
use Rattle.doubles.specs.Arithmetic.{◌⊖◌, ◌⊗◌}
use Rattle.approximations.specs.Circular.{inverse, series, exact, H, half_h, complement_of}

-- ---- an entry of a list whose entries are doubles
pub entry_exact : (ks : List ℕ) → T (exact ks) → (i : ℕ) → get_or ks i 0 ≤ 2 ^ 53
entry_exact [] t i = zero-le
entry_exact (k ∷ ks) t zero = leb→le k (2 ^ 53) (and_l (leb k (2 ^ 53)) (exact ks) t)
entry_exact (k ∷ ks) t (suc i) = entry_exact ks (and_r (leb k (2 ^ 53)) (exact ks) t) i

entry_within : (xs : List ℕ) (f : ℕ) (ys : List ℕ) → T (exact (xs ++ (f ∷ ys))) → f ≤ 2 ^ 53
entry_within [] f ys t = leb→le f (2 ^ 53) (and_l (leb f (2 ^ 53)) (exact ys) t)
entry_within (x ∷ xs) f ys t = entry_within xs f ys (and_r (leb x (2 ^ 53)) (exact (xs ++ (f ∷ ys))) t)

-- r is the series of the entries behind rest, which is where the list begins
pub record Behind (y : Float) (ks rest : List ℕ) (r : Float) : Type 0 where
  pub k : ℕ
  pub later : List ℕ
  pub all : rest ++ (k ∷ later) ≡ ks
  pub so_far : r ≡ series y (k ∷ later)

pub series_last : (y : Float) (ks rest : List ℕ) → 0 < length ks → rest ≡ take (length ks - 1) ks → Behind y ks rest (inverse (get_or ks (length ks - 1) 0))
unfolding series
series_last y ks rest h e =
    let n = length ks - 1 in
    let s : suc n ≡ length ks = omega arith in
    record { k = get_or ks n 0; later = []; all = ap (λ (xs : List ℕ). xs ++ (get_or ks n 0 ∷ [])) e ∙ sym (take-suc ks n 0 (omega arith)) ∙ take_all (suc n) ks (omega arith); so_far = refl }

-- ---- a step of the loop, where f is the last of rest
module _ (y : Float) (ks rest front : List ℕ) (f : ℕ) (r : Float) (b : Behind y ks rest r) (e : rest ≡ front ++ (f ∷ [])) where
  back : front ++ (f ∷ (b.k ∷ b.later)) ≡ ks
  back = sym (append_assoc front (f ∷ []) (b.k ∷ b.later)) ∙ ap (λ (xs : List ℕ). xs ++ (b.k ∷ b.later)) (sym e) ∙ b.all

  pub series_step : Behind y ks front (inverse f ⊖ y ⊗ r)
  unfolding series
  series_step = record { k = f; later = b.k ∷ b.later; all = back; so_far = ap (λ (z : Float). inverse f ⊖ y ⊗ z) b.so_far }

  pub step_exact : T (exact ks) → f ≤ 2 ^ 53
  step_exact t = entry_within front f (b.k ∷ b.later) (rw (← back) at t)

pub series_all : (y : Float) (ks rest : List ℕ) (r : Float) → Behind y ks rest r → length rest ≡ 0 → r ≡ series y ks
series_all y ks [] r b h = b.so_far ∙ ap (series y) b.all
series_all y ks (x ∷ rest) r b h = absurd (omega arith)

-- ---- the code's constants
pub H_is : of_bits binary64 0x3ff921fb54442d18 ≡ H
unfolding of_bits round
H_is = refl

pub half_h_is : of_bits binary64 0x3fe921fb54442d18 ≡ half_h
unfolding of_bits round div of_int
half_h_is = refl

-- ---- one series up to H / 2, the other at the complement beyond
passed : {t u : Bool} (x y : Float) → t ≡ u → t ≡ true → x ≡ cond u x y
passed x y e t = rw (← e, t)

failed : {t u : Bool} (x y : Float) → t ≡ u → t ≡ false → y ≡ cond u x y
failed x y e t = rw (← e, t)

pub low : {t : Bool} (S C : Float → Float) (a : Float) → t ≡ le a half_h → t ≡ true → S a ≡ cond (le a half_h) (S a) (C (complement_of a))
low S C a e t = passed (S a) (C (complement_of a)) e t

pub high : {t : Bool} (S C : Float → Float) (a b : Float) → t ≡ le a half_h → t ≡ false → b ≡ complement_of a → C b ≡ cond (le a half_h) (S a) (C (complement_of a))
high S C a b e t l = ap C l ∙ failed (S a) (C (complement_of a)) e t
