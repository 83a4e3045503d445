-- Laws of columns: what equal patterns say of the numbers, and what is found. Assumes nothing.
use Prim.Native.Nat.{ℕ, zero, suc, ◌+◌, ◌≤◌, ◌<◌, zero-le}
use mathlib.Core.Path.{◌≡◌, refl, sym, ap, ◌∙◌}
use mathlib.Core.Bool.{Bool, true, false, ◌&&◌, cond}
use mathlib.Core.List.{List, [], ◌∷◌}
use native.Mathlib.Omega.{arith}
use borrow.Author.Tests.{eqb-true, ltb-true, ltb-false}
use lib.Dec.{T, eqb, ltb}
use lib.Ieee.{Float, nan, binary64, fits, of_bits}
use lib.Ieee.Bits.{of_bits-to_bits}
use lib.ListN.{length, get_or}
use Rattle.std.specs.List.{list_all, find, range_with_len, zip, position_from}
use Rattle.std.specs.Prelude.{Option, Some, unwrap_or}
use Rattle.std.proofs.lemmas.Bool.{and_parts}
use Rattle.field.specs.Tables.{sampled_over}
use Rattle.field.specs.Steps.Columns.{in_columns, Doubles, pattern_at, same_column, same_channels, first_same, Firsts}
use Rattle.field.proofs.Tables.{sampled_cong}

-- what a test says that holds on a range
all_says : (p : ℕ → Bool) (s left t : ℕ) → list_all p (range_with_len s left) ≡ true → s ≤ t → t < s + left → p t ≡ true
all_says p s zero t h a b = absurd (omega arith)
all_says p s (suc left) t h a b = at (all_says p (s + 1) left t q.1) (ltb s t) refl
  where
    q : (p s ≡ true) × (list_all p (range_with_len (s + 1) left) ≡ true)
    q = and_parts (p s) (list_all p (range_with_len (s + 1) left)) h

    at : (s + 1 ≤ t → t < s + 1 + left → p t ≡ true) → (x : Bool) → ltb s t ≡ x → p t ≡ true
    at more true e =
        let l : s < t = ltb-true s t e in
        more (omega arith) (omega arith)
    at more false e =
        let l : t ≤ s = ltb-false s t e in
        let u : t ≡ s = omega arith in
        rw u q.0

-- what holds of the pairs of two lists holds by place, from i on
pub all_pairs : {A : Type 0} (p : A × A → Bool) (q : ℕ → Bool) (d : A) (i : ℕ) (xs ys : List A) → length xs ≡ length ys → ((k j : ℕ) → k ≡ i + j → j < length xs → q k ≡ p (get_or xs j d, get_or ys j d)) →
    list_all p (zip xs ys) ≡ list_all q (range_with_len i (length xs))
all_pairs p q d i [] ys l h = refl
all_pairs p q d i (x ∷ xs) [] l h = absurd (omega (arith, l))
all_pairs p q d i (x ∷ xs) (y ∷ ys) l h = λ t. sym (h i 0 (omega arith) (omega arith)) t && all_pairs p q d (i + 1) xs ys (omega (arith, l)) (λ k j e m. h k (suc j) (omega (arith, e)) (omega (arith, m))) t

-- the first place in a list, from i on, is the first in the range of its places
pub position_in : {A : Type 0} (p : A → Bool) (q : ℕ → Bool) (d : A) (i : ℕ) (xs : List A) → ((k j : ℕ) → k ≡ i + j → j < length xs → q k ≡ p (get_or xs j d)) →
    position_from p i xs ≡ find q (range_with_len i (length xs))
position_in p q d i [] h = refl
position_in p q d i (x ∷ xs) h = λ t. cond (sym (h i 0 (omega arith) (omega arith)) t) (Some i) (position_in p q d (i + 1) xs (λ k j e m. h k (suc j) (omega (arith, e)) (omega (arith, m))) t)

-- equal patterns of doubles are equal doubles
same_column_lem : (c : ℕ) (a b : List Float) → ((s : ℕ) → s < c → T (fits binary64 (get_or a s nan))) → ((s : ℕ) → s < c → T (fits binary64 (get_or b s nan))) → same_column c a b ≡ true → (s : ℕ) → s < c → get_or a s nan ≡ get_or b s nan
same_column_lem c a b f g h s l =
    sym (of_bits-to_bits binary64 (get_or a s nan) (f s l))
    ∙ ap (of_bits binary64) (eqb-true (pattern_at a s) (pattern_at b s) (all_says (λ (i : ℕ). eqb (pattern_at a i) (pattern_at b i)) 0 c s h zero-le l'))
    ∙ of_bits-to_bits binary64 (get_or b s nan) (g s l)
  where
    l' : s < 0 + c
    l' = omega arith

-- what is found in a range passes the test, or is its end
abbrev Found : (ℕ → Bool) → ℕ → ℕ → Type 0
Found p k f = (f ≤ k) × (f < k → p f ≡ true)

find_says : (p : ℕ → Bool) (k j left : ℕ) → j + left ≡ k → Found p k (unwrap_or (find p (range_with_len j left)) k)
find_says p k j zero h = (omega arith, λ l. absurd (omega arith))
find_says p k j (suc left) h = at _ (find_says p k (j + 1) left (omega arith)) (p j) refl
  where
    at : (o : Option ℕ) → Found p k (unwrap_or o k) → (b : Bool) → p j ≡ b → Found p k (unwrap_or (cond b (Some j) o) k)
    at o later true e = (omega arith, λ l. e)
    at o later false e = later

-- channel k has the number of the first channel with its column
pub first_number : (columns : List (List Float)) (c n k : ℕ) (firsts : List ℕ) (K : ℕ → Float) (e : Float) → Doubles (in_columns columns) c n → Firsts columns c n firsts → k < n → get_or firsts k 0 < k →
    sampled_over K (λ (s : ℕ). in_columns columns s (get_or firsts k 0)) e c ≡ sampled_over K (λ (s : ℕ). in_columns columns s k) e c
first_number columns c n k firsts K e f h l b =
    let j = first_same c columns k in
    let q : get_or firsts k 0 ≡ j = h.values k l in
    let b' : j < k = rw (← q) b in
    rw q
    (sampled_cong K K (λ (s : ℕ). in_columns columns s j) (λ (s : ℕ). in_columns columns s k) e c (λ (s : ℕ) (m : s < c). refl)
    (same_column_lem c (get_or columns j []) (get_or columns k []) (λ s m. f s j m (omega arith)) (λ s m. f s k m l)
    ((find_says (λ (i : ℕ). same_channels c columns i k) k 0 k (omega arith)).1 b')))
