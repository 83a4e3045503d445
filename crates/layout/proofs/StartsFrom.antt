-- The starts of parts: each is the sum of the counts before it, or 24 where that is more.
use Prim.Native.Nat.{ℕ, zero, suc, ◌+◌, ◌<◌, ◌≤◌, min}
use mathlib.Core.Path.{◌≡◌, refl, sym, ap, ◌∙◌}
use mathlib.Core.List.{List, [], ◌∷◌, map}
use native.Mathlib.Nat.{zero-add}
use native.Mathlib.Numerals.{add-one}
use native.Mathlib.Omega.{arith}
use lib.ListN.{length, get_or, take, set, replicate, length-map, length-take}
use Rattle.std.proofs.lemmas.List.{length-replicate, take-map}
use Rattle.lists.specs.Lists.{total}
use Rattle.lists.proofs.Takes.{take_min}
use Rattle.lists.proofs.Fill.{Filled, fill_none, fill_more}
use Rattle.layout.specs.Steps.Starts.{starts_from}

pub starts_length : (s : ℕ) (cs : List ℕ) → length (starts_from s cs) ≡ suc (length cs)
starts_length s [] = refl
starts_length s (c ∷ cs) = ap suc (starts_length (min (s + c) 24) cs)

pub starts_first : (s : ℕ) (cs : List ℕ) → get_or (starts_from s cs) 0 0 ≡ s
starts_first s [] = refl
starts_first s (c ∷ cs) = refl

-- a count further
pub starts_next : (s : ℕ) (cs : List ℕ) (i : ℕ) → i < length cs → get_or (starts_from s cs) (suc i) 0 ≡ min (get_or (starts_from s cs) i 0 + get_or cs i 0) 24
starts_next s [] i h = absurd (omega arith)
starts_next s (c ∷ cs) zero h = starts_first (min (s + c) 24) cs
starts_next s (c ∷ cs) (suc i) h = starts_next (min (s + c) 24) cs i (omega arith)

-- k counts further
pub starts_total : (s : ℕ) (cs : List ℕ) (k : ℕ) → s ≤ 24 → k ≤ length cs → get_or (starts_from s cs) k 0 ≡ min (s + total (take k cs)) 24
starts_total s [] zero h k≤ = omega arith
starts_total s [] (suc k) h k≤ = absurd (omega arith)
starts_total s (c ∷ cs) zero h k≤ = omega arith
starts_total s (c ∷ cs) (suc k) h k≤ = starts_total (min (s + c) 24) cs k (omega arith) (omega arith) ∙ omega arith

pub starts_most : (cs : List ℕ) (k : ℕ) → k ≤ length cs → get_or (starts_from 0 cs) k 0 ≤ 24
starts_most cs k h = omega (arith, starts_total 0 cs k (omega arith) h)

-- the start behind the first k parts of n is how many entries these parts have, of 24 that there are
pub starts_used : {A B : Type 0} (f : A → ℕ) (n k : ℕ) (xs : List A) (ys : List B) → length xs ≡ n → length ys ≡ 24 → get_or (starts_from 0 (map f xs)) (min k n) 0 ≡ length (take (total (map f (take k xs))) ys)
starts_used f n k xs ys p q =
    let l : length (map f xs) ≡ n = length-map xs f ∙ p in
    let t = starts_total 0 (map f xs) (min k n) (omega arith) (omega arith) in
    rw (take_min k n (map f xs) (omega arith), take-map f k xs, zero-add) at t ∙ rw (← q) (sym (length-take _ ys))

-- ---- the loop that writes the starts of parts: the first i + 1 are written, and s is the last of them
pub record Started (cs out : List ℕ) (s i : ℕ) : Type 0 where
  pub last : s ≡ get_or (starts_from 0 cs) i 0
  pub written : Filled (length cs + 1) (starts_from 0 cs) out (i + 1)

module _ (cs : List ℕ) where
  long_enough : length (starts_from 0 cs) ≡ length cs + 1
  long_enough = rw add-one (starts_length 0 cs)

  -- before the loop there are zeros alone
  pub start_none : (n : ℕ) → n ≡ length cs + 1 → Started cs (replicate n 0) 0 0
  start_none n p =
      let first : replicate {A = ℕ} n 0 ≡ set (replicate {A = ℕ} n 0) 0 0 = rw (p, add-one) in
      record {
        last = sym (starts_first 0 cs);
        written = rw first (fill_more (length cs + 1) (starts_from 0 cs) (replicate n 0) 0 0 0 (fill_none _ _ _ long_enough (length-replicate n 0 ∙ p)) (omega arith) (sym (starts_first 0 cs)));
      }

  pub start_more : (out : List ℕ) (s i c t : ℕ) → Started cs out s i → i < length cs → c ≡ get_or cs i 0 → t ≡ min (s + c) 24 → Started cs (set out (i + 1) t) t (i + 1)
  start_more out s i c t w h p q =
      let next : t ≡ get_or (starts_from 0 cs) (i + 1) 0 = rw (q, w.last, p, add-one) (sym (starts_next 0 cs i h)) in
      record { last = next; written = fill_more (length cs + 1) (starts_from 0 cs) out (i + 1) 0 t w.written (omega arith) next }
