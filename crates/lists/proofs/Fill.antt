-- A loop that writes an array of n entries from the front, so that it becomes the list l.
use Prim.Native.Nat.{ℕ, ◌+◌, ◌<◌, ◌≤◌}
use mathlib.Core.Path.{◌≡◌, refl, sym, ◌∙◌}
use mathlib.Core.List.{List, map}
use native.Mathlib.Numerals.{add-one}
use native.Mathlib.Omega.{arith}
use lib.ListN.{length, take, set, get_or, length-set, get_or-map}
use lib.Seq.{take-suc, take-suc-set, take_all}

-- the first i entries are written
pub record Filled {A : Type 0} (n : ℕ) (l out : List A) (i : ℕ) : Type 0 where
  pub asked : length l ≡ n
  pub room : length out ≡ n
  pub same : take i out ≡ take i l

module _ {A : Type 0} (n : ℕ) (l out : List A) where
  pub fill_none : length l ≡ n → length out ≡ n → Filled n l out 0
  fill_none p q = record { asked = p; room = q; same = refl }

  -- a turn writes one more
  pub fill_more : (i : ℕ) (d a : A) → Filled n l out i → i < n → a ≡ get_or l i d → Filled n l (set out i a) (i + 1)
  fill_more i d a w h q =
      let j : i < length out = omega arith in
      let k : i < length l = omega arith in
      record {
        asked = w.asked;
        room = length-set out i a ∙ w.room;
        same = rw (add-one, take-suc-set out i a j, take-suc l i d k, w.same, q);
      }

  -- at the end all are written
  pub fill_done : (i : ℕ) → Filled n l out i → n ≤ i → out ≡ l
  fill_done i w h = sym (take_all i out (omega arith)) ∙ w.same ∙ take_all i l (omega arith)

-- one more, where a function makes l from a list that the loop reads
pub fill_map : {A B : Type 0} (f : A → B) (n : ℕ) (xs : List A) (out : List B) (i : ℕ) (d : A) → Filled n (map f xs) out i → i < n → Filled n (map f xs) (set out i (f (get_or xs i d))) (i + 1)
fill_map f n xs out i d w h = fill_more n (map f xs) out i (f d) (f (get_or xs i d)) w h (sym (get_or-map f xs i d))
