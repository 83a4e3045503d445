-- Rows filled one after another. Assumes nothing.
use Prim.Native.Nat.{ℕ, ◌+◌, ◌≤◌, ◌<◌}
use mathlib.Core.Path.{◌≡◌, refl, ◌∙◌}
use mathlib.Core.Bool.{Bool, true, false}
use mathlib.Core.List.{List, []}
use native.Mathlib.Omega.{arith}
use borrow.Author.Tests.{ltb-true, ltb-false}
use lib.Dec.{ltb}
use lib.Ieee.{Float}
use lib.ListN.{length, get_or, set, length-set}
use lib.Seq.{get_or-set_same, get_or-set_other}

-- the first s of n rows are those of F, and the rest are as at the start
pub record Filled (F : ℕ → List Float) (start : List Float) (n s : ℕ) (rows : List (List Float)) : Type 0 where
  pub size : length rows ≡ n
  pub done : (i : ℕ) → i < s → get_or rows i [] ≡ F i
  pub left : (i : ℕ) → s ≤ i → i < n → get_or rows i [] ≡ start

module _ (F : ℕ → List Float) (start : List Float) (n : ℕ) where
  pub filled_more : (s : ℕ) (rows : List (List Float)) (row : List Float) → s < n → row ≡ F s → Filled F start n s rows → Filled F start n (s + 1) (set rows s row)
  filled_more s rows row h e f =
      let z = f.size in
      record {
        size = length-set rows s row ∙ f.size;
        done = λ i l. at i l (ltb i s) refl;
        left = λ i l m. get_or-set_other rows s i row [] (λ w. absurd (omega arith)) ∙ f.left i (omega arith) m;
      }
    where
      at : (i : ℕ) → i < s + 1 → (b : Bool) → ltb i s ≡ b → get_or (set rows s row) i [] ≡ F i
      at i l true q =
          let k : i < s = ltb-true i s q in
          get_or-set_other rows s i row [] (λ w. absurd (omega arith)) ∙ f.done i k
      at i l false q =
          let k : s ≤ i = ltb-false i s q in
          let z : i ≡ s = omega arith in
          rw z (get_or-set_same rows s row [] (omega (arith, f.size)) ∙ e)
