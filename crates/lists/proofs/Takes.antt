-- Counts that a list's length bounds, and functions on a list's first entries.
use Prim.Native.Nat.{ℕ, zero, suc, ◌≤◌, min}
use mathlib.Core.Path.{◌≡◌, ap}
use mathlib.Core.List.{List, [], ◌∷◌}
use native.Mathlib.Omega.{arith}
use native.Mathlib.Numerals.{unary_clauses}
use lib.ListN.{length, take}
use lib.Seq.{take-nil}

-- the first n are the first of those that there are
pub take_min : {A : Type 0} (n m : ℕ) (l : List A) → length l ≤ m → take (min n m) l ≡ take n l
take_min zero m l h = simp unary_clauses
take_min (suc n) m [] h = take-nil (min (suc n) m)
take_min (suc n) zero (x ∷ xs) h = absurd (omega arith)
take_min {A} (suc n) (suc m) (x ∷ xs) h = simp unary_clauses (ap (λ (l : List A). x ∷ l) (take_min n m xs (omega arith)))
