-- Sums that stop at a largest value.
use Prim.Native.Nat.{ℕ, ◌+◌, ◌≤◌, min}
use mathlib.Core.Path.{◌≡◌, ◌∙◌}
use mathlib.Core.List.{List, [], ◌∷◌, map}
use native.Mathlib.Omega.{arith}
use Rattle.std.specs.List.{fold}
use Rattle.lists.specs.Lists.{total}

-- counts are added one by one, and none leads past m
pub fold_up_to : {A : Type 0} (f : A → ℕ) (m : ℕ) (xs : List A) (s : ℕ) → s ≤ m → fold (λ (n : ℕ) (x : A). min (n + f x) m) s xs ≡ min (s + total (map f xs)) m
fold_up_to f m [] s h = omega arith
fold_up_to f m (x ∷ xs) s h = fold_up_to f m xs (min (s + f x) m) (omega arith) ∙ omega arith
