-- The sum over the samples as the code works it out: the products that count, their powers, and the powers' sum. Definitions only.
use Rattle.std.specs.Prelude.{ℕ, zero, suc, Bool, ◌&&◌, not, cond, List, [], ◌∷◌, ◌++◌, Float}
use Rattle.std.specs.Float.Ieee.{lt, le}
use Rattle.std.specs.List.{fold}
use Rattle.doubles.specs.Arithmetic.{◌⊕◌, ◌⊗◌, zero64}

-- whether a sample with kernel k and response r adds something
abbrev pub counts : Float → Float → Bool
counts k r = not (le k zero64) && lt zero64 (k ⊗ r)

-- the products that count among the first samples
unfoldable pub products_of : (ℕ → Float) → (ℕ → Float) → ℕ → List Float
products_of kernel response zero = []
products_of kernel response (suc s) =
    cond (counts (kernel s) (response s)) (products_of kernel response s ++ (kernel s ⊗ response s ∷ [])) (products_of kernel response s)

-- x and the numbers of a list, added from the left
abbrev pub sum_from : Float → List Float → Float
sum_from x ys = fold (λ (sum y : Float). sum ⊕ y) x ys
