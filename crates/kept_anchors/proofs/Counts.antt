-- How many flags are set.
use Prim.Native.Nat.{◌+◌}
use mathlib.Core.Path.{◌≡◌, refl, sym}
use mathlib.Core.Bool.{Bool, true, false, cond}
use mathlib.Core.List.{List, [], ◌∷◌}
use native.Mathlib.Omega.{arith}
use lib.ListN.{length}
use Rattle.std.specs.List.{count_by}
use Rattle.std.proofs.lemmas.List.Recursion.{is_count_by}
use Rattle.kept_anchors.specs.Steps.Kept.{count_set, picked}

pub count_set_is : (bs : List Bool) → count_by (λ (b : Bool). b) bs ≡ count_set bs
count_set_is bs = sym (is_count_by count_set (λ (b : Bool). b) refl step bs)
  where
    step : (b : Bool) (bs : List Bool) → count_set (b ∷ bs) ≡ cond b (1 + count_set bs) (count_set bs)
    step true bs = refl
    step false bs = omega arith

-- as many as are picked by them
pub count_picked : {A : Type 0} (bs : List Bool) (xs : List A) → length xs ≡ length bs → length (picked bs xs) ≡ count_set bs
count_picked [] [] h = refl
count_picked [] (x ∷ xs) h = refl
count_picked (b ∷ bs) [] h = absurd (omega arith)
count_picked (true ∷ bs) (x ∷ xs) h = omega (arith, count_picked bs xs (omega arith))
count_picked (false ∷ bs) (x ∷ xs) h = omega (arith, count_picked bs xs (omega arith))
