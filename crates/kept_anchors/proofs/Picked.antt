-- Those of a list whose flags are set.
use Prim.Native.Nat.{ℕ, zero, suc, ◌≤◌}
use mathlib.Core.Path.{◌≡◌, refl, ap}
use mathlib.Core.Bool.{Bool, true, false, cond}
use mathlib.Core.List.{List, [], ◌∷◌, map}
use native.Mathlib.Omega.{arith}
use lib.ListN.{length, take}
use Rattle.std.specs.List.{filter}
use Rattle.kept_anchors.specs.Steps.Kept.{picked}

-- those that pass a test are picked by it
pub filter_picked : {A : Type 0} (p : A → Bool) (xs : List A) → filter p xs ≡ picked (map p xs) xs
filter_picked p [] = refl
filter_picked {A = A} p (x ∷ xs) = ap (λ (l : List A). cond (p x) (x ∷ l) l) (filter_picked p xs)

pub none_picked : {A : Type 0} (bs : List Bool) → picked {A = A} bs [] ≡ []
none_picked [] = refl
none_picked (b ∷ bs) = refl

pub map_picked : {A B : Type 0} (f : A → B) (bs : List Bool) (xs : List A) → map f (picked bs xs) ≡ picked bs (map f xs)
map_picked f [] xs = refl
map_picked f (b ∷ bs) [] = refl
map_picked {B = B} f (true ∷ bs) (x ∷ xs) = ap (λ (l : List B). f x ∷ l) (map_picked f bs xs)
map_picked f (false ∷ bs) (x ∷ xs) = map_picked f bs xs

-- flags past the list say nothing
pub picked_take : {A : Type 0} (n : ℕ) (bs : List Bool) (xs : List A) → length xs ≤ n → picked bs xs ≡ picked (take n bs) xs
picked_take zero [] [] h = refl
picked_take zero (b ∷ bs) [] h = refl
picked_take zero bs (x ∷ xs) h = absurd (omega arith)
picked_take (suc n) [] xs h = refl
picked_take (suc n) (b ∷ bs) [] h = refl
picked_take {A = A} (suc n) (true ∷ bs) (x ∷ xs) h = ap (λ (l : List A). x ∷ l) (picked_take n bs xs (omega arith))
picked_take (suc n) (false ∷ bs) (x ∷ xs) h = picked_take n bs xs (omega arith)

pub picked_most : {A : Type 0} (bs : List Bool) (xs : List A) → length (picked bs xs) ≤ length xs
picked_most [] xs = omega arith
picked_most (b ∷ bs) [] = omega arith
picked_most (true ∷ bs) (x ∷ xs) = omega (arith, picked_most bs xs)
picked_most (false ∷ bs) (x ∷ xs) = omega (arith, picked_most bs xs)
