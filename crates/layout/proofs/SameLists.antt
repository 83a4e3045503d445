-- Laws on `all_same`, by laws of the relation.
use mathlib.Core.Path.{◌≡◌, refl, ap₂}
use mathlib.Core.Bool.{Bool, true}
use mathlib.Core.List.{List, [], ◌∷◌, map}
use lib.Dec.{T}
use mir.Facts.{and_yes}
use Rattle.lists.specs.Lists.{all_same}
use Rattle.std.specs.List.{list_all}

pub all_true : {A : Type 0} (xs : List A) → T (list_all (λ (x : A). true) xs)
all_true [] = tt
all_true (x ∷ xs) = all_true xs

module _ {A : Type 0} (r : A → A → Bool) where
  -- what the relation keeps is equal as a list
  pub all_same_equal : {B : Type 0} (f : A → B) → ((x y : A) → T (r x y) → f x ≡ f y) → (xs ys : List A) → T (all_same r xs ys) → map f xs ≡ map f ys
  all_same_equal f s [] [] h = refl
  all_same_equal f s [] (y ∷ ys) h = absurd h
  all_same_equal f s (x ∷ xs) [] h = absurd h
  all_same_equal {B} f s (x ∷ xs) (y ∷ ys) h =
      let p = and_yes (r x y) (all_same r xs ys) h in
      ap₂ (λ (a : B) (rest : List B). a ∷ rest) (s x y p.0) (all_same_equal f s xs ys p.1)
