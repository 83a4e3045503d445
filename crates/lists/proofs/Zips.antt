-- Functions on lists, one after the other, and of two lists place by place.
use Prim.Native.Nat.{ℕ, zero, suc, ◌<◌}
use mathlib.Core.Path.{◌≡◌, refl, ap, ap₂}
use mathlib.Core.List.{List, [], ◌∷◌, map}
use native.Mathlib.Omega.{arith}
use lib.ListN.{length, take, get_or}
use Rattle.lists.specs.Lists.{zip_with}

module _ {A B C : Type 0} (g : A → B → C) where
  pub zip_length : (xs : List A) (ys : List B) → length xs ≡ length ys → length (zip_with g xs ys) ≡ length xs
  zip_length [] ys e = refl
  zip_length (x ∷ xs) [] e = absurd (omega arith)
  zip_length (x ∷ xs) (y ∷ ys) e = ap suc (zip_length xs ys (omega arith))

  pub zip_take : (m : ℕ) (xs : List A) (ys : List B) → take m (zip_with g xs ys) ≡ zip_with g (take m xs) (take m ys)
  zip_take zero xs ys = refl
  zip_take (suc m) [] ys = refl
  zip_take (suc m) (x ∷ xs) [] = refl
  zip_take (suc m) (x ∷ xs) (y ∷ ys) = ap (λ (l : List C). g x y ∷ l) (zip_take m xs ys)

  pub zip_at : (xs : List A) (ys : List B) (i : ℕ) (d : A) (e : B) → i < length xs → length xs ≡ length ys → get_or (zip_with g xs ys) i (g d e) ≡ g (get_or xs i d) (get_or ys i e)
  zip_at [] ys i d e h q = absurd (omega arith)
  zip_at (x ∷ xs) [] i d e h q = absurd (omega arith)
  zip_at (x ∷ xs) (y ∷ ys) zero d e h q = refl
  zip_at (x ∷ xs) (y ∷ ys) (suc i) d e h q = zip_at xs ys i d e (omega arith) (omega arith)

  -- a function that takes the first list's entries out again, and one that looks at the second's alone
  pub zip_firsts : (f : C → A) → ((a : A) (b : B) → f (g a b) ≡ a) → (xs : List A) (ys : List B) → length xs ≡ length ys → map f (zip_with g xs ys) ≡ xs
  zip_firsts f h [] ys e = refl
  zip_firsts f h (x ∷ xs) [] e = absurd (omega arith)
  zip_firsts f h (x ∷ xs) (y ∷ ys) e = ap₂ (λ (z : A) (zs : List A). z ∷ zs) (h x y) (zip_firsts f h xs ys (omega arith))

  pub zip_seconds : {D : Type 0} (f : C → D) (p : B → D) → ((a : A) (b : B) → f (g a b) ≡ p b) → (xs : List A) (ys : List B) → length xs ≡ length ys → map f (zip_with g xs ys) ≡ map p ys
  zip_seconds f p h [] [] e = refl
  zip_seconds f p h [] (y ∷ ys) e = absurd (omega arith)
  zip_seconds f p h (x ∷ xs) [] e = absurd (omega arith)
  zip_seconds {D} f p h (x ∷ xs) (y ∷ ys) e = ap₂ (λ (z : D) (zs : List D). z ∷ zs) (h x y) (zip_seconds f p h xs ys (omega arith))

  -- both made from one list
  pub zip_map : {D : Type 0} (f : D → A) (h : D → B) (v : List D) → zip_with g (map f v) (map h v) ≡ map (λ (x : D). g (f x) (h x)) v
  zip_map f h [] = refl
  zip_map f h (x ∷ v) = ap (λ (l : List C). g (f x) (h x) ∷ l) (zip_map f h v)

pub map-id : {A : Type 0} (f : A → A) → ((x : A) → f x ≡ x) → (l : List A) → map f l ≡ l
map-id f h [] = refl
map-id {A} f h (x ∷ l) = ap₂ (λ (y : A) (ys : List A). y ∷ ys) (h x) (map-id f h l)
