-- Two lists by a function of their entries, and the squares of a list added up. Assumes nothing.
use Prim.Native.Nat.{ℕ, zero, suc, ◌<◌}
use mathlib.Core.Path.{◌≡◌, refl, sym, ap, ◌∙◌}
use mathlib.Core.List.{List, [], ◌∷◌}
use native.Mathlib.Omega.{arith}
use lib.Ieee.{Float, nan, Format, add, mul}
use lib.ListN.{length, get_or}
use lib.Seq.{ext_get_or}
use Rattle.std.specs.List.{fold}
use Rattle.doubles.specs.Norm.{fold_squares}
use Rattle.lists.specs.Lists.{zip_with}

-- ---- each entry by a function of itself and of the entry of another list
module _ (g : Float → Float → Float) where
  pub zipped_long : (xs ys : List Float) (n : ℕ) → length xs ≡ n → length ys ≡ n → length (zip_with g xs ys) ≡ n
  zipped_long [] ys n p q = p
  zipped_long (x ∷ xs) [] n p q = absurd (omega arith)
  zipped_long (x ∷ xs) (y ∷ ys) zero p q = absurd (omega arith)
  zipped_long (x ∷ xs) (y ∷ ys) (suc n) p q = ap suc (zipped_long xs ys n (omega arith) (omega arith))

  pub get_or_zipped : (xs ys : List Float) (k : ℕ) (d : Float) → k < length xs → k < length ys → get_or (zip_with g xs ys) k d ≡ g (get_or xs k d) (get_or ys k d)
  get_or_zipped [] ys k d p q = absurd (omega arith)
  get_or_zipped (x ∷ xs) [] k d p q = absurd (omega arith)
  get_or_zipped (x ∷ xs) (y ∷ ys) zero d p q = refl
  get_or_zipped (x ∷ xs) (y ∷ ys) (suc k) d p q = get_or_zipped xs ys k d (omega arith) (omega arith)

  -- a list whose entries are made of those of two
  pub zipped : (xs ys out : List Float) → length xs ≡ length ys → length out ≡ length ys → ((k : ℕ) → k < length ys → get_or out k nan ≡ g (get_or xs k nan) (get_or ys k nan)) → out ≡ zip_with g xs ys
  zipped xs ys out e l h =
      let long = zipped_long xs ys (length ys) e (omega arith) in
      ext_get_or nan out (zip_with g xs ys) (omega arith) (λ (k : ℕ) (r : k < length out). h k (omega arith) ∙ sym (get_or_zipped xs ys k nan (omega arith) (omega arith)))

-- ---- the squares added up
pub squares_folded : (f : Format) (s : Float) (xs : List Float) → fold (λ (s x : Float). add f s (mul f x x)) s xs ≡ fold_squares f s xs
unfolding fold_squares
squares_folded f s [] = refl
squares_folded f s (x ∷ xs) = squares_folded f (add f s (mul f x x)) xs
