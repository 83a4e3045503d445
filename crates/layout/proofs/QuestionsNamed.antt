-- Questions 1, 3 and 6 over the flat lists of names.
use Prim.Native.Nat.{ℕ}
use mathlib.Core.Path.{◌≡◌, refl, sym, ap}
use mathlib.Core.Bool.{Bool, true, false, ◌||◌, not, cond}
use mathlib.Core.List.{List, [], ◌∷◌, map}
use lib.Dec.{eqb, eqb-suc-zero}
use lib.ListN.{length}
use Rattle.std.specs.List.{list_any, filter}
use Rattle.layout.specs.declared.Layout.{Layout}
use Rattle.layout.specs.Questions.{from_to, question1}

-- some pass where those that pass are not none
pub any_count : {A : Type 0} (p : A → Bool) (f : A → ℕ) (l : List A) → list_any p l ≡ not (eqb (length (map f (filter p l))) 0)
any_count p f [] = refl
any_count p f (x ∷ l) = go (p x) (any_count p f l)
  where
    go : (b : Bool) → list_any p l ≡ not (eqb (length (map f (filter p l))) 0) → (b || list_any p l) ≡ not (eqb (length (map f (cond b (x ∷ filter p l) (filter p l)))) 0)
    go true e = sym (ap not (eqb-suc-zero (length (map f (filter p l)))))
    go false e = e

module _ (l : Layout) where
  pub question1_not : from_to 1 24 l.used ≡ false → false ≡ question1 l
  unfolding question1
  question1_not h = rw h
