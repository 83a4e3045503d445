-- What holds of a list holds of those that are picked from it.
use mathlib.Core.Bool.{Bool, true, false}
use mathlib.Core.List.{List, [], ◌∷◌}
use lib.Dec.{T}
use mir.Facts.{and_yes, yes_and}
use Rattle.lists.specs.Lists.{chain, chain_from}
use Rattle.std.specs.List.{list_all}
use Rattle.kept_anchors.specs.Steps.Kept.{picked}

module _ {A : Type 0} (p : A → Bool) where
  pub all_picked : (bs : List Bool) (xs : List A) → T (list_all p xs) → T (list_all p (picked bs xs))
  all_picked [] xs h = tt
  all_picked (b ∷ bs) [] h = tt
  all_picked (true ∷ bs) (x ∷ xs) h = let e = and_yes (p x) (list_all p xs) h in yes_and (p x) (list_all p (picked bs xs)) e.0 (all_picked bs xs e.1)
  all_picked (false ∷ bs) (x ∷ xs) h = all_picked bs xs (and_yes (p x) (list_all p xs) h).1

-- an ascending list stays so
module _ {A : Type 0} (r : A → A → Bool) (trans : (x y z : A) → T (r x y) → T (r y z) → T (r x z)) where
  chain_past : (x y : A) (ys : List A) → T (r x y) → T (chain_from r y ys) → T (chain_from r x ys)
  chain_past x y [] h k = tt
  chain_past x y (z ∷ zs) h k = let e = and_yes (r y z) (chain_from r z zs) k in yes_and (r x z) (chain_from r z zs) (trans x y z h e.0) e.1

  chain_from_lem : (x : A) (bs : List Bool) (ys : List A) → T (chain_from r x ys) → T (chain_from r x (picked bs ys))
  chain_from_lem x [] ys h = tt
  chain_from_lem x (b ∷ bs) [] h = tt
  chain_from_lem x (true ∷ bs) (y ∷ ys) h = let e = and_yes (r x y) (chain_from r y ys) h in yes_and (r x y) (chain_from r y (picked bs ys)) e.0 (chain_from_lem y bs ys e.1)
  chain_from_lem x (false ∷ bs) (y ∷ ys) h = let e = and_yes (r x y) (chain_from r y ys) h in chain_from_lem x bs ys (chain_past x y ys e.0 e.1)

  chain_tail : (x : A) (xs : List A) → T (chain_from r x xs) → T (chain r xs)
  chain_tail x [] h = tt
  chain_tail x (y ∷ ys) h = (and_yes (r x y) (chain_from r y ys) h).1

  pub chain_picked : (bs : List Bool) (xs : List A) → T (chain r xs) → T (chain r (picked bs xs))
  chain_picked [] xs h = tt
  chain_picked (b ∷ bs) [] h = tt
  chain_picked (true ∷ bs) (x ∷ xs) h = chain_from_lem x bs xs h
  chain_picked (false ∷ bs) (x ∷ xs) h = chain_picked bs xs (chain_tail x xs h)
