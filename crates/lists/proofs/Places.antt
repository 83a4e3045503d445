-- The words of specs/Lists in std's words.
use Prim.Native.Nat.{ℕ, ◌+◌, ◌≤◌}
use mathlib.Core.Path.{◌≡◌, refl, sym, ap, ◌∙◌}
use mathlib.Core.Bool.{Bool, true, false, cond}
use mathlib.Core.List.{List, [], ◌∷◌}
use native.Mathlib.Omega.{arith}
use borrow.Author.Tests.{ltb-false}
use lib.Dec.{eqb, ltb}
use lib.ListN.{length}
use Rattle.std.specs.List.{position, position_or_len, list_any}
use Rattle.std.specs.Prelude.{Option, Some, None, unwrap_or}
use Rattle.std.proofs.lemmas.List.Recursion.{is_position_or_len}
use Rattle.lists.specs.Lists.{elem, index_of}

pub index_of_is : (n : ℕ) (l : List ℕ) → position_or_len (λ (x : ℕ). eqb x n) l ≡ index_of n l
index_of_is n l = sym (is_position_or_len (index_of n) (λ (x : ℕ). eqb x n) refl (λ x xs. refl) l)

pub index_of_le : (n : ℕ) (l : List ℕ) → index_of n l ≤ length l
index_of_le n [] = omega arith
index_of_le n (x ∷ xs) = go (eqb x n) (index_of_le n xs)
  where
    go : (b : Bool) → index_of n xs ≤ length xs → cond b 0 (1 + index_of n xs) ≤ length (x ∷ xs)
    go true h = omega arith
    go false h = omega arith

-- the place of the first n, where there is one
pub position_is : (n : ℕ) (l : List ℕ) → position (λ (x : ℕ). eqb x n) l ≡ cond (ltb (index_of n l) (length l)) (Some (index_of n l)) None
position_is n l = ap (λ (p : ℕ). cond (ltb p (length l)) (Some p) None) (index_of_is n l)

-- `position`, or the length where there is none
pub index_of_position : (n : ℕ) (l : List ℕ) → unwrap_or (position (λ (x : ℕ). eqb x n) l) (length l) ≡ index_of n l
index_of_position n l = ap (λ (o : Option ℕ). unwrap_or o (length l)) (position_is n l) ∙ go (ltb (index_of n l) (length l)) refl
  where
    go : (b : Bool) → ltb (index_of n l) (length l) ≡ b → unwrap_or (cond b (Some (index_of n l)) None) (length l) ≡ index_of n l
    go true e = refl
    go false e = omega (arith, index_of_le n l, ltb-false (index_of n l) (length l) e)

pub elem_any : (n : ℕ) (l : List ℕ) → list_any (λ (x : ℕ). eqb x n) l ≡ elem n l
elem_any n [] = refl
elem_any n (x ∷ xs) = rw (elem_any n xs)
