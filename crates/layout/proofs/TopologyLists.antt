-- Laws on lists that are cut by counts, and on tests of such lists.
use Prim.Native.Nat.{ℕ, zero, suc, ◌+◌, ◌≤◌, ◌<◌, min}
use mathlib.Core.Path.{◌≡◌, refl, sym, ap, ap₂, ◌∙◌}
use mathlib.Core.Bool.{Bool, true, false, ◌&&◌}
use mathlib.Core.List.{List, [], ◌∷◌, ◌++◌, map}
use native.Mathlib.Nat.{zero-min, suc-min-suc}
use native.Mathlib.Omega.{arith}
use lib.ListN.{length, get_or, take, drop}
use lib.Seq.{drop-nil, take-add}
use Rattle.lists.specs.Lists.{total, chunks, flatten}
use Rattle.std.specs.List.{list_all}
use Rattle.std.proofs.lemmas.List.{take-map, drop-map}
use Rattle.std.proofs.lemmas.List.Folds.{list_all-append}

module _ {A : Type 0} where
  -- a list of at most k is passed by k
  pub drop_cap : (n k : ℕ) (xs : List A) → length xs ≤ k → drop n xs ≡ drop (min n k) xs
  drop_cap zero k xs h = rw zero-min refl
  drop_cap (suc n) k [] h = sym (drop-nil (min (suc n) k))
  drop_cap (suc n) zero (x ∷ xs) h = let z : ⊥ = omega arith in absurd z
  drop_cap (suc n) (suc k) (x ∷ xs) h = rw suc-min-suc (drop_cap n k xs (omega arith))

  -- as many as were taken
  pub take_taken : (n : ℕ) (xs : List A) → take (length (take n xs)) xs ≡ take n xs
  take_taken zero xs = refl
  take_taken (suc n) [] = refl
  take_taken (suc n) (x ∷ xs) = ap (λ (r : List A). x ∷ r) (take_taken n xs)

  -- the parts, put one after another
  pub concat_chunks : (ns : List ℕ) (xs : List A) → flatten (chunks ns xs) ≡ take (total ns) xs
  concat_chunks [] xs = refl
  concat_chunks (n ∷ ns) xs = ap (λ (r : List A). take n xs ++ r) (concat_chunks ns (drop n xs)) ∙ sym (take-add n (total ns) xs)

  -- ---- tests
  pub all_concat : (p : A → Bool) (xss : List (List A)) → list_all (list_all p) xss ≡ list_all p (flatten xss)
  all_concat p [] = refl
  all_concat p (xs ∷ xss) = rw (list_all-append p xs (flatten xss), all_concat p xss)

  pub all_both : (p q : A → Bool) (xs : List A) → list_all (λ x. p x && q x) xs ≡ (list_all p xs && list_all q xs)
  all_both p q [] = refl
  all_both p q (x ∷ xs) = rw (all_both p q xs) (exchange (p x) (q x) (list_all p xs) (list_all q xs))
    where
      exchange : (a b c d : Bool) → (a && b && (c && d)) ≡ (a && c && (b && d))
      exchange true true c d = refl
      exchange true false true d = refl
      exchange true false false d = refl
      exchange false b c d = refl

module _ {A B : Type 0} (f : A → B) where
  pub map_chunks : (ns : List ℕ) (xs : List A) → map (map f) (chunks ns xs) ≡ chunks ns (map f xs)
  map_chunks [] xs = refl
  map_chunks (n ∷ ns) xs =
      ap₂ (λ (a : List B) (r : List (List B)). a ∷ r) (sym (take-map f n xs)) (map_chunks ns (drop n xs) ∙ ap (chunks ns) (sym (drop-map f n xs)))

-- ---- sums of counts
pub total_within : (i n : ℕ) (cs : List ℕ) → i ≤ n → total (take i cs) ≤ total (take n cs)
total_within zero n cs h = omega arith
total_within (suc i) zero cs h = absurd (omega arith)
total_within (suc i) (suc n) [] h = omega arith
total_within (suc i) (suc n) (c ∷ cs) h = let r = total_within i n cs (omega arith) in omega arith

pub total_next : {A : Type 0} (count : A → ℕ) (i : ℕ) (l : List A) (d : A) → i < length l → total (map count (take (suc i) l)) ≡ total (map count (take i l)) + count (get_or l i d)
total_next count i [] d h = absurd (omega arith)
total_next count zero (x ∷ l) d h = omega arith
total_next count (suc i) (x ∷ l) d h = let r = total_next count i l d (omega arith) in omega arith
