-- Keys compared word by word, and the search through the places from the oldest on.
use Prim.Native.Nat.{ℕ, zero, suc, ◌+◌, ◌%◌, ◌<◌, ◌≤◌, min}
use mathlib.Core.Path.{◌≡◌, refl, sym, ap, ap₂, ◌∙◌}
use mathlib.Core.Bool.{Bool, true, false, ◌&&◌, cond, true≢false}
use mathlib.Core.List.{List, [], ◌∷◌, map}
use native.Mathlib.Nat.{add-zero, add_assoc}
use native.Mathlib.Omega.{arith}
use borrow.Author.Tests.{eq-eqb, ne_eqb, eqb-true, eqb-false}
use lib.Bits.{bit_or, bit_xor, xor_add_and, xor_self, or_add_and, and_le_l, and_le_r}
use lib.Dec.{eqb}
use lib.ListN.{length, take, get_or}
use lib.Seq.{slice, take_all, get_or-drop, get_or-take}
use Rattle.lists.specs.Lists.{all_same}
use Rattle.lists.proofs.Takes.{take_min}
use Rattle.lists.proofs.Loops.{slice_more, slice_done}
use Rattle.std.specs.Prelude.{Option, Some}
use Rattle.std.specs.List.{find, range_with_len}
use Rattle.std.proofs.lemmas.Bool.{and_parts}
use Rattle.cache.specs.Places.{key_at, find_from, first_places}

-- ---- equal word by word is equal
and_assoc : (a b c : Bool) → ((a && b) && c) ≡ (a && (b && c))
and_assoc true b c = refl
and_assoc false b c = refl

and-true : (a : Bool) → (a && true) ≡ a
and-true true = refl
and-true false = refl

pub same_equal : (xs ys : List ℕ) → all_same eqb xs ys ≡ true → xs ≡ ys
same_equal [] [] e = refl
same_equal [] (y ∷ ys) e = absurd (true≢false (sym e))
same_equal (x ∷ xs) [] e = absurd (true≢false (sym e))
same_equal (x ∷ xs) (y ∷ ys) e =
    let p = and_parts (eqb x y) (all_same eqb xs ys) e in
    ap₂ (λ (a : ℕ) (r : List ℕ). a ∷ r) (eqb-true x y p.0) (same_equal xs ys p.1)

pub equal_same : (xs : List ℕ) → all_same eqb xs xs ≡ true
equal_same [] = refl
equal_same (x ∷ xs) = rw (eq-eqb x x refl, equal_same xs)

pub not_same : (xs ys : List ℕ) → (xs ≡ ys → ⊥) → all_same eqb xs ys ≡ false
not_same xs ys n = go (all_same eqb xs ys) refl
  where
    go : (b : Bool) → all_same eqb xs ys ≡ b → all_same eqb xs ys ≡ false
    go true e = absurd (n (same_equal xs ys e))
    go false e = e

-- ---- bits that differ
xor_none : (a b : ℕ) → bit_xor a b ≡ 0 → a ≡ b
xor_none a b e = omega (arith, xor_add_and a b, and_le_l a b, and_le_r a b, e)

or_none : (a b : ℕ) → bit_or a b ≡ 0 → (a ≡ 0) × (b ≡ 0)
or_none a b e = (omega (arith, or_add_and a b, and_le_l a b, and_le_r a b, e), omega (arith, or_add_and a b, and_le_l a b, and_le_r a b, e))

gathered : (d x y : ℕ) → eqb (bit_or d (bit_xor x y)) 0 ≡ (eqb d 0 && eqb x y)
gathered d x y = go (eqb d 0) (eqb x y) refl refl
  where
    go : (a b : Bool) → eqb d 0 ≡ a → eqb x y ≡ b → eqb (bit_or d (bit_xor x y)) 0 ≡ (a && b)
    go true true e f = eq-eqb _ 0 (ap₂ bit_or (eqb-true d 0 e) (ap (bit_xor x) (sym (eqb-true x y f)) ∙ xor_self x))
    go true false e f = ne_eqb _ 0 (λ z. eqb-false x y f (xor_none x y (or_none d (bit_xor x y) z).1))
    go false b e f = ne_eqb _ 0 (λ z. eqb-false d 0 e (or_none d (bit_xor x y) z).0)

-- ---- a loop that compares the key with the words from a place on
pub record Compared (words : List ℕ) (from : ℕ) (key : List ℕ) (differ i : ℕ) : Type 0 where
  pub reached : i ≤ 156
  pub room : from + 156 ≤ length words
  pub long : length key ≡ 156
  pub same : (eqb differ 0 && all_same eqb (slice (from + i) (from + 156) words) (slice i 156 key)) ≡ all_same eqb (slice from (from + 156) words) key

module _ (words : List ℕ) (from : ℕ) (key : List ℕ) where
  pub compared_none : from + 156 ≤ length words → length key ≡ 156 → Compared words from key 0 0
  compared_none r l = record { reached = omega arith; room = r; long = l; same = rw (add-zero from, take_all 156 key (omega arith)) }

  module _ (d i : ℕ) (w : Compared words from key d i) where
    pub compared_more : i < 156 → Compared words from key (bit_or d (bit_xor (get_or words (from + i) 0) (get_or key i 0))) (i + 1)
    compared_more h =
        let x = get_or words (from + i) 0 in
        let y = get_or key i 0 in
        let r = all_same eqb (slice (from + i + 1) (from + 156) words) (slice (i + 1) 156 key) in
        let o = ap₂ (all_same eqb) (slice_more (from + i) (from + 156) words 0 (omega arith) w.room) (slice_more i 156 key 0 h (omega arith)) in
        record {
          reached = omega arith;
          room = w.room;
          long = w.long;
          same = rw (← add_assoc from i 1) (ap (λ (b : Bool). b && r) (gathered d x y) ∙ and_assoc (eqb d 0) (eqb x y) r ∙ ap (λ (b : Bool). eqb d 0 && b) (sym o) ∙ w.same);
        }

    pub compared_done : 156 ≤ i → eqb d 0 ≡ all_same eqb (slice from (from + 156) words) key
    compared_done h =
        sym (and-true (eqb d 0)) ∙ sym (ap (λ (b : Bool). eqb d 0 && b) (ap₂ (all_same eqb) (slice_done (from + i) (from + 156) words (omega arith)) (slice_done i 156 key (omega arith)))) ∙ w.same

  -- one word that differs
  pub word_differs : (i : ℕ) → i < 156 → (get_or words (from + i) 0 ≡ get_or key i 0 → ⊥) → false ≡ all_same eqb (slice from (from + 156) words) key
  word_differs i h q =
      let at : get_or (slice from (from + 156) words) i 0 ≡ get_or words (from + i) 0 = get_or-drop from (take (from + 156) words) i 0 ∙ get_or-take (from + 156) words (from + i) 0 (omega arith) in
      sym (not_same (slice from (from + 156) words) key (λ e. q (sym at ∙ ap (λ (l : List ℕ). get_or l i 0) e)))

-- ---- a search through the places, from the oldest on
abbrev pub eight : List ℕ
eight = 0 ∷ 1 ∷ 2 ∷ 3 ∷ 4 ∷ 5 ∷ 6 ∷ 7 ∷ []

range_is : (n : ℕ) → n ≤ 8 → range_with_len 0 n ≡ first_places n
range_is zero h = refl
range_is (suc zero) h = refl
range_is (suc (suc zero)) h = refl
range_is (suc (suc (suc zero))) h = refl
range_is (suc (suc (suc (suc zero)))) h = refl
range_is (suc (suc (suc (suc (suc zero))))) h = refl
range_is (suc (suc (suc (suc (suc (suc zero)))))) h = refl
range_is (suc (suc (suc (suc (suc (suc (suc zero))))))) h = refl
range_is (suc (suc (suc (suc (suc (suc (suc (suc zero)))))))) h = refl
range_is (suc (suc (suc (suc (suc (suc (suc (suc (suc n))))))))) h = absurd (omega arith)

pub eight_at : (i : ℕ) → i < 8 → get_or eight i 0 ≡ i
eight_at zero h = refl
eight_at (suc zero) h = refl
eight_at (suc (suc zero)) h = refl
eight_at (suc (suc (suc zero))) h = refl
eight_at (suc (suc (suc (suc zero)))) h = refl
eight_at (suc (suc (suc (suc (suc zero))))) h = refl
eight_at (suc (suc (suc (suc (suc (suc zero)))))) h = refl
eight_at (suc (suc (suc (suc (suc (suc (suc zero))))))) h = refl
eight_at (suc (suc (suc (suc (suc (suc (suc (suc i)))))))) h = absurd (omega arith)

-- what is found among these places
pub found_places : (words key : List ℕ) (p n : ℕ) → n ≤ 8 → find (λ (q : ℕ). all_same eqb (key_at words q) key) (map (λ (i : ℕ). (p + i) % 8) (range_with_len 0 n)) ≡ find_from words key p (first_places n)
found_places words key p n h = ap (λ (is : List ℕ). find holds (map at is)) (range_is n h) ∙ found (first_places n)
  where
    at : ℕ → ℕ
    at i = (p + i) % 8

    holds : ℕ → Bool
    holds q = all_same eqb (key_at words q) key

    found : (is : List ℕ) → find holds (map at is) ≡ find_from words key p is
    found [] = refl
    found (i ∷ is) = ap (cond (holds (at i)) (Some (at i))) (found is)

-- the places from a remainder on are those from the number itself on, and there are eight at most
from_remainder : (keys key : List ℕ) (p : ℕ) (is : List ℕ) → find_from keys key (p % 8) is ≡ find_from keys key p is
from_remainder keys key p [] = refl
from_remainder keys key p (i ∷ is) =
    let e : (p % 8 + i) % 8 ≡ (p + i) % 8 = omega arith in
    ap₂ (λ (j : ℕ) (s : Option ℕ). cond (all_same eqb (key_at keys j) key) (Some j) s) e (from_remainder keys key p is)

pub every_place : (keys key : List ℕ) (p n m : ℕ) → m ≡ min n 8 → find_from keys key (p % 8) (first_places m) ≡ find_from keys key p (first_places n)
every_place keys key p n m e = from_remainder keys key p (first_places m) ∙ ap (find_from keys key p) (ap first_places e ∙ take_min n 8 eight (omega arith))
