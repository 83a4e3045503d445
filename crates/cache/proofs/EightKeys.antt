-- Keys stand apart in their places, and what a search for a key finds.
use Prim.Native.Nat.{ℕ, zero, suc, ◌+◌, ◌-◌, ◌*◌, ◌%◌, ◌<◌, ◌≤◌}
use mathlib.Core.Path.{◌≡◌, refl, sym, ap, ◌∙◌}
use mathlib.Core.Bool.{Bool, true, false, cond, true≢false}
use mathlib.Core.List.{List, [], ◌∷◌, ◌++◌}
use native.Mathlib.Omega.{arith}
use borrow.Author.Tests.{ltb-true, ltb-false}
use lib.Dec.{eqb, ltb}
use lib.ListN.{length, take, drop, get_or, length-append, length-drop}
use lib.Seq.{length-take-le, take_at, drop_at, take-append-le, take-take, drop-append-add, drop-drop, get_or-take}
use Rattle.lists.specs.Lists.{all_same}
use Rattle.std.specs.Prelude.{Some, None}
use Rattle.std.proofs.lemmas.List.{drop-take}
use Rattle.cache.specs.Places.{key_at, with_key, find_from, first_places}
use Rattle.cache.proofs.KeyCompare.{same_equal, equal_same, eight_at}

-- ---- eight keys, each in its place
module _ (keys : List ℕ) (p : ℕ) (key : List ℕ) (long : length keys ≡ 1248) (h : p < 8) (k : length key ≡ 156) where
  front_length : length (take (156 * p) keys) ≡ 156 * p
  front_length = length-take-le (156 * p) keys (omega arith)

  put_length : length (take (156 * p) keys ++ key) ≡ 156 * p + 156
  put_length = let f = front_length in rw length-append (omega arith)

  pub with_length : length (with_key keys p key) ≡ 1248
  with_length = let f = put_length in rw (length-append (take (156 * p) keys ++ key) (drop (156 * p + 156) keys), length-drop) (omega arith)

  -- a key is read where it was put
  pub with_here : key_at (with_key keys p key) p ≡ key
  with_here =
      rw (take_at (take (156 * p) keys ++ key) (drop (156 * p + 156) keys) (156 * p + 156) put_length)
      (drop_at (take (156 * p) keys) key (156 * p) front_length)

  before : (q : ℕ) → q < p → key_at (with_key keys p key) q ≡ key_at keys q
  before q g =
      let f = front_length in
      let e = put_length in
      ap (drop (156 * q))
      (take-append-le (156 * q + 156) (take (156 * p) keys ++ key) (drop (156 * p + 156) keys) (omega arith)
      ∙ take-append-le (156 * q + 156) (take (156 * p) keys) key (omega arith)
      ∙ take-take (156 * q + 156) (156 * p) keys (omega arith))

  behind : (q : ℕ) → p < q → key_at (with_key keys p key) q ≡ key_at keys q
  behind q g =
      let front = take (156 * p) keys ++ key in
      let rest = drop (156 * p + 156) keys in
      let r = 156 * q - (156 * p + 156) in
      let f = put_length in
      let e : 156 * q ≡ length front + r = omega arith in
      let back : 156 * p + 156 + r ≡ 156 * q = omega arith in
      drop-take (156 * q) 156 (front ++ rest)
      ∙ ap (take 156) (ap (λ (n : ℕ). drop n (front ++ rest)) e ∙ drop-append-add front rest r ∙ drop-drop r (156 * p + 156) keys ∙ ap (λ (n : ℕ). drop n keys) back)
      ∙ sym (drop-take (156 * q) 156 keys)

  -- and the others stay
  pub with_other : (q : ℕ) → (p ≡ q → ⊥) → key_at (with_key keys p key) q ≡ key_at keys q
  with_other q n = go (ltb q p) (ltb p q) refl refl
    where
      go : (b c : Bool) → ltb q p ≡ b → ltb p q ≡ c → key_at (with_key keys p key) q ≡ key_at keys q
      go true c e f = before q (ltb-true q p e)
      go false true e f = behind q (ltb-true p q f)
      go false false e f =
          let u = ltb-false q p e in
          let v = ltb-false p q f in
          absurd (n (omega arith))

-- ---- what a search finds
pub record FoundAt (keys key : List ℕ) (p n r : ℕ) : Type 0 where
  pub index : ℕ
  pub within : index < n
  pub place : r ≡ (p + index) % 8
  pub same : key_at keys r ≡ key

places_at : (i n : ℕ) → i < n → n ≤ 8 → get_or (first_places n) i 0 ≡ i
places_at i n h k = get_or-take n _ i 0 h ∙ eight_at i (omega arith)

module _ (keys key : List ℕ) (p : ℕ) where
  abbrev at : ℕ → ℕ
  at i = (p + i) % 8

  abbrev holds : ℕ → Bool
  holds i = all_same eqb (key_at keys (at i)) key

  -- one of the places looked at holds the key
  abbrev In : List ℕ → ℕ → Type 0
  In is r = (j : ℕ) × (j < length is) × (r ≡ at (get_or is j 0)) × (key_at keys r ≡ key)

  found_in_lem : (is : List ℕ) (r : ℕ) → find_from keys key p is ≡ Some r → In is r
  found_in_lem [] r e = absurd (cc)
  found_in_lem (i ∷ is) r e = go (holds i) refl e (found_in_lem is r)
    where
      go : (b : Bool) → holds i ≡ b → cond b (Some (at i)) (find_from keys key p is) ≡ Some r → (find_from keys key p is ≡ Some r → In is r) → In (i ∷ is) r
      go true q f w = let f' : at i ≡ r = cc in (0, omega arith, sym f', rw (← f') (same_equal (key_at keys (at i)) key q))
      go false q f w = let v = w f in (suc v.0, omega arith, v.2, v.3)

  -- none of them does
  found_none : (is : List ℕ) → find_from keys key p is ≡ None → (j : ℕ) → j < length is → key_at keys (at (get_or is j 0)) ≡ key → ⊥
  found_none [] e j h q = absurd (omega arith)
  found_none (i ∷ is) e j h q = go (holds i) refl e (found_none is) j h q
    where
      go : (b : Bool) → holds i ≡ b → cond b (Some (at i)) (find_from keys key p is) ≡ None → (find_from keys key p is ≡ None → (j : ℕ) → j < length is → key_at keys (at (get_or is j 0)) ≡ key → ⊥) → (j : ℕ) → j < suc (length is) → key_at keys (at (get_or (i ∷ is) j 0)) ≡ key → ⊥
      go true g f w j h q = absurd (cc)
      go false g f w zero h q = true≢false (sym (rw q (equal_same key)) ∙ g)
      go false g f w (suc j) h q = w f j (omega arith) q

  -- ---- the laws of a search through n places from the oldest on
  module _ (n : ℕ) (few : n ≤ 8) where
    count_is : length (first_places n) ≡ n
    count_is = length-take-le n _ few

    -- a place found is one of the n, and holds the key
    pub find_place : (r : ℕ) → find_from keys key p (first_places n) ≡ Some r → FoundAt keys key p n r
    find_place r e =
        let w = found_in_lem (first_places n) r e in
        let c = count_is in
        let b : w.0 < n = omega arith in
        record { index = w.0; within = b; place = w.2 ∙ rw (places_at w.0 n b few); same = w.3 }

    -- where none is found, none of the n holds the key
    pub find_none : find_from keys key p (first_places n) ≡ None → (i : ℕ) → i < n → key_at keys ((p + i) % 8) ≡ key → ⊥
    find_none e i h q = found_none (first_places n) e i (rw count_is h) (rw (places_at i n h few) q)
