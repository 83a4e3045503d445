-- Question 4 by two sums: no sum is taken for a count before it is known to be at most 24.
use Prim.Native.Nat.{ℕ, ◌*◌, ◌≤◌, ◌<◌}
use mathlib.Core.Path.{◌≡◌, refl, sym, ap, ap₂, ◌∙◌}
use mathlib.Core.Bool.{Bool, true, false, ◌&&◌, ◌||◌, not, cond, and-true, false≢true, true≢false}
use mathlib.Core.List.{List, [], ◌∷◌, map}
use native.Mathlib.Nat.{lt_of_not-le}
use native.Mathlib.Omega.{arith}
use lib.Dec.{leb, ltb}
use lib.ListN.{length, take, length-map, length-take}
use borrow.Author.Tests.{le-leb, lt-leb, le-ltb, lt-ltb, leb-true, leb-false}
use Rattle.lists.specs.Lists.{total}
use Rattle.std.specs.List.{list_all}
use Rattle.std.proofs.lemmas.Bool.{and_parts}
use Rattle.layout.specs.declared.Layout.{Layout}
use Rattle.layout.specs.Topology.{used_layers, used_rows, row_count, layer_count}
use Rattle.layout.specs.Questions.{from_to, question4}
use Rattle.layout.specs.Steps.Counts.{counted_to}

-- a number from a to b
pub within : (a b n : ℕ) → from_to a b n ≡ true → (a ≤ n) × (n ≤ b)
within a b n e = let p = and_parts (leb a n) (leb n b) e in (leb-true a n p.0, leb-true n b p.1)

-- the code's test that n is not from a to b
pub outside : (a b n : ℕ) → (ltb n a || ltb b n) ≡ not (from_to a b n)
outside a b n = ap₂ ◌||◌ (below a n) (below n b) ∙ neither (leb a n) (leb n b)
  where
    below : (m k : ℕ) → ltb k m ≡ not (leb m k)
    below m k = go (leb m k) refl
      where
        go : (t : Bool) → leb m k ≡ t → ltb k m ≡ not t
        go true e = le-ltb k m (leb-true m k e)
        go false e = lt-ltb k m (leb-false m k e)

    neither : (t u : Bool) → (not t || not u) ≡ not (t && u)
    neither true u = refl
    neither false u = refl

-- n counts from 1 to 6 make at most 6 n
pub total_most : (cs : List ℕ) → list_all (from_to 1 6) cs ≡ true → total cs ≤ length cs * 6
total_most [] e = omega arith
total_most (c ∷ cs) e =
    let p = and_parts (from_to 1 6 c) (list_all (from_to 1 6) cs) e in
    let q = within 1 6 c p.0 in
    let r = total_most cs p.1 in
    omega arith

-- ---- `counted_to`, for a test b and a sum t
pub small : (b : Bool) (t : ℕ) → cond b t 25 ≤ 24 → (b ≡ true) × (cond b t 25 ≡ t)
small true t h = (refl, refl)
small false t h = absurd (omega arith)

large : (b : Bool) (t : ℕ) → (b ≡ true → t ≤ 24) → 24 < cond b t 25 → b ≡ false
large true t f h = let k = f refl in absurd (omega arith)
large false t f h = refl

above : (t : ℕ) → (t ≤ 24 → ⊥) → leb t 24 ≡ false
above t f = lt-leb t 24 (lt_of_not-le f)

same_test : (a b : Bool) (t : ℕ) → (t ≤ 24 → a ≡ b) → leb (cond a t 25) 24 ≡ (b && leb t 24)
same_test true true t f = refl
same_test true false t f = above t (λ h. true≢false (f h))
same_test false true t f = sym (above t (λ h. false≢true (f h)))
same_test false false t f = refl

-- counts whose sum is at most 24 are at most 24
each_few : (cs : List ℕ) → total cs ≤ 24 → list_all (from_to 1 24) cs ≡ list_all (leb 1) cs
each_few [] h = refl
each_few (c ∷ cs) h =
    ap₂ ◌&&◌ (ap (λ (b : Bool). leb 1 c && b) (le-leb c 24 (omega arith)) ∙ and-true (leb 1 c)) (each_few cs (omega arith))

-- ---- the question
module _ (l : Layout) where
  -- four layers of 1 to 6 rows have at most 24
  pub question4_not : l.depth ≤ 4 → 24 < counted_to 6 (map layer_count (used_layers l)) → false ≡ question4 l
  unfolding question4
  question4_not h k =
      let cs = map layer_count (used_layers l) in
      let n = length-map (used_layers l) layer_count ∙ length-take l.depth l.layers in
      let e = large (list_all (from_to 1 6) cs) (total cs) (λ a. let m = total_most cs a in omega arith) k in
      rw e

  pub question4_is : (rows : ℕ) → rows ≡ counted_to 6 (map layer_count (used_layers l)) → rows ≤ 24 → leb (counted_to 24 (map row_count (take rows l.rows))) 24 ≡ question4 l
  unfolding question4
  question4_is rows e h =
      let cs = map layer_count (used_layers l) in
      let s = small (list_all (from_to 1 6) cs) (total cs) (omega arith) in
      let ns = map row_count (used_rows l) in
      ap (λ (n : ℕ). leb (counted_to 24 (map row_count (take n l.rows))) 24) (e ∙ s.1)
      ∙ same_test (list_all (from_to 1 24) ns) (list_all (leb 1) ns) (total ns) (each_few ns)
      ∙ rw s.0
