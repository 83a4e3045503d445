-- Which of a part of a list of coordinates answer to u, by the coordinates of the whole list. Assumes nothing.
use Prim.Native.Nat.{ℕ, zero, suc, ◌+◌, ◌-◌, ◌≤◌, ◌<◌}
use mathlib.Core.Path.{◌≡◌, refl, ap, ◌∙◌}
use mathlib.Core.Bool.{Bool, true, false, cond}
use mathlib.Core.List.{List, [], ◌∷◌}
use native.Mathlib.Nat.{add-zero, zero-add, le_trans}
use native.Mathlib.Omega.{arith}
use borrow.Author.Tests.{eq-eqb, ne_eqb, eqb-true, eqb-false}
use lib.Dec.{T, eqb}
use lib.IntN.{pos}
use lib.Ieee.{Float, nan, binary64, lt, le}
use lib.Ieee.Scale.{finite}
use lib.ListN.{length, get_or, take}
use lib.Seq.{slice, length-slice, length-take-le, get_or-drop, get_or-take}
use Rattle.std.specs.List.{prefix_len}
use Rattle.std.proofs.lemmas.List.Sums.{prefix_len_passes, prefix_len_stops}
use Rattle.doubles.specs.Arithmetic.{◌⊗◌, from_int, zero64}
use Rattle.doubles.specs.Floor.{floor_of}
use Rattle.field.specs.declared.Pick.{Pick}
use Rattle.field.specs.declared.Pick.TheVariants.{One, Two}
use Rattle.field.specs.Responses.{two_at, count_below, pair_at, pick_of, layer_pick}
use Rattle.field.specs.Steps.Flat.{shifted, pick_end}
use Rattle.field.proofs.ResponseOrder.{lt_of_not_le, not_lt_of_not_le}

pub get_or_slice : {A : Type 0} (a b : ℕ) (l : List A) (i : ℕ) (d : A) → a + i < b → get_or (slice a b l) i d ≡ get_or l (a + i) d
get_or_slice a b l i d h = get_or-drop a (take b l) i d ∙ get_or-take b l (a + i) d h

-- ---- how many are below u
pub below_prefix : (u : Float) (xs : List Float) → prefix_len (λ x. lt x u) xs ≡ count_below u xs
below_prefix u [] = refl
below_prefix u (x ∷ xs) = ap (λ (n : ℕ). cond (lt x u) (1 + n) 0) (below_prefix u xs)

below_most : (u : Float) (xs : List Float) (k : ℕ) → k < length xs → lt (get_or xs k nan) u ≡ false → count_below u xs ≤ k
below_most u [] k h e = absurd (omega arith)
below_most u (x ∷ xs) zero h e = rw e (omega arith)
below_most u (x ∷ xs) (suc k) h e = go (lt x u) (below_most u xs k (omega arith) e)
  where
    go : (b : Bool) → count_below u xs ≤ k → cond b (1 + count_below u xs) 0 ≤ suc k
    go true l = omega arith
    go false l = omega arith

below_some : (u : Float) (xs : List Float) → lt (get_or xs 0 nan) u ≡ true → 0 < length xs → 1 ≤ count_below u xs
below_some u [] e h = absurd (omega arith)
below_some u (x ∷ xs) e h = rw e (omega arith)

-- those before the first that is not below u are below it, and that one is not
pub below_before : (u : Float) (xs : List Float) (i : ℕ) → i < count_below u xs → lt (get_or xs i nan) u ≡ true
below_before u xs i h = prefix_len_passes (λ x. lt x u) xs i nan (rw (below_prefix u xs) h)

pub below_at : (u : Float) (xs : List Float) → count_below u xs < length xs → lt (get_or xs (count_below u xs) nan) u ≡ false
below_at u xs h = rw (← below_prefix u xs) (prefix_len_stops (λ x. lt x u) xs nan (rw (below_prefix u xs) h))

-- ---- the three cases
module _ (xs : List Float) (u : Float) (some : 0 < length xs) where
  pub pick_first : le u (get_or xs 0 nan) ≡ true → pick_of xs u ≡ One 0
  unfolding pick_of
  pick_first e = rw e

  pub pick_last : le u (get_or xs 0 nan) ≡ false → le (get_or xs (length xs - 1) nan) u ≡ true → pick_of xs u ≡ One (length xs - 1)
  unfolding pick_of
  pick_last e f = rw (e, f)

  pub pick_pair : le u (get_or xs 0 nan) ≡ false → le (get_or xs (length xs - 1) nan) u ≡ false → pick_of xs u ≡ pair_at xs u (count_below u xs)
  unfolding pick_of
  pick_pair e f = rw (e, f)

  -- with u between the ends, one lies below it, and not all
  pub between : T (finite u) → T (finite (get_or xs 0 nan)) → le u (get_or xs 0 nan) ≡ false → le (get_or xs (length xs - 1) nan) u ≡ false → (1 ≤ count_below u xs) × (count_below u xs < length xs)
  between t h e f =
      let n = below_most u xs (length xs - 1) (omega arith) (not_lt_of_not_le (get_or xs (length xs - 1) nan) u f) in
      (below_some u xs (lt_of_not_le u (get_or xs 0 nan) t h e) some, omega arith)

  -- the same of the number of those in front that are below u
  pub between_prefix : (k : ℕ) → k ≡ prefix_len (λ x. lt x u) xs → T (finite u) → T (finite (get_or xs 0 nan)) → le u (get_or xs 0 nan) ≡ false → le (get_or xs (length xs - 1) nan) u ≡ false → (1 ≤ k) × (k < length xs)
  between_prefix k q t h e f = rw (q, below_prefix u xs) (between t h e f)

  -- a pick lies within the list
  pub pick_end_lem : T (finite u) → T (finite (get_or xs 0 nan)) → pick_end (pick_of xs u) ≤ length xs
  unfolding two_at
  pick_end_lem t h = go (le u (get_or xs 0 nan)) refl (le (get_or xs (length xs - 1) nan) u) refl
    where
      go : (b : Bool) → le u (get_or xs 0 nan) ≡ b → (c : Bool) → le (get_or xs (length xs - 1) nan) u ≡ c → pick_end (pick_of xs u) ≤ length xs
      go true e c f = rw (pick_first e) (omega arith)
      go false e true f = rw (pick_last e f) (omega arith)
      go false e false f = let r = between t h e f in rw (pick_pair e f) (omega arith)

-- ---- the pick of the part from a up to b
module _ (v : List Float) (a b : ℕ) (u : Float) (some : a < b) (long : b ≤ length v) where
  abbrev pub part : List Float
  part = slice a b v

  pub part_length : length part ≡ b - a
  part_length = length-slice a b v long

  pub part_some : 0 < length part
  part_some = omega (arith, part_length)

  pub part_first : get_or part 0 nan ≡ get_or v a nan
  part_first = get_or_slice a b v 0 nan (omega arith) ∙ ap (λ (i : ℕ). get_or v i nan) (add-zero a)

  -- it lies within the part
  pub part_pick_end : T (finite u) → T (finite (get_or v a nan)) → pick_end (shifted a (pick_of part u)) ≤ b
  part_pick_end t h = go (pick_of part u) (pick_end_lem part u part_some t (rw part_first h))
    where
      go : (p : Pick) → pick_end p ≤ length part → pick_end (shifted a p) ≤ b
      go (One i) l = omega (arith, part_length)
      go (Two i v' w) l = omega (arith, part_length)

-- ---- the layers
pub moved_none : (p : Pick) → shifted 0 p ≡ p
moved_none (One i) = ap One (zero-add i)
moved_none (Two i v w) = ap (λ (j : ℕ). Two j v w) (zero-add i)

module _ (zs : List Float) (u : Float) where
  pub layers_others : (length zs ≡ 2 → ⊥) → pick_of zs u ≡ layer_pick zs u
  unfolding layer_pick
  layers_others n = rw (ne_eqb (length zs) 2 n)

  pub layers_two : length zs ≡ 2 → layer_pick zs u ≡ cond (le u zero64) (One 0) (cond (le (from_int (pos 32767)) (floor_of binary64 (from_int (pos 32768) ⊗ u))) (One 1) (two_at 0 u))
  unfolding layer_pick
  layers_two e = rw (eq-eqb (length zs) 2 e)

  pub layers_within : 1 ≤ length zs → T (finite u) → T (finite (get_or zs 0 nan)) → pick_end (layer_pick zs u) ≤ length zs
  unfolding two_at
  layers_within some t h = go (eqb (length zs) 2) refl
    where
      two : (b c : Bool) → pick_end (cond b (One 0) (cond c (One 1) (two_at 0 u))) ≤ 2
      two true c = omega arith
      two false true = omega arith
      two false false = omega arith

      go : (b : Bool) → eqb (length zs) 2 ≡ b → pick_end (layer_pick zs u) ≤ length zs
      go true e =
          let d = eqb-true (length zs) 2 e in
          let k = two (le u zero64) (le (from_int (pos 32767)) (floor_of binary64 (from_int (pos 32768) ⊗ u))) in
          rw (layers_two d) (le_trans k (omega arith))
      go false e = rw (← layers_others (eqb-false (length zs) 2 e)) (pick_end_lem zs u some t h)

-- the pick lies within the first layers
pub layers_pick_end : (zs : List Float) (depth : ℕ) (u : Float) → depth ≤ length zs → 1 ≤ depth → T (finite u) → T (finite (get_or zs 0 nan)) → pick_end (layer_pick (take depth zs) u) ≤ depth
layers_pick_end zs depth u long some t h =
    let l = length-take-le depth zs long in
    rw l at (layers_within (take depth zs) u (omega (arith, l)) t (rw (get_or-take depth zs 0 nan some) h))
