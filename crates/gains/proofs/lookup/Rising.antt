-- Knots that rise from 0: what each of them has, by the test that computes; and those below a number. Assumes nothing.
use Prim.Native.Nat.{ℕ, zero, suc, ◌≤◌, ◌<◌}
use mathlib.Core.Path.{◌≡◌, refl, sym}
use mathlib.Core.Logic.{⊎_elim}
use mathlib.Core.Bool.{true, false, true≢false}
use mathlib.Core.List.{List, [], ◌∷◌}
use native.Mathlib.Nat.{eq-or-lt_of_le, le_of_suc-le-suc}
use native.Mathlib.Omega.{arith}
use lib.Dec.{T, lit≤}
use lib.Ieee.{Float, nan, inf, fin, binary64, round, sum, add, sub, neg, mul, div, lt, fits, of_int}
use lib.ListN.{length, get_or}
use lib.Ieee.Bits.{is_true}
use Rattle.std.proofs.lemmas.Float.{T_from_true, lt_trans}
use Rattle.std.specs.List.Sorted.{IsPartitionedBy}
use Rattle.std.proofs.lemmas.Bool.{and_parts}
use Rattle.std.proofs.lemmas.List.{get_or_default}
use Rattle.doubles.specs.Arithmetic.{◌⊖◌, zero64}
use Rattle.doubles.proofs.Magnitude.{plain}
use Rattle.field.specs.Knots.{X, Z}
use Rattle.gains.specs.declared.knots.Knots.{Knots}
use Rattle.gains.specs.Lookup.{centre_knots, radius_knots}
use Rattle.gains.specs.Steps.Rising.{is_plain, is_knot, is_above, rise_from, are_rising}

pub record Rising (xs : List Float) : Type 0 where
  pub some : 2 ≤ length xs
  pub first : get_or xs 0 nan ≡ zero64
  pub plains : (i : ℕ) → i < length xs → T (plain (get_or xs i nan))
  pub doubles : (i : ℕ) → i < length xs → T (fits binary64 (get_or xs i nan))
  pub rises : (i : ℕ) → suc i < length xs → lt (get_or xs i nan) (get_or xs (suc i) nan) ≡ true
  pub apart : (i : ℕ) → suc i < length xs → lt zero64 (get_or xs (suc i) nan ⊖ get_or xs i nan) ≡ true

plain_of : (x : Float) → is_plain x ≡ true → T (plain x)
plain_of nan h = absurd (true≢false (sym h))
plain_of (inf s) h = absurd (true≢false (sym h))
plain_of (fin true m e) h = absurd (true≢false (sym h))
plain_of (fin false m e) h = tt

each_knot : (x : Float) (xs : List Float) → rise_from x xs ≡ true → (i : ℕ) → i < suc (length xs) → is_knot (get_or (x ∷ xs) i nan) ≡ true
each_knot x [] h zero l = h
each_knot x [] h (suc i) l = absurd (omega arith)
each_knot x (y ∷ ys) h zero l = (and_parts _ _ h).0
each_knot x (y ∷ ys) h (suc i) l = each_knot y ys (and_parts _ _ (and_parts _ _ h).1).1 i (le_of_suc-le-suc l)

each_above : (x : Float) (xs : List Float) → rise_from x xs ≡ true → (i : ℕ) → suc i < suc (length xs) → is_above (get_or (x ∷ xs) (suc i) nan) (get_or (x ∷ xs) i nan) ≡ true
each_above x [] h i l = absurd (omega arith)
each_above x (y ∷ ys) h zero l = (and_parts _ _ (and_parts _ _ h).1).0
each_above x (y ∷ ys) h (suc i) l = each_above y ys (and_parts _ _ (and_parts _ _ h).1).1 i (le_of_suc-le-suc l)

pub rising : (xs : List Float) → 2 ≤ length xs → get_or xs 0 nan ≡ zero64 → are_rising xs ≡ true → Rising xs
rising [] s e h = absurd (omega arith)
rising (x ∷ xs) s e h =
    record {
      some = s;
      first = e;
      plains = λ i l. plain_of _ (and_parts _ _ (each_knot x xs h i l)).0;
      doubles = λ i l. T_from_true _ (and_parts _ _ (each_knot x xs h i l)).1;
      rises = λ i l. (and_parts _ _ (each_above x xs h i l)).0;
      apart = λ i l. (and_parts _ _ (each_above x xs h i l)).1;
    }

pub of_knots : (s : Knots) → Rising s.at.now
of_knots s = rising s.at.now s.some s.first s.rising

-- ---- the knots of the tables
pub rising_wide : Rising (centre_knots X)
unfolding round of_int sum add sub neg div lt fits
rising_wide = rising (centre_knots X) (lit≤ tt) refl refl

pub rising_high : Rising (centre_knots Z)
unfolding round of_int sum add sub neg div lt fits
rising_high = rising (centre_knots Z) (lit≤ tt) refl refl

pub rising_radius : Rising radius_knots
unfolding round of_int sum add sub neg mul div lt fits
rising_radius = rising radius_knots (lit≤ tt) refl refl

-- ---- where a knot is below v, so are those before it
pub all_below : (xs : List Float) (v : Float) → Rising xs → (j : ℕ) → j < length xs → lt (get_or xs j nan) v ≡ true → (i : ℕ) → i ≤ j → lt (get_or xs i nan) v ≡ true
all_below xs v r zero h e i l = let z : i ≡ 0 = omega arith in rw z e
all_below xs v r (suc j) h e i l =
    ⊎_elim
    (λ (q : i ≡ suc j). rw q e)
    (λ (k : i < suc j).
    all_below xs v r j (omega arith) (is_true _ (lt_trans (get_or xs j nan) (get_or xs (suc j) nan) v (T_from_true _ (r.rises j h)) (T_from_true _ e))) i (le_of_suc-le-suc k))
    (eq-or-lt_of_le l)

-- which is what a search by `partition_point` asks
pub below_parted : (xs : List Float) (v : Float) → Rising xs → IsPartitionedBy (λ x. lt x v) xs
below_parted xs v r = λ i j d l h e.
    let p : lt (get_or xs j nan) v ≡ true = rw (get_or_default xs j nan d h) e in
    rw (get_or_default xs i d nan (omega arith)) (all_below xs v r j h p i l)
