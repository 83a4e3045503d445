-- Laws of `patched`: a list with F at each index that W names, and the rest as it was. Assumes nothing.
use Prim.Native.Nat.{ℕ, zero, suc, ◌+◌, ◌-◌, ◌≤◌, ◌<◌}
use mathlib.Core.Path.{◌≡◌, refl, sym, ap, ◌∙◌}
use mathlib.Core.Logic.{⊎_elim}
use mathlib.Core.Bool.{Bool, true, false, ◌||◌, cond, or_comm, true≢false, ◌&&◌}
use mathlib.Core.List.{List, [], ◌∷◌}
use native.Mathlib.Nat.{zero-add, add-zero, le_of_suc-le-suc, not-suc-le-zero}
use native.Mathlib.Omega.{arith}
use borrow.Author.Tests.{ltb-true, ltb-false, leb-true, leb-false, lt-ltb, le-leb, eqb-true, eqb-false}
use lib.Dec.{leb, ltb, eqb}
use lib.Ieee.{Float, nan}
use lib.ListN.{length, get_or, drop, set, length-drop}
use lib.Seq.{ext_get_or, get_or-set_same, get_or-set_other, get_or-drop}
use borrow.Rule.Slice.PartMut.{mid_of, put_mid, mid_len}
use borrow.Author.Rules.{rules}
use Rattle.std.proofs.lemmas.List.{places}
use Rattle.std.proofs.lemmas.Bool.{or_cases, or_left, or_right, and_parts}
use Rattle.field.specs.Patched.{patched_from, patched, within, either}

-- ---- tests

-- two tests that say the same are the same
pub same_test : (x y : Bool) → (x ≡ true → y ≡ true) → (y ≡ true → x ≡ true) → x ≡ y
same_test true y f g = sym (f refl)
same_test false true f g = g refl
same_test false false f g = refl

pub within_says : (a b i : ℕ) → within a b i ≡ true → (a ≤ i) × (i < b)
within_says a b i h = let p = and_parts (leb a i) (ltb i b) h in (leb-true a i p.0, ltb-true i b p.1)

pub within_holds : (a b i : ℕ) → a ≤ i → i < b → within a b i ≡ true
within_holds a b i h k = rw (le-leb a i h, lt-ltb i b k)

pub within_fails : (a b i : ℕ) → (a ≤ i → i < b → ⊥) → within a b i ≡ false
within_fails a b i h =
    same_test (within a b i) false (λ w. absurd (h (within_says a b i w).0 (within_says a b i w).1)) (λ w. absurd (true≢false (sym w)))

-- two ranges that meet
pub within_join : (a b c i : ℕ) → a ≤ b → b ≤ c → either (within a b) (within b c) i ≡ within a c i
within_join a b c i h k =
    same_test (either (within a b) (within b c) i) (within a c i)
    (λ w.
    ⊎_elim (λ u. let p = within_says a b i u in within_holds a c i (omega arith) (omega arith)) (λ u. let p = within_says b c i u in within_holds a c i (omega arith) (omega arith))
    (or_cases (within a b i) (within b c i) w))
    (λ w. let p = within_says a c i w in part (ltb i b) refl p)
  where
    part : (t : Bool) → ltb i b ≡ t → (a ≤ i) × (i < c) → either (within a b) (within b c) i ≡ true
    part true e p = or_left (within a b i) (within b c i) (within_holds a b i p.0 (ltb-true i b e))
    part false e p = or_right (within a b i) (within b c i) (within_holds b c i (ltb-false i b e) p.1)

-- ---- length and elements
from_length : (i : ℕ) (W : ℕ → Bool) (F : ℕ → Float) (xs : List Float) → length (patched_from i W F xs) ≡ length xs
unfolding patched_from
from_length i W F [] = refl
from_length i W F (x ∷ xs) = ap suc (from_length (i + 1) W F xs)

from_get_or : (i : ℕ) (W : ℕ → Bool) (F : ℕ → Float) (xs : List Float) (j : ℕ) (d : Float) → j < length xs → get_or (patched_from i W F xs) j d ≡ cond (W (i + j)) (F (i + j)) (get_or xs j d)
unfolding patched_from
from_get_or i W F [] j d h = absurd (not-suc-le-zero h)
from_get_or i W F (x ∷ xs) zero d h = rw add-zero
from_get_or i W F (x ∷ xs) (suc j) d h =
    let e : i + 1 + j ≡ i + suc j = omega arith in
    rw (← e) (from_get_or (i + 1) W F xs j d (le_of_suc-le-suc h))

pub patched_length : (W : ℕ → Bool) (F : ℕ → Float) (xs : List Float) → length (patched W F xs) ≡ length xs
unfolding patched
patched_length W F xs = from_length 0 W F xs

pub get_or_patched : (W : ℕ → Bool) (F : ℕ → Float) (xs : List Float) (i : ℕ) (d : Float) → i < length xs → get_or (patched W F xs) i d ≡ cond (W i) (F i) (get_or xs i d)
unfolding patched
get_or_patched W F xs i d h = rw zero-add at (from_get_or 0 W F xs i d h)

-- a list is a patched list where it has its length and its elements
pub is_patched : (W : ℕ → Bool) (F : ℕ → Float) (xs ys : List Float) → length ys ≡ length xs → ((i : ℕ) → i < length xs → get_or ys i nan ≡ cond (W i) (F i) (get_or xs i nan)) → ys ≡ patched W F xs
is_patched W F xs ys l h =
    ext_get_or nan ys (patched W F xs) (l ∙ sym (patched_length W F xs))
    (λ (i : ℕ) (k : i < length ys). let k' : i < length xs = omega arith in h i k' ∙ sym (get_or_patched W F xs i nan k'))

-- nothing is written where W is false everywhere
pub patched_none : (W : ℕ → Bool) (F : ℕ → Float) (xs : List Float) → ((i : ℕ) → i < length xs → W i ≡ false) → patched W F xs ≡ xs
patched_none W F xs h = sym (is_patched W F xs xs refl (λ (i : ℕ) (k : i < length xs). rw (h i k)))

-- W and F may be exchanged for ones that agree below the length, F only where W holds
pub patched_cong : (W U : ℕ → Bool) (F G : ℕ → Float) (xs : List Float) → ((i : ℕ) → i < length xs → W i ≡ U i) → ((i : ℕ) → i < length xs → W i ≡ true → F i ≡ G i) → patched W F xs ≡ patched U G xs
patched_cong W U F G xs p q =
    is_patched U G xs (patched W F xs) (patched_length W F xs)
    (λ (i : ℕ) (k : i < length xs). get_or_patched W F xs i nan k ∙ rw (← p i k) (agree (W i) (get_or xs i nan) (q i k)))
  where
    agree : {x y : Float} (b : Bool) (z : Float) → (b ≡ true → x ≡ y) → cond b x z ≡ cond b y z
    agree true z h = h refl
    agree false z h = refl

-- W alone, and F alone, exchanged
pub patched_where : (W U : ℕ → Bool) (F : ℕ → Float) (xs : List Float) → ((i : ℕ) → i < length xs → W i ≡ U i) → patched W F xs ≡ patched U F xs
patched_where W U F xs h = patched_cong W U F F xs h (λ (i : ℕ) (k : i < length xs) (w : W i ≡ true). refl)

pub patched_as : (W : ℕ → Bool) (F G : ℕ → Float) (xs : List Float) → ((i : ℕ) → i < length xs → W i ≡ true → F i ≡ G i) → patched W F xs ≡ patched W G xs
patched_as W F G xs h = patched_cong W W F G xs (λ (i : ℕ) (k : i < length xs). refl) h

-- F is written over G
pub patched_patched : (W U : ℕ → Bool) (F G : ℕ → Float) (xs : List Float) → patched W F (patched U G xs) ≡ patched (either W U) (λ (i : ℕ). cond (W i) (F i) (G i)) xs
patched_patched W U F G xs =
    is_patched (either W U) (λ (i : ℕ). cond (W i) (F i) (G i)) xs (patched W F (patched U G xs))
    (patched_length W F (patched U G xs) ∙ patched_length U G xs)
    (λ (i : ℕ) (k : i < length xs).
    get_or_patched W F (patched U G xs) i nan (rw patched_length k) ∙ rw (get_or_patched U G xs i nan k) (over (W i) (U i) (F i) (G i) (get_or xs i nan)))
  where
    over : (b c : Bool) (x y z : Float) → cond b x (cond c y z) ≡ cond (b || c) (cond b x y) z
    over true c x y z = refl
    over false c x y z = refl

-- both write one function
pub patched_both : (W U : ℕ → Bool) (F : ℕ → Float) (xs : List Float) → patched W F (patched U F xs) ≡ patched (either U W) F xs
patched_both W U F xs =
    patched_patched W U F F xs
    ∙ patched_cong (either W U) (either U W) (λ (i : ℕ). cond (W i) (F i) (F i)) F xs (λ (i : ℕ) (k : i < length xs). or_comm (W i) (U i)) (λ (i : ℕ) (k : i < length xs) (e : either W U i ≡ true). one (W i) (F i))
  where
    one : (b : Bool) (x : Float) → cond b x x ≡ x
    one true x = refl
    one false x = refl

-- ---- ranges
pub within_none : (a : ℕ) (F : ℕ → Float) (xs : List Float) → patched (within a a) F xs ≡ xs
within_none a F xs =
    patched_none (within a a) F xs (λ (i : ℕ) (k : i < length xs). within_fails a a i (λ h l. omega arith))

-- the part from a up to b written
pub part_patched : (a b : ℕ) (F : ℕ → Float) (xs ys : List Float) → a ≤ b → b ≤ length xs → length ys ≡ length (mid_of a (b - a) xs) → ((i : ℕ) → i < b - a → get_or ys i nan ≡ F (a + i)) → put_mid a (b - a) xs ys ≡ patched (within a b) F xs
part_patched a b F xs ys m l k h =
    is_patched (within a b) F xs (put_mid a (b - a) xs ys) (search (rules, places)) (λ (i : ℕ) (m : i < length xs). low i (ltb i a) refl m)
  where
    size : length ys ≡ b - a
    size = k ∙ mid_len a b xs l

    high : (i : ℕ) (t : Bool) → ltb i b ≡ t → a ≤ i → i < length xs → get_or (put_mid a (b - a) xs ys) i nan ≡ cond (within a b i) (F i) (get_or xs i nan)
    high i true e g m =
        let q : i < b = ltb-true i b e in
        let d : a + (i - a) ≡ i = omega arith in
        let p : get_or ys (i - a) nan ≡ F i = rw d at (h (i - a) (omega arith)) in
        rw (within_holds a b i g q) (grind (arith, places, p, size))
    high i false e g m =
        let q : b ≤ i = ltb-false i b e in
        rw (within_fails a b i (λ _ w. omega arith)) (grind (arith, places, size))

    low : (i : ℕ) (t : Bool) → ltb i a ≡ t → i < length xs → get_or (put_mid a (b - a) xs ys) i nan ≡ cond (within a b i) (F i) (get_or xs i nan)
    low i true e m =
        let q : i < a = ltb-true i a e in
        rw (within_fails a b i (λ w _. omega arith)) (grind (arith, places, size))
    low i false e m = high i (ltb i b) refl (ltb-false i a e) m

-- what is written from a on
pub tail_patched : (a : ℕ) (W : ℕ → Bool) (F : ℕ → Float) (xs : List Float) → a ≤ length xs → put_mid a (length xs - a) xs (patched W F (drop a xs)) ≡ patched (λ (i : ℕ). leb a i && W (i - a)) (λ (i : ℕ). F (i - a)) xs
tail_patched a W F xs l =
    is_patched (λ (i : ℕ). leb a i && W (i - a)) (λ (i : ℕ). F (i - a)) xs (put_mid a (length xs - a) xs tail) (grind (arith, places, size)) (λ (i : ℕ) (m : i < length xs). at i (leb a i) refl m)
  where
    tail : List Float
    tail = patched W F (drop a xs)

    size : length tail ≡ length xs - a
    size = patched_length W F (drop a xs) ∙ length-drop a xs

    at : (i : ℕ) (t : Bool) → leb a i ≡ t → i < length xs → get_or (put_mid a (length xs - a) xs tail) i nan ≡ cond (leb a i && W (i - a)) (F (i - a)) (get_or xs i nan)
    at i true e m =
        let q : a ≤ i = leb-true a i e in
        let d : a + (i - a) ≡ i = omega arith in
        let p : get_or tail (i - a) nan ≡ cond (W (i - a)) (F (i - a)) (get_or xs i nan) =
        get_or_patched W F (drop a xs) (i - a) nan (rw length-drop (omega arith))
        ∙ ap (λ (x : Float). cond (W (i - a)) (F (i - a)) x) (get_or-drop a xs (i - a) nan ∙ ap (λ (j : ℕ). get_or xs j nan) d) in
        rw e (grind (arith, places, p, size))
    at i false e m =
        let q : i < a = leb-false a i e in
        rw e (grind (arith, places, size))

-- a loop that writes F 0, F 1, ..
pub set_below : (F : ℕ → Float) (xs : List Float) (k : ℕ) → k < length xs → ((i : ℕ) → i < k → get_or xs i nan ≡ F i) → (i : ℕ) → i < k + 1 → get_or (set xs k (F k)) i nan ≡ F i
set_below F xs k l h i j = at (eqb i k) refl
  where
    at : (t : Bool) → eqb i k ≡ t → get_or (set xs k (F k)) i nan ≡ F i
    at true e = let q : i ≡ k = eqb-true i k e in rw q (get_or-set_same xs k (F k) nan l)
    at false e =
        let n = eqb-false i k e in
        get_or-set_other xs k i (F k) nan n ∙ h i (below n)
      where
        below : (i ≡ k → ⊥) → i < k
        below n = omega arith

-- one more by a value that is F there
pub set_below_as : (F : ℕ → Float) (xs : List Float) (k : ℕ) (x : Float) → k < length xs → x ≡ F k → ((i : ℕ) → i < k → get_or xs i nan ≡ F i) → (i : ℕ) → i < k + 1 → get_or (set xs k x) i nan ≡ F i
set_below_as F xs k x l e h i j = ap (λ (y : Float). get_or (set xs k y) i nan) e ∙ set_below F xs k l h i j
