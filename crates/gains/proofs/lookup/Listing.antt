-- Lists made by `tabulate`, and how many of a list, from the front, are below a number. Assumes nothing.
use Prim.Native.Nat.{ℕ, zero, suc, ◌+◌, ◌<◌, ◌≤◌}
use mathlib.Core.Path.{◌≡◌, refl, sym, ap, ◌∙◌}
use mathlib.Core.Logic.{⊎_elim}
use mathlib.Core.Bool.{true, false, cond, true≢false}
use mathlib.Core.List.{List, [], ◌∷◌, ◌++◌}
use native.Mathlib.Nat.{eq-or-lt_of_le, le_of_suc-le-suc}
use native.Mathlib.Omega.{arith}
use lib.Ieee.{Float, nan, inf, fin, lt}
use lib.ListN.{length, get_or, length-append, get_or-append}
use lib.Seq.{get_or-append_seam}
use Rattle.std.specs.List.{prefix_len}
use Rattle.std.proofs.lemmas.List.Sums.{prefix_len_passes, prefix_len_stops}
use Rattle.gains.specs.Lookup.{tabulate}
use Rattle.field.specs.Responses.{count_below}

-- ---- f 0, f 1, ..
pub length_listed : (f : ℕ → Float) (n : ℕ) → length (tabulate f n) ≡ n
length_listed f zero = refl
length_listed f (suc n) = let h = length_listed f n in length-append (tabulate f n) (f n ∷ []) ∙ omega arith

pub get_or_listed : (f : ℕ → Float) (n i : ℕ) (d : Float) → i < n → get_or (tabulate f n) i d ≡ f i
get_or_listed f zero i d h = absurd (omega arith)
get_or_listed f (suc n) i d h =
    let l = length_listed f n in
    ⊎_elim
    (λ (e : i ≡ n). rw e (ap (λ (j : ℕ). get_or (tabulate f n ++ (f n ∷ [])) j d) (sym l) ∙ get_or-append_seam (tabulate f n) (f n) [] d))
    (λ (k : i < n). get_or-append (tabulate f n) (f n ∷ []) d i (rw l k) ∙ get_or_listed f n i d k)
    (eq-or-lt_of_le (le_of_suc-le-suc h))

-- ---- how many are below u

pub below_prefix : (u : Float) (xs : List Float) → prefix_len (λ x. lt x u) xs ≡ count_below u xs
below_prefix u [] = refl
below_prefix u (x ∷ xs) = ap (λ n. cond (lt x u) (1 + n) 0) (below_prefix u xs)

-- each before it is below u
pub below_before : (u : Float) (xs : List Float) (i : ℕ) → i < count_below u xs → lt (get_or xs i nan) u ≡ true
below_before u xs i h = prefix_len_passes (λ x. lt x u) xs i nan (rw (below_prefix u xs) h)

-- and the one at it is not
pub below_at : (u : Float) (xs : List Float) → count_below u xs < length xs → lt (get_or xs (count_below u xs) nan) u ≡ false
below_at u xs h = rw (← below_prefix u xs) (prefix_len_stops (λ x. lt x u) xs nan (rw (below_prefix u xs) h))

-- at most k, where k is not below u
pub below_most : (u : Float) (xs : List Float) (k : ℕ) → lt (get_or xs k nan) u ≡ false → count_below u xs ≤ k
below_most u xs k e =
    let no : k < count_below u xs → ⊥ = λ h. true≢false (sym (below_before u xs k h) ∙ e) in
    omega arith

-- some, where the first is
pub below_some : (u : Float) (xs : List Float) → lt (get_or xs 0 nan) u ≡ true → 0 < length xs → 1 ≤ count_below u xs
below_some u [] e h = absurd (omega arith)
below_some u (x ∷ xs) e h = rw e (omega arith)

-- none is below a NaN
none : (x : Float) → lt x nan ≡ false
unfolding lt
none nan = refl
none (inf s) = refl
none (fin s m e) = refl

pub below_nan : (xs : List Float) → count_below nan xs ≡ 0
below_nan [] = refl
below_nan (x ∷ xs) = rw (none x)
