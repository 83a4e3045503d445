-- The cases of `bracket_of`, for knots that rise from 0. Assumes nothing.
use Prim.Native.Nat.{ℕ, ◌+◌, ◌-◌, ◌≤◌, ◌<◌}
use mathlib.Core.Path.{◌≡◌, refl, ap, ◌∙◌}
use mathlib.Core.Bool.{true, false}
use mathlib.Core.List.{List}
use native.Mathlib.Omega.{arith}
use lib.Ieee.{Float, nan, lt, le, sub, add, div}
use lib.ListN.{length, get_or}
use Rattle.std.specs.List.{prefix_len}
use Rattle.std.proofs.lemmas.List.Sums.{prefix_len_is}
use Rattle.doubles.specs.Arithmetic.{zero64}
use Rattle.field.specs.Responses.{count_below}
use Rattle.field.proofs.ResponseOrder.{not_lt_of_not_le}
use Rattle.gains.specs.declared.Bracket.{Bracket}
use Rattle.gains.specs.Lookup.{at_knot, between_knots, bracket_of}
use Rattle.gains.proofs.lookup.Comparing.{not_le_of_lt, nan_of, no_less}
use Rattle.gains.proofs.lookup.Listing.{below_most, below_some, below_nan}
use Rattle.gains.proofs.lookup.Rising.{Rising, all_below}

-- ---- by the tests of the definition
is_first : (xs : List Float) (v : Float) → le v (get_or xs 0 nan) ≡ true → bracket_of xs v ≡ at_knot 0
unfolding bracket_of
is_first xs v e = rw e

is_last : (xs : List Float) (v : Float) → le v (get_or xs 0 nan) ≡ false → le (get_or xs (length xs - 1) nan) v ≡ true → bracket_of xs v ≡ at_knot (length xs - 1)
unfolding bracket_of
is_last xs v e g = rw (e, g)

is_between_lem : (xs : List Float) (v : Float) → le v (get_or xs 0 nan) ≡ false → le (get_or xs (length xs - 1) nan) v ≡ false → bracket_of xs v ≡ between_knots xs v (count_below v xs)
unfolding bracket_of
is_between_lem xs v e g = rw (e, g)

-- a NaN stays
abbrev pub no_number : Float → Bracket
no_number v = record { lower = 0; upper = 0; t = v }

module _ (xs : List Float) (r : Rising xs) where
  module _ (v : Float) where
    pub at_first : le v zero64 ≡ true → bracket_of xs v ≡ at_knot 0
    at_first e = is_first xs v (rw r.first e)

    pub at_last : lt zero64 v ≡ true → le (get_or xs (length xs - 1) nan) v ≡ true → bracket_of xs v ≡ at_knot (length xs - 1)
    at_last h e = is_last xs v (rw r.first (not_le_of_lt zero64 v h)) e

    pub between_by : lt zero64 v ≡ true → le (get_or xs (length xs - 1) nan) v ≡ false → bracket_of xs v ≡ between_knots xs v (count_below v xs)
    between_by h e = is_between_lem xs v (rw r.first (not_le_of_lt zero64 v h)) e

    -- some are below v, and not the last
    pub some_below : lt zero64 v ≡ true → le (get_or xs (length xs - 1) nan) v ≡ false → (1 ≤ count_below v xs) × (count_below v xs < length xs)
    some_below h e =
        let s = r.some in
        let some : 1 ≤ count_below v xs = below_some v xs (ap (λ (x : Float). lt x v) r.first ∙ h) (omega arith) in
        let most : count_below v xs ≤ length xs - 1 = below_most v xs (length xs - 1) (not_lt_of_not_le (get_or xs (length xs - 1) nan) v e) in
        (some, omega arith)

    -- one more than a knot below v before one that is not
    pub below_next : (k : ℕ) → k + 1 < length xs → lt (get_or xs k nan) v ≡ true → lt (get_or xs (k + 1) nan) v ≡ false → prefix_len (λ x. lt x v) xs ≡ k + 1
    below_next k h e g =
        prefix_len_is (λ x. lt x v) xs (k + 1) nan (omega arith) (λ (i : ℕ) (l : i < k + 1). all_below xs v r k (omega arith) e i (omega arith)) (λ l. g)

  at_nan : bracket_of xs nan ≡ no_number nan
  unfolding sub add div lt le
  at_nan = is_between_lem xs nan (refl) (no_less (get_or xs (length xs - 1) nan)) ∙ ap (between_knots xs nan) (below_nan xs)

  pub at_no_number : (v : Float) → lt zero64 v ≡ false → le v zero64 ≡ false → bracket_of xs v ≡ no_number v
  at_no_number v h e = rw (nan_of v h e) at_nan
