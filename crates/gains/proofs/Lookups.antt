-- The laws of brackets and lookups that other proofs cite. Assumes nothing.
use Prim.Native.Nat.{ℕ, suc, ◌+◌, ◌-◌, ◌*◌, ◌≤◌, ◌<◌}
use mathlib.Core.Path.{◌≡◌, refl, sym, ap, ◌∙◌, subst}
use mathlib.Core.Logic.{◌⊎◌, inl, inr}
use mathlib.Core.Bool.{Bool, true, false}
use mathlib.Core.List.{List}
use native.Mathlib.Nat.{le_refl}
use native.Mathlib.Omega.{arith}
use lib.Dec.{T}
use lib.Ieee.{Float, nan, inf, fin, binary64, add, mul, lt, le, eq, fits}
use lib.Ieee.Scale.{finite}
use lib.ListN.{length, get_or}
use Rattle.std.proofs.lemmas.Float.{T_from_true, le_of_lt}
use Rattle.doubles.specs.Arithmetic.{◌⊕◌, ◌⊖◌, ◌⊘◌, one64, zero64}
use Rattle.doubles.proofs.Laws.{add-fits, lerp_clear}
use Rattle.doubles.proofs.Magnitude.{plain_finite}
use Rattle.doubles.proofs.Signs.{clear}
use Rattle.doubles.proofs.Bound.{zero_le_plain}
use Rattle.gains.specs.declared.Bracket.{Bracket}
use Rattle.field.specs.Knots.{X, Y, Z}
use Rattle.gains.specs.Lookup.{centre_knots, radius_knots, at_knot, bracket_of, mixed, at_centre, lookup_of}
use Rattle.field.specs.Responses.{count_below}
use Rattle.gains.proofs.lookup.Comparing.{le_of_not_lt, nan_of, between_plain}
use Rattle.gains.proofs.lookup.Listing.{below_before, below_at}
use Rattle.gains.proofs.lookup.Rising.{Rising, rising_wide, rising_high, rising_radius}
use Rattle.gains.proofs.lookup.Cases.{at_first, at_last, between_by, some_below, at_no_number}
use Rattle.gains.proofs.lookup.Quotient.{quotient_up_to}

-- ---- a bracket's numbers

-- where v stands: a NaN gives a NaN, and any other v a finite number from 0 to 1
abbrev pub Share : Float → Float → Type 0
Share v t = ((v ≡ nan) × (t ≡ nan)) ⊎ (T (finite t) × T (le zero64 t) × T (le t one64))

-- the bracket of v among knots 0 to last
pub record Placed (last : ℕ) (v : Float) (b : Bracket) : Type 0 where
  pub order : b.lower ≤ b.upper
  pub within : b.upper ≤ last
  pub double : T (fits binary64 b.t)
  pub share : Share v b.t

at_knot_lem : (last : ℕ) (v : Float) (i : ℕ) → i ≤ last → Placed last v (at_knot i)
unfolding lt le eq fits
at_knot_lem last v i h = record { order = le_refl i; within = h; double = tt; share = inr (tt, tt, tt) }

module _ (xs : List Float) (r : Rising xs) (v : Float) (d : T (fits binary64 v)) where
  abbrev last : ℕ
  last = length xs - 1

  -- between two knots
  between : lt zero64 v ≡ true → le (get_or xs last nan) v ≡ false → Placed last v (bracket_of xs v)
  between h e =
      let k = count_below v xs in
      let s = some_below xs r v h e in
      let j : suc (k - 1) ≡ k = omega arith in
      let a = get_or xs (k - 1) nan in
      let b = get_or xs k nan in
      let under : lt a v ≡ true = below_before v xs (k - 1) (omega arith) in
      let over : lt b v ≡ false = below_at v xs (omega arith) in
      let apart : lt zero64 (b ⊖ a) ≡ true = ap (λ (i : ℕ). lt zero64 (get_or xs i nan ⊖ a)) (sym j) ∙ r.apart (k - 1) (omega arith) in
      let p = between_plain zero64 (get_or xs last nan) v tt (r.plains last (omega arith)) h e in
      let pa = r.plains (k - 1) (omega arith) in
      let pb = r.plains k (omega arith) in
      let q = quotient_up_to binary64 a v b (r.doubles (k - 1) (omega arith)) d (r.doubles k (omega arith)) pa p pb (le_of_lt a v (T_from_true _ under)) (T_from_true _ (le_of_not_lt b v (plain_finite b pb) (plain_finite v p) over)) apart in
      let t = (v ⊖ a) ⊘ (b ⊖ a) in
      subst (Placed last v) (sym (between_by xs r v h e))
      (record { order = omega arith; within = omega arith; double = q.0; share = inr (plain_finite t q.1, zero_le_plain t q.1, q.2) })

  pub placed : Placed last v (bracket_of xs v)
  placed = go (le v zero64) (lt zero64 v) (le (get_or xs last nan) v) refl refl refl
    where
      go : (a b c : Bool) → le v zero64 ≡ a → lt zero64 v ≡ b → le (get_or xs last nan) v ≡ c → Placed last v (bracket_of xs v)
      go true b c e g h = subst (Placed last v) (sym (at_first xs r v e)) (at_knot_lem last v 0 (omega arith))
      go false false c e g h =
          let z = nan_of v g e in
          subst (Placed last v) (sym (at_no_number xs r v g e)) (record { order = omega arith; within = omega arith; double = d; share = inl (z, z) })
      go false true true e g h = subst (Placed last v) (sym (at_last xs r v g h)) (at_knot_lem last v last (omega arith))
      go false true false e g h = between g h

pub placed_X : (v : Float) → T (fits binary64 v) → Placed 34 v (bracket_of (centre_knots X) v)
placed_X v d = placed (centre_knots X) rising_wide v d

pub placed_Y : (v : Float) → T (fits binary64 v) → Placed 34 v (bracket_of (centre_knots Y) v)
placed_Y v d = placed (centre_knots Y) rising_wide v d

pub placed_Z : (v : Float) → T (fits binary64 v) → Placed 3 v (bracket_of (centre_knots Z) v)
placed_Z v d = placed (centre_knots Z) rising_high v d

pub placed_radius : (v : Float) → T (fits binary64 v) → Placed 19 v (bracket_of radius_knots v)
placed_radius v d = placed radius_knots rising_radius v d

-- ---- lookups
add_nan : (a : Float) → T (clear (a ⊕ nan))
unfolding add
add_nan nan = tt
add_nan (inf s) = tt
add_nan (fin s m e) = tt

mixed_nan : (a b : Float) → T (clear (mixed a b nan))
unfolding mul
mixed_nan a b = add_nan a

mixed_clear : (v a b t : Float) → T (fits binary64 a) → T (clear a) → T (clear b) → T (fits binary64 t) → Share v t → T (clear (mixed a b t))
mixed_clear v a b t h p q k (inl s) = subst (λ (z : Float). T (clear (mixed a b z))) (sym s.1) (mixed_nan a b)
mixed_clear v a b t h p q k (inr s) = lerp_clear a b t h k p q s.1 s.2

module _ (last : ℕ) (v w : Float) (c r : Bracket) (C : Placed last v c) (R : Placed 19 w r) where
  -- the four rows are of the table
  in_table : (i j : ℕ) → i ≤ c.upper → j ≤ r.upper → i * 20 + j < last * 20 + 20
  in_table i j h k = let m = C.within in let n = R.within in omega arith

  -- clear numbers that are doubles give a clear number
  pub lookup_clear : (row : ℕ → Float) → ((i : ℕ) → i < last * 20 + 20 → T (clear (row i))) → ((i : ℕ) → i < last * 20 + 20 → T (fits binary64 (row i))) → T (clear (lookup_of row c r))
  unfolding lookup_of
  lookup_clear row p q =
      let o = R.order in
      let at : (i : ℕ) → i ≤ c.upper → T (clear (at_centre row r i)) =
      λ (i : ℕ) (h : i ≤ c.upper).
      let m = in_table i r.lower h o in
      mixed_clear w (row (i * 20 + r.lower)) (row (i * 20 + r.upper)) r.t (q (i * 20 + r.lower) m) (p (i * 20 + r.lower) m) (p (i * 20 + r.upper) (in_table i r.upper h (le_refl r.upper))) R.double R.share in
      mixed_clear v (at_centre row r c.lower) (at_centre row r c.upper) c.t (add-fits _ _) (at c.lower C.order) (at c.upper (le_refl c.upper)) C.double C.share

  -- rows that agree within the table give one number
  pub lookup_same : (f g : ℕ → Float) → ((i : ℕ) → i < last * 20 + 20 → f i ≡ g i) → lookup_of f c r ≡ lookup_of g c r
  unfolding lookup_of
  lookup_same f g e =
      let o = R.order in
      let u = le_refl r.upper in
      let at : (i : ℕ) → i ≤ c.upper → at_centre f r i ≡ at_centre g r i =
      λ (i : ℕ) (h : i ≤ c.upper).
      ap (λ (x : Float). mixed x (f (i * 20 + r.upper)) r.t) (e (i * 20 + r.lower) (in_table i r.lower h o))
      ∙ ap (λ (x : Float). mixed (g (i * 20 + r.lower)) x r.t) (e (i * 20 + r.upper) (in_table i r.upper h u)) in
      ap (λ (x : Float). mixed x (at_centre f r c.upper) c.t) (at c.lower C.order)
      ∙ ap (λ (x : Float). mixed (at_centre g r c.lower) x c.t) (at c.upper (le_refl c.upper))
