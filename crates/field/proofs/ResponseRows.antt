-- Weights added one after another at the places of their channels in a row: each number becomes the sum that `added_up` says. Assumes nothing.
use Prim.Native.Nat.{ℕ, zero, suc, ◌+◌, ◌≤◌, ◌<◌}
use mathlib.Core.Path.{◌≡◌, refl, sym, ap, ◌∙◌}
use mathlib.Core.Bool.{Bool, true, false, not, ◌||◌, cond}
use mathlib.Core.List.{List, [], ◌∷◌, ◌++◌, append-nil}
use native.Mathlib.Numerals.{one-add}
use native.Mathlib.Omega.{arith}
use borrow.Author.Tests.{eq-eqb, ne_eqb, eqb-true, eqb-false}
use lib.Dec.{T, eqb, ltb→lt}
use lib.Ieee.{Float, nan}
use lib.Ieee.Fits.{and_l, and_r}
use lib.ListN.{length, get_or, set, length-set}
use lib.Seq.{get_or-set_same, get_or-set_other, append_snoc}
use Rattle.doubles.specs.Arithmetic.{◌⊕◌, zero64}
use Rattle.lists.specs.Lists.{elem, all_distinct, index_of}
use Rattle.std.specs.List.{list_all}
use Rattle.lists.proofs.Tests.{elem_place}
use Rattle.field.specs.Responses.{Weight, added_up}

-- ---- the place of a name in a list

pub place_within : (n : ℕ) (names : List ℕ) → T (elem n names) → index_of n names < length names
place_within n names t = ltb→lt (index_of n names) (length names) (rw (elem_place n names) at t)

place_holds : (n : ℕ) (names : List ℕ) → T (elem n names) → get_or names (index_of n names) 0 ≡ n
place_holds n [] t = absurd t
place_holds n (x ∷ xs) t = go (eqb x n) refl (place_holds n xs) t
  where
    go : (b : Bool) → eqb x n ≡ b → (T (elem n xs) → get_or xs (index_of n xs) 0 ≡ n) → T (b || elem n xs) → get_or (x ∷ xs) (cond b 0 (1 + index_of n xs)) 0 ≡ n
    go true e f h = eqb-true x n e
    go false e f h = rw one-add (f h)

elem_at : (names : List ℕ) (k : ℕ) → k < length names → T (elem (get_or names k 0) names)
elem_at [] k h = absurd (omega arith)
elem_at (x ∷ xs) zero h = rw (eq-eqb x x refl) tt
elem_at (x ∷ xs) (suc k) h = go (eqb x (get_or xs k 0)) (elem_at xs k (omega arith))
  where
    go : (b : Bool) → T (elem (get_or xs k 0) xs) → T (b || elem (get_or xs k 0) xs)
    go true t = tt
    go false t = t

not_both : (b : Bool) → T (not b) → T b → ⊥
not_both true p q = p
not_both false p q = q

-- no two names are equal, so the k-th has place k
place_at : (names : List ℕ) (k : ℕ) → T (all_distinct names) → k < length names → index_of (get_or names k 0) names ≡ k
place_at [] k d h = absurd (omega arith)
place_at (x ∷ xs) zero d h = rw (eq-eqb x x refl)
place_at (x ∷ xs) (suc k) d h =
    let other : x ≡ get_or xs k 0 → ⊥ = λ e. not_both (elem x xs) (and_l (not (elem x xs)) (all_distinct xs) d) (rw e (elem_at xs k (omega arith))) in
    rw (ne_eqb x (get_or xs k 0) other, place_at xs k (and_r (not (elem x xs)) (all_distinct xs) d) (omega arith), one-add k)

-- ---- one weight after another
abbrev pub weight_added : List ℕ → Weight → List Float → List Float
weight_added names w out = set out (index_of w.name names) (get_or out (index_of w.name names) nan ⊕ w.weight)

abbrev pub weights_added : List ℕ → List Weight → List Float → List Float
weights_added names [] out = out
weights_added names (w ∷ ws) out = weights_added names ws (weight_added names w out)

-- each weight's channel is one of the names
abbrev pub named : List ℕ → Weight → Bool
named names w = elem w.name names

added_last : (s : Float) (name : ℕ) (ws : List Weight) (w : Weight) → added_up s name (ws ++ (w ∷ [])) ≡ cond (eqb w.name name) (added_up s name ws ⊕ w.weight) (added_up s name ws)
unfolding added_up
added_last s name [] w = refl
added_last s name (x ∷ ws) w = added_last (cond (eqb x.name name) (s ⊕ x.weight) s) name ws w

module _ (names : List ℕ) (distinct : T (all_distinct names)) where
  -- the row's numbers are the sums of the weights so far
  abbrev pub Row : List Weight → List Float → Type 0
  Row done out = (k : ℕ) → k < length names → get_or out k nan ≡ added_up zero64 (get_or names k 0) done

  row_step : (done : List Weight) (w : Weight) (out : List Float) → T (named names w) → length names ≤ length out → Row done out → Row (done ++ (w ∷ [])) (weight_added names w out)
  row_step done w out t h r k l = go (eqb p k) refl
    where
      p : ℕ
      p = index_of w.name names

      inside : p < length names
      inside = place_within w.name names t

      here : get_or (weight_added names w out) p nan ≡ added_up zero64 (get_or names p 0) (done ++ (w ∷ []))
      here =
          get_or-set_same out p (get_or out p nan ⊕ w.weight) nan (omega (arith, inside))
          ∙ ap (λ (x : Float). x ⊕ w.weight) (r p inside)
          ∙ sym (added_last zero64 (get_or names p 0) done w ∙ rw (eq-eqb w.name (get_or names p 0) (sym (place_holds w.name names t))))

      go : (b : Bool) → eqb p k ≡ b → get_or (weight_added names w out) k nan ≡ added_up zero64 (get_or names k 0) (done ++ (w ∷ []))
      go true e = rw (← eqb-true p k e) here
      go false e =
          let n = eqb-false p k e in
          let other : w.name ≡ get_or names k 0 → ⊥ = λ q. n (ap (λ (m : ℕ). index_of m names) q ∙ place_at names k distinct l) in
          get_or-set_other out p k (get_or out p nan ⊕ w.weight) nan (λ q. n (sym q))
          ∙ r k l
          ∙ sym (added_last zero64 (get_or names k 0) done w ∙ rw (ne_eqb w.name (get_or names k 0) other))

  row_steps : (done ws : List Weight) (out : List Float) → T (list_all (named names) ws) → length names ≤ length out → Row done out → Row (done ++ ws) (weights_added names ws out)
  row_steps done [] out t h r = rw (append-nil done) r
  row_steps done (w ∷ ws) out t h r =
      rw (← append_snoc done w ws)
      (row_steps (done ++ (w ∷ [])) ws (weight_added names w out) (and_r (named names w) (list_all (named names) ws) t) (rw length-set h)
      (row_step done w out (and_l (named names w) (list_all (named names) ws) t) h r))

  -- in a row of zeros they are the sums of all weights
  pub row_holds : (ws : List Weight) (out : List Float) → T (list_all (named names) ws) → length names ≤ length out → ((k : ℕ) → k < length names → get_or out k nan ≡ zero64) → Row ws (weights_added names ws out)
  unfolding added_up
  row_holds ws out t h zeros = row_steps [] ws out t h zeros

pub weights_append : (names : List ℕ) (ws vs : List Weight) (out : List Float) → weights_added names (ws ++ vs) out ≡ weights_added names vs (weights_added names ws out)
weights_append names [] vs out = refl
weights_append names (w ∷ ws) vs out = weights_append names ws vs (weight_added names w out)
