-- The sum of the powers of the products that count is the sum over all samples: one that does not count adds +0, which changes nothing. Assumes nothing.
use Prim.Native.Nat.{ℕ, zero, suc, ◌+◌, ◌<◌}
use mathlib.Core.Path.{◌≡◌, refl, sym, ap, ◌∙◌, subst}
use mathlib.Core.Bool.{Bool, true, false, not, ◌&&◌, cond}
use mathlib.Core.List.{List, [], ◌∷◌, ◌++◌, map}
use native.Mathlib.Numerals.{add-one}
use lib.Dec.{T}
use lib.Ieee.{Float, binary64, fits, lt, le}
use lib.Ieee.Scale.{finite}
use lib.ListN.{length, take, set}
use lib.Seq.{take-suc-set}
use Rattle.doubles.specs.Arithmetic.{◌⊕◌, ◌⊗◌, zero64}
use Rattle.approximations.specs.Log2.{log2_of}
use Rattle.approximations.specs.Powers.{power_of}
use Rattle.doubles.proofs.Signs.{clear}
use Rattle.doubles.proofs.Laws.{mul-fits, add_zero_clear}
use Rattle.approximations.proofs.Laws.{exp2_finite, exp2_zero}
use Rattle.extent.specs.Kernel.{positive, shaped_of}
use Rattle.extent.proofs.KernelCases.{shaped_not, shaped_good, shaped_bad}
use Rattle.field.specs.Tables.{add_sample, sampled_over}
use Rattle.field.specs.Steps.Sums.{counts, products_of, sum_from}
use Rattle.field.proofs.Tables.{sampled_over_fits, sampled_over_clear}

-- ---- the power of a value above 0 is its shaped value
shaped_power : (v e : Float) → lt zero64 v ≡ true → shaped_of v e ≡ power_of e v
shaped_power v e p = at (lt zero64 (power_of e v)) refl
  where
    above : (x : Float) → T (finite x) → positive x ≡ lt zero64 x
    above x h = go (finite x) h
      where
        go : (b : Bool) → T b → (b && lt zero64 x) ≡ lt zero64 x
        go true t = refl
        go false t = absurd t

    test : positive (power_of e v) ≡ lt zero64 (power_of e v)
    test = above (power_of e v) (exp2_finite (e ⊗ log2_of v))

    at : (b : Bool) → lt zero64 (power_of e v) ≡ b → shaped_of v e ≡ power_of e v
    at true q = shaped_good v e (power_of e v) p refl (test ∙ q)
    at false q = shaped_bad v e (power_of e v) p refl (test ∙ q) ∙ sym (exp2_zero (e ⊗ log2_of v) (mul-fits e (log2_of v)) (subst (λ (b : Bool). T (not b)) (sym q) tt))

-- ---- one sample
add_counted : (k r e sum : Float) → T (fits binary64 sum) → T (clear sum) → add_sample k r e sum ≡ cond (counts k r) (sum ⊕ power_of e (k ⊗ r)) sum
add_counted k r e sum h c = at (le k zero64) (lt zero64 (k ⊗ r)) refl
  where
    at : (b d : Bool) → lt zero64 (k ⊗ r) ≡ d → cond b sum (sum ⊕ shaped_of (k ⊗ r) e) ≡ cond (not b && d) (sum ⊕ power_of e (k ⊗ r)) sum
    at true d q = refl
    at false true q = ap (λ (x : Float). sum ⊕ x) (shaped_power (k ⊗ r) e q)
    at false false q = ap (λ (x : Float). sum ⊕ x) (shaped_not (k ⊗ r) e q) ∙ add_zero_clear sum h c

-- ---- all samples
sum_snoc : (e x : Float) (ys : List Float) (y : Float) → sum_from x (map (power_of e) (ys ++ (y ∷ []))) ≡ sum_from x (map (power_of e) ys) ⊕ power_of e y
sum_snoc e x [] y = refl
sum_snoc e x (z ∷ ys) y = sum_snoc e (x ⊕ power_of e z) ys y

pub sum_powers : (K R : ℕ → Float) (e : Float) (c : ℕ) → sum_from zero64 (map (power_of e) (products_of K R c)) ≡ sampled_over K R e c
unfolding products_of sampled_over
sum_powers K R e zero = refl
sum_powers K R e (suc c) =
    at (counts (K c) (R c)) (sum_powers K R e c)
    ∙ sym (add_counted (K c) (R c) e (sampled_over K R e c) (sampled_over_fits K R e c) (sampled_over_clear K R e c))
  where
    at : {s : Float} (b : Bool) → sum_from zero64 (map (power_of e) (products_of K R c)) ≡ s → sum_from zero64 (map (power_of e) (cond b (products_of K R c ++ (K c ⊗ R c ∷ [])) (products_of K R c))) ≡ cond b (s ⊕ power_of e (K c ⊗ R c)) s
    at true h = sum_snoc e zero64 (products_of K R c) (K c ⊗ R c) ∙ ap (λ (x : Float). x ⊕ power_of e (K c ⊗ R c)) h
    at false h = h

-- ---- a turn of each loop
pub products_none : (K R : ℕ → Float) (y : List Float) → take 0 y ≡ products_of K R 0
unfolding products_of
products_none K R y = refl

pub products_more : (K R : ℕ → Float) (s m : ℕ) (y : List Float) → m < length y → take m y ≡ products_of K R s → counts (K s) (R s) ≡ true → take (m + 1) (set y m (K s ⊗ R s)) ≡ products_of K R (s + 1)
unfolding products_of
products_more K R s m y l h c = rw (add-one, add-one, c, take-suc-set y m (K s ⊗ R s) l, h)

pub products_same : (K R : ℕ → Float) (s m : ℕ) (y : List Float) → take m y ≡ products_of K R s → counts (K s) (R s) ≡ false → take m y ≡ products_of K R (s + 1)
unfolding products_of
products_same K R s m y h c = rw (add-one, c) h
