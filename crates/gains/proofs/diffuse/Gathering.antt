-- The values above 0, gathered and put back: how many come before one, and where it stands. Assumes nothing.
use Prim.Native.Nat.{ℕ, zero, suc, ◌+◌, ◌≤◌, ◌<◌}
use mathlib.Core.Path.{◌≡◌, refl, sym, ap, ◌∙◌, subst}
use mathlib.Core.Logic.{⊎_elim}
use mathlib.Core.Bool.{Bool, true, false, cond, true≢false}
use mathlib.Core.List.{List, ◌++◌}
use native.Mathlib.Numerals.{add-one}
use native.Mathlib.Omega.{arith}
use lib.Ieee.{Float, nan, lt}
use lib.ListN.{length, get_or, set, get_or-append}
use lib.Seq.{get_or-set_same, get_or-set_other}
use Rattle.std.proofs.lemmas.Bool.{cases_lt}
use Rattle.doubles.specs.Arithmetic.{◌⊘◌, zero64}
use Rattle.approximations.specs.Exp2.{exp2_of}
use Rattle.approximations.specs.Log2.{log2_of}
use Rattle.gains.specs.Lookup.{channels}
use Rattle.gains.specs.Steps.Gathered.{above_before, Gathered, scattered}
use Rattle.gains.proofs.diffuse.Channels.{channels_cong}
use Rattle.gains.proofs.diffuse.Steps.{power_of}

module _ (fields : List Float) where
  abbrev above : ℕ → Bool
  above k = lt zero64 (get_or fields k nan)

  pub above_none : 0 ≡ above_before fields 0
  unfolding above_before
  above_none = refl

  -- one that is above 0 is counted after it
  next : (k : ℕ) → above k ≡ true → above_before fields (suc k) ≡ suc (above_before fields k)
  unfolding above_before
  next k t = rw t

  pub above_more : (k m : ℕ) → m ≡ above_before fields k → above k ≡ true → m + 1 ≡ above_before fields (k + 1)
  above_more k m e t = let q : k + 1 ≡ suc k = omega arith in let n = next k t in subst (λ (i : ℕ). m + 1 ≡ above_before fields i) (sym q) (omega arith)

  pub above_same : (k m : ℕ) → m ≡ above_before fields k → above k ≡ false → m ≡ above_before fields (k + 1)
  unfolding above_before
  above_same k m e t = rw (add-one, t, e)

  step : (k : ℕ) → (above_before fields k ≤ above_before fields (suc k)) × (above_before fields (suc k) ≤ suc (above_before fields k))
  unfolding above_before
  step k = go (above k) (above_before fields k)
    where
      go : (b : Bool) (m : ℕ) → (m ≤ cond b (suc m) m) × (cond b (suc m) m ≤ suc m)
      go true m = (omega arith, omega arith)
      go false m = (omega arith, omega arith)

  pub above_less : (j k : ℕ) → j < k → above j ≡ true → above_before fields j < above_before fields k
  above_less j zero h t = absurd (omega arith)
  above_less j (suc k) h t =
      ⊎_elim
      (λ (l : j < k). let r = above_less j k l t in let s = (step k).0 in omega arith)
      (λ (l : k ≤ j). let e : j ≡ k = omega arith in let n = next j t in subst (λ (i : ℕ). above_before fields j < above_before fields (suc i)) e (omega arith))
      (cases_lt j k)

  -- ---- gathering
  module _ (f : Float → Float) where
    pub gathered_none : (l : List Float) → Gathered f fields 0 l
    gathered_none l = record { at = λ k h t. absurd (omega arith) }

    pub gathered_same : (k : ℕ) (l : List Float) → above k ≡ false → Gathered f fields k l → Gathered f fields (k + 1) l
    gathered_same k l e g = record { at = find }
      where
        find : (j : ℕ) → j < k + 1 → above j ≡ true → get_or l (above_before fields j) nan ≡ f (get_or fields j nan)
        find j h t =
            ⊎_elim
            (λ (i : j < k). g.at j i t)
            (λ (i : k ≤ j). let q : k ≡ j = omega arith in absurd (true≢false (sym t ∙ ap above (sym q) ∙ e)))
            (cases_lt j k)

    pub gathered_more : (k m : ℕ) (l : List Float) (v : Float) → m ≡ above_before fields k → m < length l → v ≡ f (get_or fields k nan) → Gathered f fields k l → Gathered f fields (k + 1) (set l m v)
    gathered_more k m l v c r e g = record { at = find }
      where
        find : (j : ℕ) → j < k + 1 → above j ≡ true → get_or (set l m v) (above_before fields j) nan ≡ f (get_or fields j nan)
        find j h t =
            ⊎_elim
            (λ (i : j < k). let s = above_less j k i t in get_or-set_other l m (above_before fields j) v nan (λ q. absurd (omega arith)) ∙ g.at j i t)
            (λ (i : k ≤ j). let q : j ≡ k = omega arith in subst (λ (i : ℕ). get_or (set l m v) (above_before fields i) nan ≡ f (get_or fields i nan)) (sym q) (ap (λ (z : ℕ). get_or (set l m v) z nan) (sym c) ∙ get_or-set_same l m v nan r ∙ e))
            (cases_lt j k)

-- ---- the powers of what was gathered, put back
pub powers_back : (fields l p rest out : List Float) (m : ℕ) (e : Float) → length fields ≤ length l → m ≡ above_before fields (length fields) → Gathered (λ (x : Float). log2_of x ⊘ e) fields (length fields) l → length p ≡ m → ((j : ℕ) → j < m → get_or p j nan ≡ exp2_of (get_or l j nan))
    → out ≡ channels (length fields) (scattered fields (p ++ rest)) → out ≡ channels (length fields) (λ (k : ℕ). power_of (get_or fields k nan) e)
powers_back fields l p rest out m e room c g longs q r =
    r ∙ channels_cong (length fields) (scattered fields (p ++ rest)) (λ (k : ℕ). power_of (get_or fields k nan) e) (λ k h. one k h (lt zero64 (get_or fields k nan)) refl)
  where
    one : (k : ℕ) → k < length fields → (b : Bool) → lt zero64 (get_or fields k nan) ≡ b → cond b (get_or (p ++ rest) (above_before fields k) nan) zero64 ≡ cond b (exp2_of (log2_of (get_or fields k nan) ⊘ e)) zero64
    one k h false t = refl
    one k h true t =
        let j = above_before fields k in
        let less : j < m = let s = above_less fields k (length fields) h t in omega arith in
        get_or-append p rest nan j (omega arith) ∙ q j less ∙ ap exp2_of (g.at k h t)

-- ---- what is put back, by the test
pub scattered_some : (fields l : List Float) (k m : ℕ) → m ≡ above_before fields k → lt zero64 (get_or fields k nan) ≡ true → get_or l m nan ≡ scattered fields l k
scattered_some fields l k m e t = rw (t, e)

pub scattered_none : (fields l : List Float) (k : ℕ) → lt zero64 (get_or fields k nan) ≡ false → zero64 ≡ scattered fields l k
scattered_none fields l k t = rw t
