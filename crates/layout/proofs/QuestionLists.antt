-- Lists of questions: the first no of one list behind another.
use Prim.Native.Nat.{ℕ, ◌≤◌}
use mathlib.Core.Path.{◌≡◌, refl, sym, ap, ◌∙◌}
use mathlib.Core.Bool.{Bool, true, false, cond}
use mathlib.Core.List.{List, [], ◌∷◌, ◌++◌}
use native.Mathlib.Omega.{arith}
use borrow.Author.Tests.{eqb-true, eqb-false, ne_eqb}
use lib.Dec.{eqb}
use Rattle.layout.specs.declared.Layout.{Layout}
use Rattle.layout.specs.Questions.{Question, first_no, or_else, layout_questions}

-- each has a number from 1 up
abbrev pub Numbered : List Question → Type 0
Numbered [] = Unit {0}
Numbered (q ∷ qs) = (1 ≤ q.number) × Numbered qs

pub numbered_append : (qs rs : List Question) → Numbered qs → Numbered rs → Numbered (qs ++ rs)
numbered_append [] rs h k = k
numbered_append (q ∷ qs) rs h k = (h.0, numbered_append qs rs h.1 k)

pub layout_numbered : (l : Layout) → Numbered (layout_questions l)
unfolding layout_questions
layout_numbered l = (omega arith, (omega arith, (omega arith, (omega arith, (omega arith, (omega arith, tt))))))

-- the first of two lists that has a no tells it
pub first_or_lem : (qs rs : List Question) → Numbered qs → first_no (qs ++ rs) ≡ or_else (first_no qs) (first_no rs)
first_or_lem [] rs h = refl
first_or_lem (q ∷ qs) rs h = go q.yes (first_or_lem qs rs h.1)
  where
    go : (b : Bool) → first_no (qs ++ rs) ≡ or_else (first_no qs) (first_no rs) → cond b (first_no (qs ++ rs)) q.number ≡ or_else (cond b (first_no qs) q.number) (first_no rs)
    go true e = e
    go false e = sym (ap (λ (c : Bool). cond c (first_no rs) q.number) (ne_eqb q.number 0 (λ z. omega (arith, h.0, z))))

-- one question that is answered yes, with none behind it that is not
pub yes_first : (b : Bool) (rest number : ℕ) → 1 ≤ number → cond b rest number ≡ 0 → (b ≡ true) × (rest ≡ 0)
yes_first true rest number h e = (refl, e)
yes_first false rest number h e = absurd (omega arith)

-- ---- the first of two refusals
pub or_none : (p q : ℕ) → p ≡ 0 → or_else p q ≡ q
or_none p q e = ap (λ (k : ℕ). cond (eqb k 0) q k) e

pub or_first : (p q : ℕ) → (p ≡ 0 → ⊥) → or_else p q ≡ p
or_first p q n = ap (λ (b : Bool). cond b q p) (ne_eqb p 0 n)

pub or_nothing : (p : ℕ) → or_else p 0 ≡ p
or_nothing p = go (eqb p 0) refl
  where
    go : (b : Bool) → eqb p 0 ≡ b → cond b 0 p ≡ p
    go true e = sym (eqb-true p 0 e)
    go false e = refl

pub or_yes : (p q : ℕ) → or_else p q ≡ 0 → (p ≡ 0) × (q ≡ 0)
or_yes p q e = go (eqb p 0) refl e
  where
    go : (b : Bool) → eqb p 0 ≡ b → cond b q p ≡ 0 → (p ≡ 0) × (q ≡ 0)
    go true d z = (eqb-true p 0 d, z)
    go false d z = absurd (eqb-false p 0 d z)

-- no no among two lists
pub first_front : (qs rs : List Question) → Numbered qs → first_no (qs ++ rs) ≡ 0 → (first_no qs ≡ 0) × (first_no rs ≡ 0)
first_front qs rs h e = or_yes (first_no qs) (first_no rs) (sym (first_or_lem qs rs h) ∙ e)
