-- What `fill_place` tests is the opposite of `fillable`. Assumes nothing.
use Prim.Native.Nat.{ℕ, ◌≤◌, ◌<◌}
use mathlib.Core.Path.{◌≡◌, refl, sym, ap, ap₂, ◌∙◌}
use mathlib.Core.Bool.{Bool, true, false, ◌&&◌, ◌||◌, not, cond}
use native.Mathlib.Omega.{arith}
use borrow.Author.Tests.{ltb-true, ltb-false, leb-true, leb-false, eqb-true, lt-ltb, le-ltb, not-true, not-false}
use lib.Dec.{leb, ltb, eqb}
use Rattle.std.specs.Prelude.{Result, Ok, Err, is_err}
use Rattle.std.proofs.lemmas.Bool.{and_parts}
use Rattle.layout.specs.declared.refusal.Refusal.{Refusal}
use Rattle.layout.specs.Refusals.{refusal_of, answer_by}

-- ---- each test is the opposite of the other
short : (n s : ℕ) → ltb s n ≡ not (leb n s)
short n s = go (leb n s) refl
  where
    go : (t : Bool) → leb n s ≡ t → ltb s n ≡ not (leb n s)
    go true e = le-ltb s n (leb-true n s e) ∙ sym (ap not e)
    go false e = lt-ltb s n (leb-false n s e) ∙ sym (ap not e)

beyond : (p : ℕ) → ltb 7 p ≡ not (ltb p 8)
beyond p = go (ltb p 8) refl
  where
    go : (t : Bool) → ltb p 8 ≡ t → ltb 7 p ≡ not (ltb p 8)
    go true e = let h = ltb-true p 8 e in le-ltb 7 p (omega arith) ∙ sym (ap not e)
    go false e = let h = ltb-false p 8 e in lt-ltb 7 p (omega arith) ∙ sym (ap not e)

opposite : (x y z : Bool) → ((not x || not y) || not z) ≡ not ((x && y) && z)
opposite true true z = refl
opposite true false z = refl
opposite false y z = refl

abbrev pub refusal : ℕ → ℕ → ℕ → Bool
refusal f s p = (not (eqb f 0) || ltb s 285312) || ltb 7 p

abbrev pub grant : ℕ → ℕ → ℕ → Bool
grant f s p = eqb f 0 && leb 285312 s && ltb p 8

refusal_is : (f s p : ℕ) → refusal f s p ≡ not (grant f s p)
refusal_is f s p = ap₂ (λ (b c : Bool). (not (eqb f 0) || b) || c) (short 285312 s) (beyond p) ∙ opposite (eqb f 0) (leb 285312 s) (ltb p 8)

-- the test of the code
pub test_is : (e : Bool) (r : Result (Unit {0}) Refusal) (q s p : ℕ) → e ≡ is_err r → r ≡ answer_by q tt → ((e || ltb s 285312) || ltb 7 p) ≡ refusal q s p
test_is e r q s p h k = ap (λ (b : Bool). (b || ltb s 285312) || ltb 7 p) (h ∙ ap is_err k ∙ go (eqb q 0))
  where
    go : (b : Bool) → is_err {T = Unit {0}} (cond b (Ok tt) (Err (refusal_of q))) ≡ not b
    go true = refl
    go false = refl

pub refused : (f g s p : ℕ) → f ≡ g → refusal f s p ≡ true → grant g s p ≡ false
refused f g s p e h = ap (λ (k : ℕ). grant k s p) (sym e) ∙ not-true (grant f s p) (sym (refusal_is f s p) ∙ h)

pub granted : (f g s p : ℕ) → f ≡ g → refusal f s p ≡ false → grant g s p ≡ true
granted f g s p e h = ap (λ (k : ℕ). grant k s p) (sym e) ∙ not-false (grant f s p) (sym (refusal_is f s p) ∙ h)

-- ---- where nothing refuses
module _ (f s p : ℕ) (h : refusal f s p ≡ false) where
  pub none_refuses : f ≡ 0
  none_refuses = eqb-true f 0 ((and_parts (eqb f 0) (leb 285312 s) ((and_parts (eqb f 0 && leb 285312 s) (ltb p 8) (granted f f s p refl h)).0)).0)

  pub long_enough : 285312 ≤ s
  long_enough = leb-true 285312 s ((and_parts (eqb f 0) (leb 285312 s) ((and_parts (eqb f 0 && leb 285312 s) (ltb p 8) (granted f f s p refl h)).0)).1)

  pub among_eight : p < 8
  among_eight = ltb-true p 8 ((and_parts (eqb f 0 && leb 285312 s) (ltb p 8) (granted f f s p refl h)).1)
