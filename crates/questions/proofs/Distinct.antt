-- A list is all different where no number stands among those before it. Assumes nothing.
use Prim.Native.Nat.{ℕ, ◌+◌}
use mathlib.Core.Path.{◌≡◌, refl, sym, ap, ◌∙◌}
use mathlib.Core.Bool.{Bool, true, false, not, ◌&&◌}
use mathlib.Core.List.{List, [], ◌∷◌, ◌++◌, append-nil}
use native.Mathlib.Omega.{arith}
use lib.ListN.{length, take, length-append}
use lib.Seq.{take-append-le, take_all}
use Rattle.std.specs.List.{list_all, enumerate_from}
use Rattle.std.proofs.Math.Bool.{and_assoc}
use Rattle.std.proofs.lemmas.List.{append_assoc}
use Rattle.lists.specs.Lists.{all_distinct, elem}
use Rattle.lists.proofs.Tests.{distinct_snoc}

-- the number at a place is none of those before it
abbrev pub is_new : List ℕ → ℕ × ℕ → Bool
is_new v p = not (elem p.1 (take p.0 v))

and_true : (b : Bool) → (b && true) ≡ b
and_true true = refl
and_true false = refl

-- behind a front, the others are compared one by one
all_behind : (m front : List ℕ) (i : ℕ) (v : List ℕ) → i ≡ length front → v ≡ front ++ m → (all_distinct front && list_all (is_new v) (enumerate_from i m)) ≡ all_distinct v
all_behind [] front i v e q = and_true (all_distinct front) ∙ ap all_distinct (sym (q ∙ append-nil front))
all_behind (x ∷ m) front i v e q =
    let others = list_all (is_new v) (enumerate_from (i + 1) m) in
    let before : take i v ≡ front = ap (take i) q ∙ take-append-le i front (x ∷ m) (omega (arith, e)) ∙ take_all i front (omega (arith, e)) in
    ap (λ (l : List ℕ). all_distinct front && (not (elem x l) && others)) before
    ∙ sym (and_assoc (all_distinct front) (not (elem x front)) others)
    ∙ ap (λ (b : Bool). b && others) (sym (distinct_snoc front x))
    ∙ all_behind m (front ++ (x ∷ [])) (i + 1) v (omega (arith, e, length-append front (x ∷ []))) (q ∙ sym (append_assoc front (x ∷ []) m))

pub all_new : (v : List ℕ) → list_all (is_new v) (enumerate_from 0 v) ≡ all_distinct v
all_new v = all_behind v [] 0 v refl refl
