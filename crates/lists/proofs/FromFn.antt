-- What `array::from_fn` makes with a closure whose answer at each index is known.
use Prim.Native.Nat.{ℕ, zero, suc, ◌+◌, ◌<◌}
use mathlib.Core.Path.{◌≡◌, ◌∙◌, subst}
use mathlib.Core.List.{List}
use native.Mathlib.Nat.{zero-add, add-zero}
use native.Mathlib.Omega.{arith}
use denote.Param.Members.{Mut}
use lib.ListN.{get_or}
use Rattle.std.specs.Array.{IsFromFnResult, IsFromFnResultFrom}
use Rattle.std.specs.Fn.{Called}

module _ {F B : Type 0} (g : Mut F (ℕ × Unit {0}) B) (f : F) (h : ℕ → B) (calls : (i : ℕ) (y : B) (q : F) → Called g f (i, tt) y q → (q ≡ f) × (y ≡ h i)) (ys : List B) (d : B) where
  from : (n i : ℕ) → IsFromFnResultFrom g f ys i n → (k : ℕ) → k < n → get_or ys (i + k) d ≡ h (i + k)
  from zero i r k l = absurd (omega arith)
  from (suc n) i (q, y, at, called, rest) zero l = rw add-zero (at.1 d ∙ (calls i y q called).1)
  from (suc n) i (q, y, at, called, rest) (suc k) l =
      let e : i + suc k ≡ i + 1 + k = omega arith in
      rw e (from n (i + 1) (subst (λ (p : F). IsFromFnResultFrom g p ys (i + 1) n) (calls i y q called).0 rest) k (omega arith))

  pub from_fn_at : (n : ℕ) → IsFromFnResult g f ys n → (k : ℕ) → k < n → get_or ys k d ≡ h k
  from_fn_at n r k l = rw zero-add at (from n 0 r.each k l)
