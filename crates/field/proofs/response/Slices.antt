-- Parts of a list: weights added for each place. Assumes nothing.
use Prim.Native.Nat.{ℕ, ◌+◌, ◌≤◌, ◌<◌}
use mathlib.Core.Path.{◌≡◌, refl}
use mathlib.Core.List.{List, []}
use native.Mathlib.Omega.{arith}
use lib.Ieee.{Float, nan}
use lib.ListN.{length, get_or, take, set, length-take, drop_of_length-le}
use lib.Seq.{slice}
use Rattle.lists.proofs.Loops.{slice_more}
use Rattle.doubles.specs.Arithmetic.{◌⊕◌}
use Rattle.field.specs.Steps.Flat.{added_at}

pub slice_past : {A : Type 0} (i n : ℕ) (l : List A) → n ≤ i → slice i n l ≡ []
slice_past i n l h = drop_of_length-le (take n l) {i = i} (rw length-take (omega arith))

-- ---- a weight added at each place of a list
module _ (w : Float) where
  -- one place more
  pub added_more : (at : List ℕ) (i b : ℕ) (out all : List Float) → i < b → b ≤ length at → added_at w (slice i b at) out ≡ all →
      added_at w (slice (i + 1) b at) (set out (get_or at i 0) (get_or out (get_or at i 0) nan ⊕ w)) ≡ all
  unfolding added_at
  added_more at i b out all h k e = rw (slice_more i b at 0 h k) at e

  pub added_none : (out : List Float) → added_at w [] out ≡ out
  unfolding added_at
  added_none out = refl
