-- A component by the code's test, and that a mean is at most 32767. Assumes nothing.
use mathlib.Core.Path.{◌≡◌, refl}
use Prim.Native.Nat.{ℕ, ◌+◌, ◌/◌, ◌≤◌, min}
use native.Mathlib.Omega.{arith}
use mathlib.Core.Bool.{Bool, true, false, cond}
use lib.Ieee.{Float, nan, inf, fin, lt, le, eq}
use Rattle.doubles.specs.Arithmetic.{zero64, one64}
use Rattle.doubles.specs.Range.{is_between}
use Rattle.extent.specs.declared.Extent.{Extent}
use Rattle.extent.specs.Extent.{component, quantised, mean_of}

-- a number from 0 to 1 is finite
pub component_is : (v : Float) → is_between zero64 one64 v ≡ component v
unfolding le lt eq
component_is nan = refl
component_is (inf true) = refl
component_is (inf false) = refl
component_is (fin s m e) = refl

pub quantised_le : (v : Float) → quantised v ≤ 32767
unfolding quantised
quantised_le v = at (component v) _
  where
    at : (b : Bool) (q : ℕ) → cond b (min q 32767) 0 ≤ 32767
    at true q = omega arith
    at false q = omega arith

pub mean_le : (e : Extent) → mean_of e ≤ 32767
mean_le e = third (quantised_le _) (quantised_le _) (quantised_le _)
  where
    third : {x y z : ℕ} → x ≤ 32767 → y ≤ 32767 → z ≤ 32767 → (x + y + z) / 3 ≤ 32767
    third a b c = omega arith
