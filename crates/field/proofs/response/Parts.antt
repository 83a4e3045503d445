-- Where a pick ends.
use Prim.Native.Nat.{ℕ, ◌+◌}
use mathlib.Core.Path.{◌≡◌}
use native.Mathlib.Omega.{arith}
use Rattle.field.specs.declared.Pick.{Pick}
use Rattle.field.specs.declared.Pick.TheVariants.{One, Two}
use Rattle.field.specs.Steps.Flat.{pick_end, shifted}

pub shifted_end : (a : ℕ) (p : Pick) → pick_end (shifted a p) ≡ a + pick_end p
shifted_end a (One i) = omega arith
shifted_end a (Two i v w) = omega arith
