use mathlib.Core.Path.{◌≡◌}
use Prim.Native.Nat.{◌≤◌}
use lib.Ieee.{Float}
use Rattle.doubles.specs.Arithmetic.{◌⊘◌}
use Rattle.approximations.specs.Log2.{log2_of}
use Rattle.gains.specs.Steps.Gathered.{above_before, Gathered}
use Rattle.gains.proofs.diffuse.gather.Given as goal

abbrev pub invariant-loop-field : goal.invariant-loop-field
invariant-loop-field l = (l.m ≤ l.field-index) × (l.m ≡ above_before l.fields l.field-index) × Gathered (λ (x : Float). log2_of x ⊘ l.exponent) l.fields l.field-index l.out
