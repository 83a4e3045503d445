use mathlib.Core.Path.{◌≡◌}
use Prim.Native.Nat.{◌≤◌}
use Rattle.gains.specs.Steps.Gathered.{above_before, scattered}
use Rattle.gains.proofs.lookup.Writing.{Written}
use Rattle.gains.proofs.diffuse.scatter.Given as goal

abbrev pub invariant-loop-field : goal.invariant-loop-field
invariant-loop-field l = (l.m ≤ l.field-index) × (l.m ≡ above_before l.initial.out l.field-index) × Written (scattered l.initial.out l.gathered) l.initial.out l.out l.field-index
