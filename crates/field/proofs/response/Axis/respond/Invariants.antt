use Prim.Native.Nat.{ℕ, ◌-◌}
use mathlib.Core.List.{List}
use lib.Ieee.{Float}
use lib.ListN.{length}
use Rattle.field.specs.Knots.{steps}
use Rattle.field.specs.Steps.Filling.{no_responses}
use Rattle.field.specs.Steps.Flat.{response_added}
use Rattle.field.proofs.response.Rows.{Filled}
use Rattle.field.proofs.response.Axis.respond.Given as goal

abbrev pub row : List ℕ → List ℕ → List Float → List ℕ → ℕ → ℕ → List Float
row at parts v groups count s = response_added at parts v groups count (steps 19 s) no_responses

abbrev pub invariant-loop-s : goal.invariant-loop-s
invariant-loop-s l = Filled (row l.self.at.now l.self.parts.now l.self.v.now l.self.groups.now (length l.self.groups.now - 1)) no_responses 20 l.s l.row-items
