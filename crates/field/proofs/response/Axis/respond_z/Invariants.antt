use Prim.Native.Nat.{ℕ}
use mathlib.Core.List.{List}
use lib.Ieee.{Float}
use Rattle.field.specs.Knots.{steps}
use Rattle.field.specs.Responses.{layer_pick}
use Rattle.field.specs.Steps.Filling.{no_responses}
use Rattle.field.specs.Steps.Flat.{pick_added}
use Rattle.field.proofs.response.Rows.{Filled}
use Rattle.field.proofs.response.Axis.respond_z.Given as goal

abbrev pub row : List ℕ → List ℕ → List Float → ℕ → List Float
row at parts zs s = pick_added at parts (layer_pick zs (steps 7 s)) no_responses

abbrev pub invariant-loop-s : goal.invariant-loop-s
invariant-loop-s l = Filled (row l.self.at.now l.self.parts.now l.self.v.now) no_responses 8 l.s l.row-items
