use Prim.Native.Nat.{ℕ, ◌<◌, ◌/◌, ◌^◌}
use mathlib.Core.Path.{◌≡◌}
use Rattle.layout.specs.Name.{padded}
use Rattle.channels.proofs.name.is_name.Given as goal

pub record Left (b rest : ℕ) : Type 0 where
  pub k : ℕ
  pub small : rest < 256 ^ k
  pub same : padded k rest ≡ padded 7 b

abbrev pub invariant-loop-rest : goal.invariant-loop-rest
invariant-loop-rest l = Left (l.name / 256) l.rest

abbrev pub decreases-loop-rest : goal.decreases-loop-rest
decreases-loop-rest l = l.rest
