use mathlib.Core.Path.{◌≡◌}
use mathlib.Core.List.{List}
use Prim.Native.Nat.{ℕ, ◌<◌}
use lib.Ieee.{Float, nan}
use lib.ListN.{length, get_or}
use Rattle.field.specs.Tables.{sampled_over}
use Rattle.field.specs.Steps.Columns.{in_columns}
use Rattle.field.proofs.columns.Columns.write.Given as goal

abbrev pub number : List Float → List (List Float) → ℕ → Float → ℕ → Float
number kernels columns samples exponent k = sampled_over (λ (s : ℕ). get_or kernels s nan) (λ (s : ℕ). in_columns columns s k) exponent samples

abbrev pub invariant-loop-k : goal.invariant-loop-k
invariant-loop-k g l = ((k : ℕ) → k < l.k → get_or l.row k nan ≡ number l.kernels l.self.columns g.row.SAMPLES l.exponent k) × (length l.row ≡ l.self.n)
