use mathlib.Core.Path.{◌≡◌}
use mathlib.Core.List.{List}
use Prim.Native.Nat.{ℕ, ◌≤◌}
use lib.Ieee.{Float, nan}
use lib.ListN.{length, get_or, take}
use Rattle.field.specs.Steps.Sums.{products_of}
use Rattle.field.proofs.table.products.Given as goal

abbrev pub number : List Float → ℕ → Float
number xs s = get_or xs s nan

abbrev pub invariant-loop-s : goal.invariant-loop-s
invariant-loop-s g l = (l.m ≤ l.s) × (length l.y ≡ g.row.SAMPLES) × (take l.m l.y ≡ products_of (number l.kernels) (number l.column) l.s)
