use mathlib.Core.Path.{◌≡◌}
use lib.ListN.{length}
use Rattle.field.specs.Steps.Columns.{Transposed, Firsts}
use Rattle.field.proofs.columns.Columns.new.Given as goal

abbrev pub invariant-loop-k : goal.invariant-loop-k
invariant-loop-k g l = Transposed l.responses.rows l.columns g.row.SAMPLES l.k × (length l.columns ≡ 24)

abbrev pub invariant-loop-k-2 : goal.invariant-loop-k-2
invariant-loop-k-2 g l = Firsts l.columns g.row.SAMPLES l.k l.firsts × (length l.firsts ≡ 24)
