use mathlib.Core.Path.{◌≡◌}
use Rattle.field.specs.Patched.{patched}
use Rattle.field.proofs.table.KnotRows.{table_xy, written_xy}
use Rattle.field.proofs.table.table_xy.Given as goal

abbrev pub invariant-loop-knot : goal.invariant-loop-knot
invariant-loop-knot l = l.place ≡ patched (written_xy l.x.n l.knot) (table_xy l.x.columns l.y.columns l.x.n) l.initial.place
