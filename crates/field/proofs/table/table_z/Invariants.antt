use mathlib.Core.Path.{◌≡◌}
use Rattle.field.specs.Patched.{patched}
use Rattle.field.proofs.table.KnotRows.{table_z, written_z}
use Rattle.field.proofs.table.table_z.Given as goal

abbrev pub invariant-loop-knot : goal.invariant-loop-knot
invariant-loop-knot l = l.place ≡ patched (written_z l.z.n l.knot) (table_z l.z.columns l.z.n) l.initial.place
