-- After some knots their rows of Z are written.
use mathlib.Core.Path.{sym}
use Rattle.field.proofs.table.KnotRows.{table_z, written_z_none, written_z_more}
use Rattle.field.proofs.table.table_z.Goals as goal

pub loop-knot-init : goal.loop-knot-init
loop-knot-init c =
    let a = c.args in
    sym (written_z_none _ (table_z _ _) a.place.now)

pub loop-knot-preserved : goal.loop-knot-preserved
loop-knot-preserved c =
    let a = c.args in
    let z = a.z.now in
    rw (c.knot_z.ensures, c.loop-knot.invariant) (written_z_more z.n (table_z z.columns z.n) a.place.now c.loop-knot.knot)
