-- After some knots their rows of X and of Y are written.
use mathlib.Core.Path.{sym}
use Rattle.field.proofs.table.KnotRows.{table_xy, written_xy_none, written_xy_more}
use Rattle.field.proofs.table.table_xy.Goals as goal

pub loop-knot-init : goal.loop-knot-init
loop-knot-init c =
    let a = c.args in
    sym (written_xy_none _ (table_xy _ _ _) a.place.now)

pub loop-knot-preserved : goal.loop-knot-preserved
loop-knot-preserved c =
    let a = c.args in
    let x = a.x.now in
    rw (c.knot_xy.ensures, c.loop-knot.invariant) (written_xy_more x.n (table_xy x.columns a.y.now.columns x.n) a.place.now c.loop-knot.knot)
