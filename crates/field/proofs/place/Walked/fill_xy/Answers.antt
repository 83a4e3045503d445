-- The rows written are those of `written_xy_lem`.
use Rattle.field.proofs.PlaceRows.{written_xy_lem}
use Rattle.field.proofs.place.Walked.fill_xy.Goals as goal

pub returns : goal.returns
returns c =
    let a = c.args in
    let w = a.self.now in
    let x = c.responses_x-x in
    let y = c.responses_y-y in
    let ex = rw x.ensures.0 at c.write_ends.ensures in
    let ey = rw y.ensures.0 at c.write_ends-2.ensures in
    written_xy_lem w.l a.place.now w.accepted.some_active w.n w.counted x.result.rows y.result.rows c.new.result.columns c.new-2.result.columns c.table_xy.new.place c.write_ends.new.ends c.write_ends-2.new.ends
    x.ensures.1 y.ensures.1 (rw x.ensures.0 at c.new.ensures.1) (rw y.ensures.0 at c.new-2.ensures.1) c.requires
    (rw (c.new.ensures.0, x.ensures.0) at c.table_xy.ensures)
    (record { first = ex.first; end = ex.last }) c.write_ends.auto.ends
    (record { first = ey.first; end = ey.last }) c.write_ends-2.auto.ends
