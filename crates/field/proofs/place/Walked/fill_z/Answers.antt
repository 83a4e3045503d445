-- The rows written are those of `written_z_lem`.
use Rattle.field.proofs.PlaceRows.{written_z_lem}
use Rattle.field.proofs.place.Walked.fill_z.Goals as goal

pub returns : goal.returns
returns c =
    let a = c.args in
    let w = a.self.now in
    let z = c.responses_z-z in
    let ez = rw z.ensures.0 at c.write_ends.ensures in
    written_z_lem w.l a.place.now w.accepted.some_active w.n w.counted z.result.rows c.new.result.columns c.table_z.new.place c.write_ends.new.ends
    z.ensures.1 (rw z.ensures.0 at c.new.ensures.1) c.requires
    (rw (c.new.ensures.0, z.ensures.0) at c.table_z.ensures)
    (record { first = ez.first; end = ez.last }) c.write_ends.auto.ends
