-- `gains::diffuse::scatter` meets its contract: after k turns the first k channels are written, and as many values are used as there were above 0 among them. Assumes nothing.
use mathlib.Core.Path.{sym, ap, ◌∙◌}
use native.Mathlib.Omega.{arith}
use lib.Ieee.{nan, lt, of_bits}
use Rattle.doubles.specs.Arithmetic.{zero64}
use Rattle.gains.proofs.lookup.Writing.{written_none, written_more}
use Rattle.gains.proofs.diffuse.Channels.{written_reads}
use Rattle.gains.proofs.diffuse.Gathering.{above_none, above_more, above_same, scattered_some, scattered_none}
use Rattle.gains.proofs.diffuse.scatter.Goals as goal
use Rattle.gains.proofs.diffuse.scatter.Goals.{then-field, else-field}

pub loop-field-init : goal.loop-field-init
loop-field-init c = (omega arith, above_none _, written_none _ _)

pub loop-field-preserved : goal.loop-field-preserved
unfolding of_bits
loop-field-preserved c =
    let old = c.args.out.now in
    let l = c.args.gathered.now in
    let k = c.loop-field.field-index in
    let i = c.loop-field.invariant in
    let same = written_reads _ _ _ k nan i.2 in
    elim c.if-field.branch [
      | then-field w ↦
          let t = ap (lt zero64) (sym same) ∙ w.if-field.true in (
            rw w.m-is (omega arith),
            rw w.m-is (above_more old k _ i.1 t),
            rw w.out-is (written_more _ _ _ _ _ (omega arith) (scattered_some old l k _ i.1 t) i.2),
          )
      | else-field w ↦
          let t = ap (lt zero64) (sym same) ∙ w.if-field.false in (
            rw w.m-is (omega arith),
            rw w.m-is (above_same old k _ i.1 t),
            rw w.out-is (written_more _ _ _ _ _ (omega arith) (scattered_none old l k t) i.2),
          )
    ]
