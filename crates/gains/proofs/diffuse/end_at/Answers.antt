-- `gains::diffuse::end_at` meets its contract, by the wall. Assumes nothing.
use lib.Ieee.{of_bits}
use Rattle.gains.specs.Steps.Rows.{rows_of}
use Rattle.gains.proofs.diffuse.Ends.{by_X, by_Y, by_Z}
use Rattle.gains.proofs.diffuse.end_at.Goals as goal

pub returns-in-X-clause-product : goal.returns-in-X-clause-product
returns-in-X-clause-product c = λ k h.
    let p = c.args.p.now in
    by_X (rows_of p k) c.args.c c.args.radius _ _ _ _ _ c.args.wall _ _ _ _ _ c.in-X.is c.from.ensures c.from-in-X.ensures (c.row.ensures.numbers k h) c.from-in-X-2.ensures c.compact_quartic_kernel.ensures

pub returns-in-Y-clause-product : goal.returns-in-Y-clause-product
returns-in-Y-clause-product c = λ k h.
    let p = c.args.p.now in
    by_Y (rows_of p k) c.args.c c.args.radius _ _ _ _ _ c.args.wall _ _ _ _ _ c.in-Y.is c.from-in-Y.ensures c.from-in-Y-2.ensures (c.row-in-Y.ensures.numbers k h) c.from-in-Y-3.ensures c.compact_quartic_kernel-in-Y.ensures

pub returns-in-Z-clause-product : goal.returns-in-Z-clause-product
unfolding of_bits
returns-in-Z-clause-product c = λ k h.
    let p = c.args.p.now in
    by_Z (rows_of p k) c.args.c c.args.radius _ _ _ _ _ c.args.wall _ c.in-Z.is (c.row-in-Z.ensures.numbers k h) c.compact_quartic_kernel-in-Z.ensures
