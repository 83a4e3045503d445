-- `gains::diffuse::gather` meets its contract: after k turns those of the first k that are above 0 stand in front. Assumes nothing.
use mathlib.Core.Path.{ap, ◌∙◌}
use native.Mathlib.Omega.{arith}
use lib.Ieee.{Float, of_bits}
use lib.ListN.{length, length-set}
use Rattle.doubles.specs.Arithmetic.{◌⊘◌}
use Rattle.gains.proofs.diffuse.Gathering.{above_none, above_more, above_same, gathered_none, gathered_more, gathered_same}
use Rattle.gains.proofs.diffuse.gather.Goals as goal
use Rattle.gains.proofs.diffuse.gather.Goals.{then-field, else-field}

pub loop-field-init : goal.loop-field-init
loop-field-init c = (omega arith, above_none _, gathered_none _ _ _)

pub loop-field-preserved : goal.loop-field-preserved
unfolding of_bits
loop-field-preserved c =
    let x = c.args.fields.now in
    let k = c.loop-field.field-index in
    let i = c.loop-field.invariant in
    elim c.if-field.branch [
      | then-field w ↦ (
        rw w.m-is (omega arith),
        rw w.m-is (above_more x k _ i.1 w.if-field.true),
        rw w.out-is (gathered_more x _ k _ _ _ i.1 (omega (arith, ap length w.out-is ∙ length-set _ _ _)) (ap (λ (y : Float). y ⊘ c.args.exponent) w.approx_log2.ensures) i.2),
      )
      | else-field w ↦ (
        rw w.m-is (omega arith),
        rw w.m-is (above_same x k _ i.1 w.if-field.false),
        rw w.out-is (gathered_same x _ k _ w.if-field.false i.2),
      )
    ]
