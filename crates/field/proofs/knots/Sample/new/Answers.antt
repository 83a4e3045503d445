-- A sample of an axis is finite.
use mathlib.Core.Logic.{⊎_elim}
use native.Mathlib.Omega.{arith}
use Rattle.field.specs.Knots.{X, Z}
use Rattle.field.proofs.ResponseSamples.{sample_finite}
use Rattle.field.proofs.knots.Sample.new.Goals as goal

pub invariant_of-result : goal.invariant_of-result
invariant_of-result c =
    let a = c.args in
    record {
      number = rw c.step.ensures
          (⊎_elim (λ e. rw e (sample_finite X a.i (omega (arith, c.requires.0, e)))) (λ e. rw e (sample_finite Z a.i (omega (arith, c.requires.0, e)))) c.requires.1);
    }
