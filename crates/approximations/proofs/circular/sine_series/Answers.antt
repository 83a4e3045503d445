-- `circular::sine_series` meets its contract. Assumes nothing.
use Rattle.std.proofs.Common.{ap}
use lib.Ieee.{Float}
use Rattle.doubles.specs.Arithmetic.{◌⊗◌}
use Rattle.approximations.specs.Circular.{sine_series}
use Rattle.approximations.proofs.circular.sine_series.Goals as goal

pub returns : goal.returns
unfolding sine_series
returns c = ap (λ (r : Float). c.args.b ⊗ r) c.alternating_series.ensures
