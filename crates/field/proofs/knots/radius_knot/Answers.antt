-- `field::knots::radius_knot` meets its contract: the literals are the definition's numbers. Assumes nothing.
use mathlib.Core.Path.{refl}
use lib.Ieee.{of_bits, round, of_int}
use Rattle.field.proofs.knots.radius_knot.Goals as goal

pub returns : goal.returns
unfolding of_bits round of_int
returns c = refl
