-- `gains::knots::high_knots` meets its contract: each literal is the definition's number. Assumes nothing.
use mathlib.Core.Path.{refl}
use lib.Dec.{lit≤}
use lib.Ieee.{of_bits, round, of_int, sum, add, sub, neg, div, lt, fits}
use Rattle.gains.proofs.knots.high_knots.Goals as goal

pub invariant_of-result : goal.invariant_of-result
unfolding of_bits round of_int sum add sub neg div lt fits
invariant_of-result c = record { some = lit≤ tt; few = lit≤ tt; first = refl; rising = refl }

pub returns : goal.returns
unfolding of_bits round of_int div
returns c = refl
