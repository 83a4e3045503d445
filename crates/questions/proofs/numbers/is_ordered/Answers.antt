-- The first is at least -1, and what is left goes on from it.
use mathlib.Core.Path.{ap}
use mathlib.Core.List.{map}
use lib.Ieee.{of_bits, neg}
use Rattle.keys.specs.InKey.{double}
use Rattle.questions.proofs.Ascending.{goes_first}
use Rattle.questions.proofs.numbers.is_ordered.Goals as goal

pub loop-w-init : goal.loop-w-init
unfolding of_bits neg
loop-w-init c = goes_first _ _ _ _ (ap (map double) c.in-Some.ensures.cases.0) c.of_bits-last.ensures
