-- `doubles::power::pow2` meets its contract: each goal is a fact of `proofs/PowersOfTwo.antt`. Assumes nothing.
use lib.Ieee.{of_bits}
use Rattle.doubles.proofs.PowersOfTwo.{Middle, Low, middle, low, middle_placed, low_placed, top, bottom}
use Rattle.doubles.proofs.power.pow2.Goals as goal

pub returns-then-n-gt1023 : goal.returns-then-n-gt1023
unfolding of_bits
returns-then-n-gt1023 c = top c.args.n c.ranges.n c.if-n-gt1023.true

pub returns-else-n-geminus1074 : goal.returns-else-n-geminus1074
unfolding of_bits
returns-else-n-geminus1074 c = bottom c.args.n c.ranges.n c.if-n-geminus1074.false

mid : (c : goal.Then-n-geminus1022) → Middle c.args.n
mid c = middle c.args.n c.ranges.n c.if-n-gt1023.false c.if-n-geminus1022.true

sub : (c : goal.Then-n-geminus1074) → Low c.args.n
sub c = low c.args.n c.ranges.n c.if-n-geminus1022.false c.if-n-geminus1074.true

pub returns-then-n-geminus1022 : goal.returns-then-n-geminus1022
returns-then-n-geminus1022 c = (middle_placed c.args.n (mid c)).1

pub returns-then-n-geminus1074 : goal.returns-then-n-geminus1074
returns-then-n-geminus1074 c = (low_placed c.args.n (sub c)).1

pub float_from_bits-result : goal.float_from_bits-result
float_from_bits-result c = (middle_placed c.args.n (mid c)).0

pub float_from_bits-result-then-n-geminus1074 : goal.float_from_bits-result-then-n-geminus1074
float_from_bits-result-then-n-geminus1074 c = (low_placed c.args.n (sub c)).0
