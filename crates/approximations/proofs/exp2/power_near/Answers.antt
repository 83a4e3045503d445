-- `approximations::exp2::power_near` meets its contract, by `proofs/exp2/Exponent.antt`. Assumes nothing.
use lib.Ieee.{of_bits}
use Rattle.approximations.proofs.exp2.Exponent.{power_of_lem}
use Rattle.approximations.proofs.exp2.power_near.Goals as goal

pub float_to_bits-result : goal.float_to_bits-result
unfolding of_bits
float_to_bits-result c = (power_of_lem c.args.n c.requires).0

pub float_from_bits-result : goal.float_from_bits-result
unfolding of_bits
float_from_bits-result c = (power_of_lem c.args.n c.requires).1

pub returns : goal.returns
unfolding of_bits
returns c = (power_of_lem c.args.n c.requires).2
