-- `approximations::exp2::is_near` meets its contract. Assumes nothing.
use Rattle.std.proofs.Common.{refl}
use lib.Ieee.{le, neg, of_bits}
use Rattle.approximations.proofs.exp2.is_near.Goals as goal

pub returns : goal.returns
unfolding le neg of_bits
returns c = refl
