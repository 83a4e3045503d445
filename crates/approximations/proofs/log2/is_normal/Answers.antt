-- `approximations::log2::is_normal` meets its contract. Assumes nothing.
use Rattle.std.proofs.Common.{refl}
use lib.Ieee.{le, of_bits}
use Rattle.approximations.proofs.log2.is_normal.Goals as goal

pub returns : goal.returns
unfolding le of_bits
returns c = refl
