-- `approximations::exp2::polynomial` meets its contract: the literals are the definition's decimals. Assumes nothing.
use Rattle.std.proofs.Common.{refl}
use lib.Ieee.{of_bits, round}
use Rattle.approximations.proofs.exp2.polynomial.Goals as goal

pub returns : goal.returns
unfolding of_bits round
returns c = refl
