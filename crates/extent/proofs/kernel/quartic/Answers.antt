-- `extent::kernel::quartic` meets its contract: the literal is the definition's decimal. Assumes nothing.
use lib.Ieee.{of_bits, round}
use Rattle.extent.specs.Kernel.{quartic_of}
use Rattle.extent.proofs.kernel.quartic.Goals as goal

pub returns : goal.returns
unfolding quartic_of of_bits round
returns c = c.approx_exp2.ensures
