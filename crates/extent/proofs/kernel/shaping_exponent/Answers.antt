-- `extent::kernel::shaping_exponent` meets its contract: the literals are the definition's numbers. Assumes nothing.
use mathlib.Core.Path.{sym}
use lib.Ieee.{of_bits, round, of_int}
use Rattle.extent.proofs.KernelCases.{exponent_low, exponent_high}
use Rattle.extent.proofs.kernel.shaping_exponent.Goals as goal

pub returns-then-radius : goal.returns-then-radius
unfolding of_bits round of_int
returns-then-radius c = sym (exponent_low _ c.if-radius.true)

pub returns-else-radius : goal.returns-else-radius
unfolding of_bits round of_int
returns-else-radius c = sym (exponent_high _ c.if-radius.false)
