-- `extent::kernel::compact_quartic_kernel` meets its contract, by the cases of its definition. Assumes nothing.
use mathlib.Core.Path.{sym, ◌∙◌}
use lib.Ieee.{of_bits, round, of_int}
use Rattle.extent.proofs.KernelCases.{kernel_small, kernel_far, kernel_bad, kernel_good, heightened_z, heightened_not}
use Rattle.extent.proofs.kernel.compact_quartic_kernel.Goals as goal

pub returns-then-radius : goal.returns-then-radius
unfolding of_bits round
returns-then-radius c = sym (kernel_small _ _ _ _ c.if-radius.true)

pub returns-then-distance-radius : goal.returns-then-distance-radius
unfolding of_bits round of_int
returns-then-distance-radius c = sym (kernel_far _ _ _ _ c.if-radius.false c.if-distance-radius.true)

pub returns-then-not-is_positive : goal.returns-then-not-is_positive
unfolding of_bits round of_int
returns-then-not-is_positive c =
    sym (kernel_bad _ _ _ _ c.if-radius.false c.if-distance-radius.false _ c.quartic-value.ensures (sym c.is_positive.ensures ∙ c.if-not-is_positive.true))

pub returns-then-z : goal.returns-then-z
unfolding of_bits of_int round
returns-then-z c =
    sym ((kernel_good _ _ _ _ c.if-radius.false c.if-distance-radius.false _ c.quartic-value.ensures (sym c.is_positive.ensures ∙ c.if-not-is_positive.false)) ∙ heightened_z _ _ _ _ c.if-z.true c.cosine.ensures)

pub returns-else-z : goal.returns-else-z
unfolding of_bits of_int round
returns-else-z c = sym ((kernel_good _ _ _ _ c.if-radius.false c.if-distance-radius.false _ c.quartic-value.ensures (sym c.is_positive.ensures ∙ c.if-not-is_positive.false)) ∙ heightened_not _ _ _ c.if-z.false)
