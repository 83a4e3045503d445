-- `extent::kernel::shaped` meets its contract, by the cases of its definition. Assumes nothing.
use mathlib.Core.Path.{sym, ap, ◌∙◌}
use lib.Ieee.{Float, of_bits}
use Rattle.doubles.specs.Arithmetic.{◌⊗◌}
use Rattle.approximations.specs.Exp2.{exp2_of}
use Rattle.extent.proofs.KernelCases.{shaped_not, shaped_good, shaped_bad}
use Rattle.extent.proofs.kernel.shaped.Goals as goal

pub returns-then-is_positive : goal.returns-then-is_positive
unfolding of_bits
returns-then-is_positive c =
    sym (shaped_good _ _ _ c.if-value.true (c.approx_exp2-result.ensures ∙ ap (λ (l : Float). exp2_of (c.args.exponent ⊗ l)) c.approx_log2.ensures) (sym c.is_positive.ensures ∙ c.if-is_positive.true))

pub returns-else-is_positive : goal.returns-else-is_positive
unfolding of_bits
returns-else-is_positive c =
    sym (shaped_bad _ _ _ c.if-value.true (c.approx_exp2-result.ensures ∙ ap (λ (l : Float). exp2_of (c.args.exponent ⊗ l)) c.approx_log2.ensures) (sym c.is_positive.ensures ∙ c.if-is_positive.false))

pub returns-else-value : goal.returns-else-value
unfolding of_bits
returns-else-value c = sym (shaped_not _ _ c.if-value.false)
