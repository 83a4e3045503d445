-- `approximations::log2::log2_rest` meets its contract: the calls are those of the definition. Assumes nothing.
use Rattle.std.proofs.Common.{◌≡◌, Bool, true, false, ◌&&◌, T, sym, ◌∙◌, subst}
use Rattle.std.proofs.lemmas.Float.{T_from_true}
use lib.Ieee.{lt, of_bits}
use Rattle.doubles.specs.Arithmetic.{zero64}
use Rattle.approximations.proofs.log2.Cases.{Next, next, log2_none}
use Rattle.approximations.proofs.log2.log2_rest.Goals as goal

sum : (c : goal.After-floor_log2-exponent) → Next c.args.value c.floor_log2-exponent.result
unfolding of_bits
sum c = next c.args.value c.floor_log2-exponent.result (subst T (sym c.well_formed.0.1) tt) (T_from_true _ (subst (λ (t : Bool). t && lt zero64 c.args.value ≡ true) c.is_finite.ensures c.if-is_finite-value.true)) c.floor_log2-exponent.ensures

pub overflow_add-exponent : goal.overflow_add-exponent
overflow_add-exponent c = (sum c).0

pub int_to_float-exponent : goal.int_to_float-exponent
int_to_float-exponent c = (sum c.before.before.before).1

pub returns-then-is_finite-value : goal.returns-then-is_finite-value
returns-then-is_finite-value c =
    c.log2_of.ensures ∙ rw c.pow2.ensures (sum c.before.before.before).2

pub returns-else-is_finite-value : goal.returns-else-is_finite-value
unfolding of_bits
returns-else-is_finite-value c = log2_none c.args.value (subst (λ (t : Bool). t && lt zero64 c.args.value ≡ false) c.is_finite.ensures c.if-is_finite-value.false)
