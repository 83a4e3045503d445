-- `doubles::bits::of_bits` meets its contract: a pattern above the infinity's, the sign taken off, is NaN's. Assumes nothing.
use Rattle.std.proofs.Common.{sym, ◌∙◌}
use Rattle.std.proofs.lemmas.Float.{not_nan_f64_bits}
use Rattle.doubles.proofs.bits.Patterns.{above_nan, nan_is}
use Rattle.doubles.proofs.bits.of_bits.Goals as goal

pub float_from_bits-result : goal.float_from_bits-result
float_from_bits-result c = not_nan_f64_bits c.args.b c.if-b-gt9218868437227405312.false

pub returns-then-b-gt9218868437227405312 : goal.returns-then-b-gt9218868437227405312
returns-then-b-gt9218868437227405312 c = nan_is ∙ sym (above_nan c.args.b c.if-b-gt9218868437227405312.true)
