-- `doubles::bits::bits_of` meets its contract: only NaN has several patterns. Assumes nothing.
use Rattle.std.proofs.Common.{sym, ◌∙◌}
use Rattle.std.proofs.lemmas.Float.{T_from_true}
use Rattle.doubles.proofs.bits.Patterns.{pattern_of_nan}
use Rattle.doubles.proofs.bits.bits_of.Goals as goal

pub returns-then-is_nan : goal.returns-then-is_nan
returns-then-is_nan c = pattern_of_nan c.args.x (T_from_true _ (sym c.is_nan.ensures.value ∙ c.if-is_nan.true))
