-- `doubles::range::is_finite` meets its contract, by `proofs/Finite.antt`. Assumes nothing.
use Rattle.std.proofs.Common.{◌∙◌}
use Rattle.doubles.proofs.Finite.{finite_is}
use Rattle.doubles.proofs.range.is_finite.Goals as goal

pub returns : goal.returns
returns c = c.is_finite.ensures.value ∙ finite_is c.args.x
