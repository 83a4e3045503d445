-- `circular::cosine` meets its contract. Assumes nothing.
use Rattle.std.proofs.Common.{◌∙◌, rules}
use Rattle.approximations.specs.Circular.{sine_series, cosine_series, cosine_of}
use Rattle.approximations.proofs.circular.Series.{low, high}
use Rattle.approximations.proofs.circular.cosine.Goals as goal

pub returns-then-is_low : goal.returns-then-is_low
unfolding cosine_of
returns-then-is_low c = search rules ∙ low cosine_series sine_series c.args.a c.is_low.ensures c.if-is_low.true

pub returns-else-is_low : goal.returns-else-is_low
unfolding cosine_of
returns-else-is_low c = search rules ∙ high cosine_series sine_series c.args.a c.complement.result c.is_low.ensures c.if-is_low.false c.complement.ensures
