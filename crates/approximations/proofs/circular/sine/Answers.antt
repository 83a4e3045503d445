-- `circular::sine` meets its contract. Assumes nothing.
use Rattle.std.proofs.Common.{◌∙◌, rules}
use Rattle.approximations.specs.Circular.{sine_series, cosine_series, sine_of}
use Rattle.approximations.proofs.circular.Series.{low, high}
use Rattle.approximations.proofs.circular.sine.Goals as goal

pub returns-then-is_low : goal.returns-then-is_low
unfolding sine_of
returns-then-is_low c = search rules ∙ low sine_series cosine_series c.args.a c.is_low.ensures c.if-is_low.true

pub returns-else-is_low : goal.returns-else-is_low
unfolding sine_of
returns-else-is_low c = search rules ∙ high sine_series cosine_series c.args.a c.complement.result c.is_low.ensures c.if-is_low.false c.complement.ensures
