-- `circular::cosine_series` meets its contract. Assumes nothing.
use Rattle.approximations.specs.Circular.{cosine_series}
use Rattle.approximations.proofs.circular.cosine_series.Goals as goal

pub returns : goal.returns
unfolding cosine_series
returns c = c.alternating_series.ensures
