use Rattle.approximations.proofs.circular.Series.{Behind}
use Rattle.approximations.proofs.circular.alternating_series.Given as goal

abbrev pub invariant-loop-f : goal.invariant-loop-f
invariant-loop-f l = Behind l.y l.factorials l.f-iterator.iter.rest.now l.r
