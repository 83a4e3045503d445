use Rattle.cache.proofs.KeyCompare.{Compared}
use Rattle.cache.proofs.places.is_key.Given as goal

abbrev pub invariant-loop-i : goal.invariant-loop-i
invariant-loop-i l = Compared l.keys l.from l.key l.differ l.i
