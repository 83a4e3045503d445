use Rattle.layout.proofs.StartsFrom.{Started}
use Rattle.layout.proofs.starts.starts_from.Given as goal

abbrev pub invariant-loop-i : goal.invariant-loop-i
invariant-loop-i g l = Started l.counts l.starts l.s l.i
