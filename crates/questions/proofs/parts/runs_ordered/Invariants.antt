use Rattle.questions.proofs.Runs.{Ordered}
use Rattle.questions.proofs.parts.runs_ordered.Given as goal

abbrev pub invariant-loop-n : goal.invariant-loop-n
invariant-loop-n l = Ordered l.fn.runs l.lengths l.ok l.runs l.n-index
