use Rattle.questions.proofs.Runs.{Summed}
use Rattle.questions.proofs.parts.counted.Given as goal

abbrev pub invariant-loop-c : goal.invariant-loop-c
invariant-loop-c l = Summed l.counts l.most l.c-index l.total
