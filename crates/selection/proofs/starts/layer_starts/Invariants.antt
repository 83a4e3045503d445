use Rattle.selection.proofs.KeyStarts.{Walked}
use Rattle.selection.proofs.starts.layer_starts.Given as goal

abbrev pub invariant-loop-i : goal.invariant-loop-i
invariant-loop-i l = Walked l.key l.starts l.row l.i
