use mathlib.Core.List.{map}
use lib.ListN.{length}
use Rattle.lists.proofs.Fill.{Filled}
use Rattle.rules.specs.Steps.{stays_by}
use Rattle.selection.proofs.flags.flag_layer.Given as goal

abbrev pub invariant-loop-i : goal.invariant-loop-i
invariant-loop-i l = Filled (length l.names) (map (stays_by l.rule) l.names) l.kept l.i
