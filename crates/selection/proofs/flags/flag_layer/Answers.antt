-- The first i flags are written.
use mathlib.Core.Path.{sym, ◌∙◌}
use native.Mathlib.Omega.{arith}
use lib.ListN.{get_or-map}
use Rattle.lists.proofs.Fill.{fill_more}
use Rattle.rules.specs.Steps.{stays_by}
use Rattle.selection.proofs.flags.flag_layer.Goals as goal

pub loop-i-preserved : goal.loop-i-preserved
loop-i-preserved c = fill_more _ _ _ _ _ _ c.loop-i.invariant (omega arith) (c.stays_by.ensures ∙ sym (get_or-map (stays_by c.args.rule) c.args.names.now c.loop-i.i 0))
