use Prim.Native.Nat.{◌≤◌}
use Rattle.region.specs.declared.RegionHorizontalState.{RegionHorizontalState}
use Rattle.region.specs.declared.RegionSemanticState.{RegionSemanticState}
use Rattle.region.specs.declared.RegionTopBottomState.TheVariants.{Include}
use Rattle.selection.proofs.KeyLayers.{ClassedFrom}
use Rattle.selection.proofs.flags.bed_classed.Given as goal

-- question 10 reads only the horizontal state
abbrev pub by : RegionHorizontalState → RegionSemanticState
by h = record { horizontal = h; top = Include }

abbrev pub invariant-loop-i : goal.invariant-loop-i
invariant-loop-i l = (l.depth ≤ 4) × ClassedFrom l.key (by l.bed.horizontal) l.bed.five l.i
