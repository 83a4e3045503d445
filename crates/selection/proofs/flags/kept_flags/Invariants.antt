use Prim.Native.Nat.{◌≤◌}
use mathlib.Core.Path.{◌≡◌}
use lib.ListN.{length}
use Rattle.selection.proofs.KeyLayers.{FlagsTo}
use Rattle.selection.proofs.flags.kept_flags.Given as goal

abbrev pub invariant-loop-i : goal.invariant-loop-i
invariant-loop-i l = (l.depth ≤ 4) × (length l.kept ≡ 24) × FlagsTo l.key l.state l.kept l.i
