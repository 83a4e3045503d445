use mathlib.Core.Path.{◌≡◌}
use mathlib.Core.List.{◌++◌, map}
use lib.ListN.{length, take, drop, replicate}
use Rattle.kept_anchors.specs.Steps.Kept.{is_positive, counts_of}
use Rattle.kept_anchors.proofs.Reached.{Reached}
use Rattle.kept_anchors.proofs.kept.count_parts.Given as goal

abbrev pub invariant-loop-i : goal.invariant-loop-i
invariant-loop-i l =
    let ns = l.initial.lengths in
    let cs = counts_of ns l.flags in
    Reached ns (length ns) l.at l.i
    × (l.lengths ≡ take l.i cs ++ drop l.i ns)
    × (l.any ≡ map is_positive (take l.i cs ++ drop l.i (replicate 24 0)))
