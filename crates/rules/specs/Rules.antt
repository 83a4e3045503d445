-- How a layer keeps its anchors under a region state, by document 01. Definitions only.
use Rattle.std.specs.Prelude.{Bool, true, false}
use Rattle.classes.specs.declared.BedMatch.{BedMatch}
use Rattle.classes.specs.declared.BedMatch.TheVariants.{Kept, Dropped, Unclassed}

abbrev pub is_kept : BedMatch → Bool
is_kept Kept = true
is_kept Dropped = false
is_kept Unclassed = false

abbrev pub is_classed : BedMatch → Bool
is_classed Kept = true
is_classed Dropped = true
is_classed Unclassed = false
