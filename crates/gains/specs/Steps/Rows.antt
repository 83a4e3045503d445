-- The rows of a place, as the code holds it. Definitions only; no reader of document 01 needs them.
use Rattle.std.specs.Prelude.{ℕ}
use Rattle.gains.specs.declared.place.Place.{Place}
use Rattle.gains.specs.Diffuse.{Rows, place_rows}

-- the rows of channel k
abbrev pub rows_of : Place → ℕ → Rows
rows_of p k = place_rows p.store.now p.base p.n k
