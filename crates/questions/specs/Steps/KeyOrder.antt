-- Runs of doubles in a key. Definitions only.
use Rattle.std.specs.Prelude.{ℕ, ◌+◌, Bool, ◌&&◌, List, map, slice_range}
use Rattle.lists.specs.Lists.{chunks}
use Rattle.std.specs.List.{list_all}
use Rattle.layout.specs.Questions.{ordered}
use Rattle.keys.specs.InKey.{double}

-- each of the runs of doubles with these lengths, one behind the other, is ordered
abbrev pub runs_ordered : List ℕ → List ℕ → Bool
runs_ordered runs lengths = list_all ordered (chunks lengths (map double runs))

-- z over layers, y within each layer, x within each row
abbrev pub all_ordered : List ℕ → ℕ → ℕ → Bool
all_ordered key depth rows =
    (ordered (map double (slice_range key 100 (100 + depth))) && runs_ordered (slice_range key 104 128) (slice_range key 48 (48 + depth)))
    && runs_ordered (slice_range key 128 152) (slice_range key 52 (52 + rows))
