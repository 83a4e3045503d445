-- How many places the arrays of a layout have: what owning a layout tells, `search (rules, long)`.
use Prim.Native.Nat.{ℕ, ◌≤◌}
use mathlib.Core.Path.{◌≡◌}
use mathlib.Core.List.{List, map}
use native.Mathlib.Omega.{arith}
use lib.ListN.{length, take, length-take}
use Rattle.lists.specs.Lists.{total}
use Rattle.layout.specs.declared.Layout.{Layout}
use Rattle.layout.specs.Topology.{used_layers, used_rows, used_anchors, layer_count, row_count}

pub record Sized (l : Layout) : Type 0 where
  pub channels : length l.channels ≡ 24
  pub layers : length l.layers ≡ 4
  pub rows : length l.rows ≡ 24
  pub anchors : length l.anchors ≡ 24

taken_fit : {A : Type 0} (n : ℕ) (l : List A) → length l ≡ 24 → length (take n l) ≤ 24
taken_fit n l h = rw length-take (omega arith)

module _ (l : Layout) (s : Sized l) where
  pub rows_fit : length (used_rows l) ≤ 24
  rows_fit = taken_fit (total (map layer_count (used_layers l))) l.rows s.rows

  pub anchors_fit : length (used_anchors l) ≤ 24
  anchors_fit = taken_fit (total (map row_count (used_rows l))) l.anchors s.anchors
