-- The starts of an accepted layout: each part begins where the one before it ends, none is empty, and the last ends with its list.
use Prim.Native.Nat.{ℕ, suc, ◌+◌, ◌≤◌, ◌<◌}
use mathlib.Core.Path.{◌≡◌, sym, ◌∙◌}
use mathlib.Core.List.{List, map}
use native.Mathlib.Omega.{arith}
use lib.ListN.{length, get_or, take}
use Rattle.std.proofs.lemmas.List.{take-map}
use Rattle.lists.specs.Lists.{total}
use Rattle.layout.specs.declared.Layout.{Layout}
use Rattle.layout.specs.Topology.{used_layers, used_rows, used_anchors, row_count, layer_count}
use Rattle.layout.specs.Steps.Starts.{row_starts, anchor_starts, no_row, no_layer}
use Rattle.layout.specs.Steps.Accepted.{Accepted}
use Rattle.layout.proofs.TopologyLists.{total_within, total_next, take_taken}

-- the sum of the first i counts is at most that of the first n
sums_within : {A : Type 0} (count : A → ℕ) (i n : ℕ) (l : List A) → i ≤ n → total (map count (take i l)) ≤ total (map count (take n l))
sums_within count i n l h = rw (← take-map count i l, ← take-map count n l) (total_within i n (map count l) h)

module _ (l : Layout) (layers : length l.layers ≡ 4) (rows : length l.rows ≡ 24) (a : Accepted l) where
  -- ---- the rows of a layer
  pub row_next : (i : ℕ) → i < l.depth → get_or (row_starts l) (suc i) 0 ≡ get_or (row_starts l) i 0 + (get_or l.layers i no_layer).count
  row_next i h =
      let m = a.few_layers in
      let n = total_next layer_count i l.layers no_layer (omega arith) in
      let p = a.row_start i (omega arith) in
      let q = a.row_start (suc i) h in
      omega arith

  pub row_rises : (i : ℕ) → i < l.depth → get_or (row_starts l) i 0 < get_or (row_starts l) (suc i) 0
  row_rises i h = omega (arith, row_next i h, a.some_rows i h)

  pub row_end : get_or (row_starts l) l.depth 0 ≡ length (used_rows l)
  row_end = a.row_start l.depth (omega arith) ∙ sym a.row_total

  pub row_most : (i : ℕ) → i ≤ l.depth → get_or (row_starts l) i 0 ≤ length (used_rows l)
  row_most i h = omega (arith, a.row_start i h, a.row_total, sums_within layer_count i l.depth l.layers h)

  -- ---- the anchors of a row
  pub anchor_next : (i : ℕ) → i < length (used_rows l) → get_or (anchor_starts l) (suc i) 0 ≡ get_or (anchor_starts l) i 0 + (get_or l.rows i no_row).count
  anchor_next i h =
      let m = a.most_rows in
      let n = total_next row_count i l.rows no_row (omega arith) in
      let p = a.anchor_start i (omega arith) in
      let q = a.anchor_start (suc i) h in
      omega arith

  pub anchor_rises : (i : ℕ) → i < length (used_rows l) → get_or (anchor_starts l) i 0 < get_or (anchor_starts l) (suc i) 0
  anchor_rises i h = omega (arith, anchor_next i h, a.some_anchors i h)

  -- the rows that there are, by their number
  used : take (length (used_rows l)) l.rows ≡ used_rows l
  used = take_taken (total (map layer_count (used_layers l))) l.rows

  pub anchor_end : get_or (anchor_starts l) (length (used_rows l)) 0 ≡ length (used_anchors l)
  anchor_end = a.anchor_start (length (used_rows l)) (omega arith) ∙ rw used (sym a.anchor_total)

  pub anchor_most : (i : ℕ) → i ≤ length (used_rows l) → get_or (anchor_starts l) i 0 ≤ length (used_anchors l)
  anchor_most i h = omega (arith, a.anchor_start i h, a.anchor_total, rw used at (sums_within row_count i (length (used_rows l)) l.rows h))
