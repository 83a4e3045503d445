-- The topology of any layout by the flat lists and the starts, for code that walks these: its lists, and each layer and row.
use Prim.Native.Nat.{ℕ, suc, ◌≤◌, ◌<◌}
use mathlib.Core.Path.{◌≡◌, ap, ◌∙◌, sym}
use mathlib.Core.List.{map}
use native.Mathlib.Omega.{arith}
use lib.ListN.{length, get_or, take, length-map}
use lib.Seq.{slice, get_or-take, length-take-le}
use Rattle.std.proofs.lemmas.List.{take-map}
use Rattle.lists.specs.Lists.{total, flatten}
use Rattle.layout.specs.declared.Layout.{Layout}
use Rattle.layout.specs.Topology.{TopologyRow, TopologyLayer, topology_of, rows_of, used_layers, used_rows, used_anchors, row_y, row_count, layer_z, layer_count}
use Rattle.layout.specs.Steps.Starts.{starts_from, row_starts, anchor_starts, no_row, no_layer}
use Rattle.layout.specs.Questions.{topology_y, topology_z}
use Rattle.layout.proofs.TopologyLists.{concat_chunks}
use Rattle.layout.proofs.TopologyStarts.{topology_anchors, topology_rows, rows_y, rows_anchors, rows_take, rows_length, layers_z, layers_rows, layers_length, starts_take, rows_at, layers_at}

module _ (l : Layout) where
  -- the rows of all layers, and the anchors of all rows
  pub topology_rows_lem : flatten (map topology_rows (topology_of l)) ≡ rows_of (used_rows l) l.anchors
  topology_rows_lem =
      let cs = map layer_count (used_layers l) in
      let ts = rows_of l.rows l.anchors in
      ap flatten (layers_rows (used_layers l) ts) ∙ concat_chunks cs ts ∙ rows_take (total cs) l.rows l.anchors

  pub topology_anchors_lem : flatten (map topology_anchors (rows_of (used_rows l) l.anchors)) ≡ used_anchors l
  topology_anchors_lem = ap flatten (rows_anchors (used_rows l) l.anchors) ∙ concat_chunks (map row_count (used_rows l)) l.anchors

  pub topology_z_lem : map topology_z (topology_of l) ≡ take l.depth (map layer_z l.layers)
  topology_z_lem = layers_z (used_layers l) (rows_of l.rows l.anchors) ∙ sym (take-map layer_z l.depth l.layers)

  pub topology_y_lem : map topology_y (rows_of l.rows l.anchors) ≡ map row_y l.rows
  topology_y_lem = rows_y l.rows l.anchors

-- the lengths of the arrays, and at most as many layers as there are places
module _ (l : Layout) (layers : length l.layers ≡ 4) (rows : length l.rows ≡ 24) (anchors : length l.anchors ≡ 24) (depth : l.depth ≤ 4) where
  pub topology_length : length (topology_of l) ≡ l.depth
  topology_length = layers_length (used_layers l) (rows_of l.rows l.anchors) ∙ length-take-le l.depth l.layers (omega arith)

  -- the starts of the layers that there are
  used_starts : starts_from 0 (map layer_count (used_layers l)) ≡ take (suc l.depth) (row_starts l)
  used_starts =
      let n = length-map l.layers layer_count in
      ap (starts_from 0) (sym (take-map layer_count l.depth l.layers)) ∙ starts_take l.depth (map layer_count l.layers) 0 (omega arith)

  pub topology_layer : (i : ℕ) (d : TopologyLayer) → i < l.depth →
      get_or (topology_of l) i d ≡ record { z = (get_or l.layers i no_layer).z; rows = slice (get_or (row_starts l) i 0) (get_or (row_starts l) (suc i) 0) (rows_of l.rows l.anchors) }
  topology_layer i d h =
      let ts = rows_of l.rows l.anchors in
      let n = rows_length l.rows l.anchors in
      let k = length-take-le l.depth l.layers (omega arith) in
      let e = layers_at (used_layers l) ts 0 i d (omega arith) (omega arith) in
      rw (used_starts, get_or-take l.depth l.layers i no_layer h, get_or-take (suc l.depth) (row_starts l) i 0 (omega arith), get_or-take (suc l.depth) (row_starts l) (suc i) 0 (omega arith)) at e

  pub topology_row : (i : ℕ) (d : TopologyRow) → i < 24 →
      get_or (rows_of l.rows l.anchors) i d ≡ record { y = (get_or l.rows i no_row).y; anchors = slice (get_or (anchor_starts l) i 0) (get_or (anchor_starts l) (suc i) 0) l.anchors }
  topology_row i d h = rows_at l.rows l.anchors 0 i d (omega arith) (omega arith)
