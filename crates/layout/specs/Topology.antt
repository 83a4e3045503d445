-- The topology of a layout as lists of layers, rows and anchors, cut from the flat arrays by the counts. Definitions only.
use Rattle.std.specs.Prelude.{ℕ, List, [], ◌∷◌, map, Float, take, drop}
use Rattle.lists.specs.Lists.{total}
use Rattle.layout.specs.declared.Anchor.{Anchor}
use Rattle.layout.specs.declared.Row.{Row}
use Rattle.layout.specs.declared.Layer.{Layer}
use Rattle.layout.specs.declared.Layout.{Layout}

abbrev pub anchor_name : Anchor → ℕ
anchor_name a = a.name

abbrev pub anchor_x : Anchor → Float
anchor_x a = a.x

abbrev pub row_y : Row → Float
row_y r = r.y

abbrev pub row_count : Row → ℕ
row_count r = r.count

abbrev pub layer_z : Layer → Float
layer_z l = l.z

abbrev pub layer_count : Layer → ℕ
layer_count l = l.count

-- a row of the topology: its y and its anchors
pub record TopologyRow : Type 0 where
  pub y : Float
  pub anchors : List Anchor

-- a layer of the topology: its z and its rows
pub record TopologyLayer : Type 0 where
  pub z : Float
  pub rows : List TopologyRow

-- each row takes as many of the anchors as it counts, and the next row goes on behind them
abbrev pub rows_of : List Row → List Anchor → List TopologyRow
rows_of [] anchors = []
rows_of (r ∷ rs) anchors = record { y = r.y; anchors = take r.count anchors } ∷ rows_of rs (drop r.count anchors)

-- and so the layers with the rows
abbrev pub layers_of : List Layer → List TopologyRow → List TopologyLayer
layers_of [] rs = []
layers_of (l ∷ ls) rs = record { z = l.z; rows = take l.count rs } ∷ layers_of ls (drop l.count rs)

abbrev pub topology_of : Layout → List TopologyLayer
topology_of l = layers_of (take l.depth l.layers) (rows_of l.rows l.anchors)

-- ---- the flat lists, entries past a count left out
abbrev pub used_layers : Layout → List Layer
used_layers l = take l.depth l.layers

abbrev pub used_rows : Layout → List Row
used_rows l = take (total (map layer_count (used_layers l))) l.rows

abbrev pub used_anchors : Layout → List Anchor
used_anchors l = take (total (map row_count (used_rows l))) l.anchors
