-- The room of a layout by the layout's flat lists: its rows, its anchors, and how many of each there are.
use mathlib.Core.Path.{◌≡◌, sym, ap, ◌∙◌}
use mathlib.Core.List.{List, map, map-map}
use native.Mathlib.Omega.{arith}
use lib.ListN.{length}
use lib.Seq.{length-take-le}
use Rattle.lists.specs.Lists.{flatten}
use Rattle.lists.proofs.Chunks.{chunk_lengths}
use Rattle.layout.specs.declared.Layout.{Layout}
use Rattle.layout.specs.Channels.{channels_of}
use Rattle.layout.specs.Topology.{TopologyRow, TopologyLayer, topology_of, rows_of, used_layers, used_rows, used_anchors, layer_count, row_count}
use Rattle.layout.specs.Steps.Accepted.{Accepted}
use Rattle.layout.specs.Room.{room_of, rows_in, anchors_in}
use Rattle.layout.proofs.Sizes.{Sized}
use Rattle.layout.proofs.TopologyStarts.{topology_anchors, topology_rows, rows_anchors, rows_length, layers_rows}
use Rattle.layout.proofs.TopologyFlat.{topology_rows_lem, topology_anchors_lem, topology_length}

module _ (l : Layout) where
  -- the rows and the anchors of any layout's room
  pub rows_are : rows_in (room_of l) ≡ rows_of (used_rows l) l.anchors
  rows_are = topology_rows_lem l

  pub anchors_are : anchors_in (room_of l) ≡ used_anchors l
  anchors_are = ap (λ (t : List TopologyRow). flatten (map topology_anchors t)) rows_are ∙ topology_anchors_lem l

  -- of an accepted one, how many rows each layer has, and anchors each row; how many channels and layers there are
  module _ (s : Sized l) (a : Accepted l) where
    pub layer_counts_lem : map (λ (y : TopologyLayer). length y.rows) (topology_of l) ≡ map layer_count (used_layers l)
    layer_counts_lem =
        let ts = rows_of l.rows l.anchors in
        sym (map-map length topology_rows (topology_of l))
        ∙ ap (map length) (layers_rows (used_layers l) ts)
        ∙ chunk_lengths (map layer_count (used_layers l)) ts (omega (arith, rows_length l.rows l.anchors, s.rows, a.row_total, a.most_rows))

    pub row_counts_lem : map (λ (w : TopologyRow). length w.anchors) (rows_in (room_of l)) ≡ map row_count (used_rows l)
    row_counts_lem =
        ap (map (λ (w : TopologyRow). length w.anchors)) rows_are
        ∙ sym (map-map length topology_anchors (rows_of (used_rows l) l.anchors))
        ∙ ap (map length) (rows_anchors (used_rows l) l.anchors)
        ∙ chunk_lengths (map row_count (used_rows l)) l.anchors (omega (arith, s.anchors, a.anchor_total, a.most_anchors))

    pub used_is : length (channels_of l) ≡ l.used
    used_is = length-take-le l.used l.channels (omega (arith, s.channels, a.few_channels))

    pub depth_is : length (topology_of l) ≡ l.depth
    depth_is = topology_length l s.layers s.rows s.anchors a.few_layers
