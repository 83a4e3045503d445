-- The key of an accepted layout is that of its room.
use Prim.Native.Nat.{ℕ}
use mathlib.Core.Path.{◌≡◌, sym, ap, ◌∙◌}
use mathlib.Core.List.{List, map, map-map}
use Rattle.layout.specs.declared.Layout.{Layout}
use Rattle.layout.specs.Topology.{TopologyRow, TopologyLayer, topology_of, rows_of, used_layers, used_rows, layer_z, row_y}
use Rattle.layout.specs.Questions.{topology_y, topology_z}
use Rattle.layout.specs.Steps.Accepted.{Accepted}
use Rattle.layout.specs.Room.{room_of, rows_in}
use Rattle.layout.proofs.Sizes.{Sized}
use Rattle.layout.proofs.RoomLists.{rows_are, anchors_are, layer_counts_lem, row_counts_lem, used_is, depth_is}
use Rattle.layout.proofs.TopologyStarts.{rows_y, layers_z}
use Rattle.keys.specs.Keys.{pattern, key_numbers}
use Rattle.keys.specs.Steps.{z_pattern, y_pattern, packed_numbers}

module _ (l : Layout) (s : Sized l) (a : Accepted l) where
  abbrev rs : List TopologyRow
  rs = rows_of l.rows l.anchors

  zs : map (λ (y : TopologyLayer). pattern (topology_z y)) (topology_of l) ≡ map z_pattern (used_layers l)
  zs = sym (map-map pattern topology_z (topology_of l)) ∙ ap (map pattern) (layers_z (used_layers l) rs) ∙ map-map pattern layer_z (used_layers l)

  ys : map (λ (w : TopologyRow). pattern (topology_y w)) (rows_in (room_of l)) ≡ map y_pattern (used_rows l)
  ys =
      ap (map (λ (w : TopologyRow). pattern (topology_y w))) (rows_are l)
      ∙ sym (map-map pattern topology_y (rows_of (used_rows l) l.anchors))
      ∙ ap (map pattern) (rows_y (used_rows l) l.anchors)
      ∙ map-map pattern row_y (used_rows l)

  pub packed_room : (e : ℕ) → key_numbers (room_of l) e ≡ packed_numbers l e
  unfolding key_numbers packed_numbers
  packed_room e = rw (layer_counts_lem l s a, row_counts_lem l s a, anchors_are l, zs, ys, used_is l s a, depth_is l s a)
