-- The room in the key of an accepted layout is the layout's room, with the coordinates that the patterns stand for.
use Prim.Native.Nat.{ℕ, ◌≤◌}
use mathlib.Core.Path.{◌≡◌, sym, ap, ap₂, ◌∙◌}
use mathlib.Core.List.{map}
use native.Mathlib.Omega.{arith}
use Rattle.lists.specs.Lists.{total}
use Rattle.layout.specs.declared.Layout.{Layout}
use Rattle.layout.specs.Topology.{rows_of, layers_of, used_layers, used_rows, used_anchors, layer_count, row_count}
use Rattle.layout.specs.Steps.Accepted.{Accepted}
use Rattle.layout.specs.Room.{Room, room_of}
use Rattle.layout.proofs.Sizes.{Sized}
use Rattle.layout.proofs.TopologyCut.{with_z, mapped_layer, rows_mapped, layers_mapped, topology_used}
use Rattle.keys.specs.InKey.{layout_in, room_in}
use Rattle.keys.specs.Steps.{packed_numbers}
use Rattle.keys.proofs.Back.{back}
use Rattle.keys.proofs.Asked.{channels_are, layers_are, rows_are, anchors_are}

abbrev pub back_room : Room → Room
back_room r = record { channels = r.channels; layers = map (mapped_layer back) r.layers }

pub room_back : (l : Layout) (s : Sized l) (a : Accepted l) (e : ℕ) → room_in (packed_numbers l e) ≡ back_room (room_of l)
room_back l s a e =
    let rows : total (map layer_count (used_layers l)) ≤ 24 = omega (arith, a.row_total, a.most_rows) in
    let anchors : total (map row_count (used_rows l)) ≤ 24 = omega (arith, a.anchor_total, a.most_anchors) in
    ap₂ (λ cs ys. record { channels = cs; layers = ys }) (channels_are l s e a.few_channels)
    (topology_used (layout_in (packed_numbers l e))
    ∙ ap₂ layers_of (layers_are l s e a.few_layers) (ap₂ rows_of (rows_are l s e a.few_layers rows) (anchors_are l s e a.few_layers rows anchors))
    ∙ ap (layers_of (map (with_z back) (used_layers l))) (rows_mapped back (used_rows l) (used_anchors l))
    ∙ layers_mapped back (used_layers l) (rows_of (used_rows l) (used_anchors l))
    ∙ ap (map (mapped_layer back)) (sym (topology_used l)))
