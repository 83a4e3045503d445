-- A topology is that of what the counts cover, and a function on the coordinates goes through it.
use Prim.Native.Nat.{◌+◌}
use mathlib.Core.Path.{◌≡◌, refl, sym, ap, ap₂, ◌∙◌}
use mathlib.Core.List.{List, [], ◌∷◌, map}
use native.Mathlib.Omega.{arith}
use lib.Ieee.{Float}
use lib.ListN.{take, drop}
use lib.Seq.{take-take}
use Rattle.std.proofs.lemmas.List.{drop-take, take-map, drop-map}
use Rattle.lists.specs.Lists.{total}
use Rattle.layout.specs.declared.Anchor.{Anchor}
use Rattle.layout.specs.declared.Row.{Row}
use Rattle.layout.specs.declared.Layer.{Layer}
use Rattle.layout.specs.declared.Layout.{Layout}
use Rattle.layout.specs.Topology.{TopologyRow, TopologyLayer, topology_of, rows_of, layers_of, used_layers, used_rows, used_anchors, layer_count, row_count}
use Rattle.layout.proofs.TopologyStarts.{rows_take}

rows_cut : (rs : List Row) (xs : List Anchor) → rows_of rs (take (total (map row_count rs)) xs) ≡ rows_of rs xs
rows_cut [] xs = refl
rows_cut (r ∷ rs) xs =
    let t = total (map row_count rs) in
    ap₂ (λ (a : List Anchor) (ts : List TopologyRow). record { y = r.y; anchors = a } ∷ ts) (take-take r.count (r.count + t) xs (omega arith))
    (ap (rows_of rs) (drop-take r.count t xs) ∙ rows_cut rs (drop r.count xs))

layers_cut : (ls : List Layer) (ts : List TopologyRow) → layers_of ls (take (total (map layer_count ls)) ts) ≡ layers_of ls ts
layers_cut [] ts = refl
layers_cut (y ∷ ls) ts =
    let t = total (map layer_count ls) in
    ap₂ (λ (a : List TopologyRow) (us : List TopologyLayer). record { z = y.z; rows = a } ∷ us) (take-take y.count (y.count + t) ts (omega arith))
    (ap (layers_of ls) (drop-take y.count t ts) ∙ layers_cut ls (drop y.count ts))

pub topology_used : (l : Layout) → topology_of l ≡ layers_of (used_layers l) (rows_of (used_rows l) (used_anchors l))
topology_used l =
    sym (layers_cut (used_layers l) (rows_of l.rows l.anchors))
    ∙ ap (layers_of (used_layers l)) (rows_take (total (map layer_count (used_layers l))) l.rows l.anchors ∙ sym (rows_cut (used_rows l) l.anchors))

-- ---- a function on each coordinate
module _ (f : Float → Float) where
  abbrev pub with_x : Anchor → Anchor
  with_x a = record { name = a.name; x = f a.x }

  abbrev pub with_y : Row → Row
  with_y r = record { y = f r.y; count = r.count }

  abbrev pub with_z : Layer → Layer
  with_z y = record { z = f y.z; count = y.count }

  abbrev pub mapped_row : TopologyRow → TopologyRow
  mapped_row w = record { y = f w.y; anchors = map with_x w.anchors }

  abbrev pub mapped_layer : TopologyLayer → TopologyLayer
  mapped_layer y = record { z = f y.z; rows = map mapped_row y.rows }

  pub rows_mapped : (rs : List Row) (xs : List Anchor) → rows_of (map with_y rs) (map with_x xs) ≡ map mapped_row (rows_of rs xs)
  rows_mapped [] xs = refl
  rows_mapped (r ∷ rs) xs =
      ap₂ (λ (a : List Anchor) (ts : List TopologyRow). record { y = f r.y; anchors = a } ∷ ts) (take-map with_x r.count xs)
      (ap (rows_of (map with_y rs)) (drop-map with_x r.count xs) ∙ rows_mapped rs (drop r.count xs))

  pub layers_mapped : (ls : List Layer) (ts : List TopologyRow) → layers_of (map with_z ls) (map mapped_row ts) ≡ map mapped_layer (layers_of ls ts)
  layers_mapped [] ts = refl
  layers_mapped (y ∷ ls) ts =
      ap₂ (λ (a : List TopologyRow) (us : List TopologyLayer). record { z = f y.z; rows = a } ∷ us) (take-map mapped_row y.count ts)
      (ap (layers_of (map with_z ls)) (drop-map mapped_row y.count ts) ∙ layers_mapped ls (drop y.count ts))
