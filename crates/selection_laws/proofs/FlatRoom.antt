-- A layout of a room: its lists one after another, at the front of arrays that were blank.
use Prim.Native.Nat.{ℕ, ◌≤◌}
use mathlib.Core.Path.{◌≡◌, refl, sym, ap, ap₂, ◌∙◌}
use mathlib.Core.Bool.{Bool}
use mathlib.Core.List.{List, [], ◌∷◌, ◌++◌, map, append_assoc}
use native.Mathlib.Omega.{arith}
use lib.Dec.{T}
use lib.Ieee.{Float, binary64, fits}
use lib.ListN.{length, take, drop, length-map, length-append, length-drop}
use lib.Seq.{take-append_seam, drop-append_seam}
use Rattle.lists.specs.Lists.{total}
use Rattle.std.specs.List.{list_all}
use Rattle.layout.specs.declared.Channel.{Channel}
use Rattle.layout.specs.declared.Layer.{Layer}
use Rattle.layout.specs.declared.Row.{Row}
use Rattle.layout.specs.declared.Anchor.{Anchor}
use Rattle.layout.specs.declared.Layout.{Layout}
use Rattle.layout.specs.Build.{empty_layout}
use Rattle.layout.specs.Channels.{channels_of}
use Rattle.layout.specs.Room.{Room, room_of, rows_in, anchors_in}
use Rattle.layout.specs.Topology.{TopologyRow, TopologyLayer, topology_of, rows_of, layers_of, used_layers, used_rows, used_anchors, layer_count, layer_z, row_count, row_y, anchor_x}
use Rattle.layout.specs.Questions.{topology_y, topology_z}
use Rattle.layout.proofs.Coordinates.{all_append, all_dropped, all_map, all_unmap}
use Rattle.layout.proofs.Sizes.{Sized}
use Rattle.layout.proofs.TopologyFlat.{topology_rows_lem, topology_anchors_lem}
use Rattle.keys.specs.Keys.{rows_of_layer, anchors_of_row}
use Rattle.selection.proofs.KeptKey.{concat_long}
use Rattle.selection.proofs.KeptRoom.{row_anchors, layer_rows}

abbrev flat_row : TopologyRow → Row
flat_row w = record { y = w.y; count = length w.anchors }

abbrev flat_layer : TopologyLayer → Layer
flat_layer y = record { z = y.z; count = length y.rows }

abbrev padded : {A : Type 0} → List A → List A → List A
padded blank xs = xs ++ drop (length xs) blank

abbrev pub flat_room : Room → Layout
flat_room q =
    record {
      channels = padded empty_layout.channels q.channels;
      used = length q.channels;
      layers = padded empty_layout.layers (map flat_layer q.layers);
      depth = length q.layers;
      rows = padded empty_layout.rows (map flat_row (rows_in q));
      anchors = padded empty_layout.anchors (anchors_in q);
    }

-- ---- its room
rows_flat : (ws : List TopologyRow) (rest : List Row) (xs : List Anchor) → rows_of (map flat_row ws ++ rest) (row_anchors ws ++ xs) ≡ ws ++ rows_of rest xs
rows_flat [] rest xs = refl
rows_flat (w ∷ ws) rest xs =
    let n = length w.anchors in
    let e = append_assoc w.anchors (row_anchors ws) xs in
    ap₂ (λ (a : List Anchor) (t : List TopologyRow). record { y = w.y; anchors = a } ∷ t)
    (ap (take n) e ∙ take-append_seam w.anchors (row_anchors ws ++ xs))
    (ap (λ (v : List Anchor). rows_of (map flat_row ws ++ rest) (drop n v)) e ∙ ap (rows_of (map flat_row ws ++ rest)) (drop-append_seam w.anchors (row_anchors ws ++ xs)) ∙ rows_flat ws rest xs)

layers_flat : (ys : List TopologyLayer) (rest : List TopologyRow) → layers_of (map flat_layer ys) (layer_rows ys ++ rest) ≡ ys
layers_flat [] rest = refl
layers_flat (y ∷ ys) rest =
    let n = length y.rows in
    let e = append_assoc y.rows (layer_rows ys) rest in
    ap₂ (λ (a : List TopologyRow) (t : List TopologyLayer). record { z = y.z; rows = a } ∷ t)
    (ap (take n) e ∙ take-append_seam y.rows (layer_rows ys ++ rest))
    (ap (λ (v : List TopologyRow). layers_of (map flat_layer ys) (drop n v)) e ∙ ap (layers_of (map flat_layer ys)) (drop-append_seam y.rows (layer_rows ys ++ rest)) ∙ layers_flat ys rest)

-- the first of a padded list, as many as there are
padded_front : {A B : Type 0} (f : A → B) (blank : List B) (xs : List A) (n : ℕ) → n ≡ length xs → take n (padded blank (map f xs)) ≡ map f xs
padded_front {B = B} f blank xs n e = ap (λ (k : ℕ). take k (padded blank (map f xs))) (e ∙ sym (length-map xs f)) ∙ take-append_seam (map f xs) (drop (length (map f xs)) blank)

module _ (q : Room) where
  abbrev m : Layout
  m = flat_room q

  pub flat_layers : used_layers m ≡ map flat_layer q.layers
  flat_layers = padded_front flat_layer empty_layout.layers q.layers (length q.layers) refl

  pub flat_topology : topology_of m ≡ q.layers
  flat_topology =
      ap₂ layers_of flat_layers (rows_flat (rows_in q) (drop (length (map flat_row (rows_in q))) empty_layout.rows) (drop (length (anchors_in q)) empty_layout.anchors))
      ∙ layers_flat q.layers _

  pub flat_channels : channels_of m ≡ q.channels
  flat_channels = take-append_seam q.channels (drop (length q.channels) empty_layout.channels)

  pub flat_room_lem : room_of m ≡ q
  flat_room_lem = ap₂ (λ (cs : List Channel) (ys : List TopologyLayer). record { channels = cs; layers = ys }) flat_channels flat_topology

  -- ---- its counts and anchors
  map_flat_layers : (ys : List TopologyLayer) → map layer_count (map flat_layer ys) ≡ map rows_of_layer ys
  map_flat_layers [] = refl
  map_flat_layers (y ∷ ys) = ap (λ (t : List ℕ). length y.rows ∷ t) (map_flat_layers ys)

  map_flat_rows : (ws : List TopologyRow) → map row_count (map flat_row ws) ≡ map anchors_of_row ws
  map_flat_rows [] = refl
  map_flat_rows (w ∷ ws) = ap (λ (t : List ℕ). length w.anchors ∷ t) (map_flat_rows ws)

  pub flat_layer_counts : map layer_count (used_layers m) ≡ map rows_of_layer q.layers
  flat_layer_counts = ap (map layer_count) flat_layers ∙ map_flat_layers q.layers

  pub flat_row_counts : map row_count (used_rows m) ≡ map anchors_of_row (rows_in q)
  flat_row_counts =
      ap (map row_count) (padded_front flat_row empty_layout.rows (rows_in q) (total (map layer_count (used_layers m))) (ap total flat_layer_counts ∙ concat_long (λ (y : TopologyLayer). y.rows) q.layers))
      ∙ map_flat_rows (rows_in q)

  pub flat_anchors : used_anchors m ≡ anchors_in q
  flat_anchors =
      sym (ap row_anchors (topology_rows_lem m) ∙ topology_anchors_lem m)
      ∙ ap (λ (ys : List TopologyLayer). row_anchors (layer_rows ys)) flat_topology

  -- ---- its arrays
  padded_long : {A : Type 0} (blank xs : List A) (n : ℕ) → length blank ≡ n → length xs ≤ n → length (padded blank xs) ≡ n
  padded_long blank xs n e h = length-append xs (drop (length xs) blank) ∙ omega (arith, length-drop (length xs) blank)

  pub flat_sized : length q.channels ≤ 24 → length q.layers ≤ 4 → length (rows_in q) ≤ 24 → length (anchors_in q) ≤ 24 → Sized m
  flat_sized c l r a =
      record {
        channels = padded_long empty_layout.channels q.channels 24 refl c;
        layers = padded_long empty_layout.layers (map flat_layer q.layers) 4 refl (omega (arith, length-map q.layers flat_layer));
        rows = padded_long empty_layout.rows (map flat_row (rows_in q)) 24 refl (omega (arith, length-map (rows_in q) flat_row));
        anchors = padded_long empty_layout.anchors (anchors_in q) 24 refl a;
      }

  -- ---- its coordinates are doubles where the room's are
  fits_padded : {A : Type 0} (f : A → Float) (blank xs : List A) → T (list_all (λ (x : A). fits binary64 (f x)) blank) → T (list_all (λ (x : A). fits binary64 (f x)) xs) → T (list_all (fits binary64) (map f (padded blank xs)))
  fits_padded {A} f blank xs b h =
      let p : A → Bool = λ x. fits binary64 (f x) in
      all_map p (fits binary64) f (λ x k. k) (padded blank xs) (all_append p xs (drop (length xs) blank) h (all_dropped p (length xs) blank b))

  blank_zs : T (list_all (λ y. fits binary64 (layer_z y)) empty_layout.layers)
  unfolding fits
  blank_zs = tt

  pub flat_zs : T (list_all (fits binary64) (map topology_z q.layers)) → T (list_all (fits binary64) (map layer_z m.layers))
  flat_zs h =
      fits_padded layer_z empty_layout.layers (map flat_layer q.layers) blank_zs
      (all_map (λ y. fits binary64 (topology_z y)) (λ y. fits binary64 (layer_z y)) flat_layer (λ y k. k) q.layers (all_unmap (fits binary64) topology_z q.layers h))

  blank_ys : T (list_all (λ r. fits binary64 (row_y r)) empty_layout.rows)
  unfolding fits
  blank_ys = tt

  pub flat_ys : T (list_all (fits binary64) (map topology_y (rows_in q))) → T (list_all (fits binary64) (map row_y m.rows))
  flat_ys h =
      fits_padded row_y empty_layout.rows (map flat_row (rows_in q)) blank_ys
      (all_map (λ w. fits binary64 (topology_y w)) (λ r. fits binary64 (row_y r)) flat_row (λ w k. k) (rows_in q) (all_unmap (fits binary64) topology_y (rows_in q) h))

  blank_xs : T (list_all (λ a. fits binary64 (anchor_x a)) empty_layout.anchors)
  unfolding fits
  blank_xs = tt

  pub flat_xs : T (list_all (fits binary64) (map anchor_x (anchors_in q))) → T (list_all (fits binary64) (map anchor_x m.anchors))
  flat_xs h = fits_padded anchor_x empty_layout.anchors (anchors_in q) blank_xs (all_unmap (fits binary64) anchor_x (anchors_in q) h)
