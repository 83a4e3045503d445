-- What the room of an accepted layout guarantees: counts within their bounds, coordinates in the room and in order, each a binary64.
use Prim.Native.Nat.{◌≤◌}
use mathlib.Core.Path.{◌≡◌, ap, ◌∙◌}
use mathlib.Core.Bool.{Bool, ◌&&◌}
use mathlib.Core.List.{List, [], ◌∷◌, map}
use native.Mathlib.Omega.{arith}
use lib.Dec.{T}
use lib.Ieee.{binary64, fits}
use lib.ListN.{length, take, drop}
use mir.Facts.{and_yes, yes_and}
use Rattle.std.specs.List.{list_all}
use Rattle.std.proofs.lemmas.List.{take-map}
use Rattle.layout.specs.declared.Anchor.{Anchor}
use Rattle.layout.specs.declared.Row.{Row}
use Rattle.layout.specs.declared.Layer.{Layer}
use Rattle.layout.specs.declared.Layout.{Layout}
use Rattle.layout.specs.Topology.{TopologyRow, TopologyLayer, rows_of, layers_of, used_layers, used_rows, layer_z, row_y, anchor_x}
use Rattle.layout.specs.Questions.{ordered, ordered_layer, topology_y, topology_z}
use Rattle.layout.specs.Steps.Accepted.{Accepted}
use Rattle.layout.specs.Room.{Room, room_of, active_in, rows_in, anchors_in}
use Rattle.layout.proofs.Sizes.{Sized}
use Rattle.layout.proofs.Coordinates.{all_taken, all_dropped, all_map, all_unmap}
use Rattle.layout.proofs.TopologyStarts.{rows_length}
use Rattle.layout.proofs.RoomLists.{rows_are, anchors_are, used_is, depth_is}

-- ---- coordinates that are doubles
abbrev pub fits_anchor : Anchor → Bool
fits_anchor a = fits binary64 a.x

abbrev pub fits_row : TopologyRow → Bool
fits_row w = fits binary64 w.y && list_all fits_anchor w.anchors

abbrev pub fits_layer : TopologyLayer → Bool
fits_layer y = fits binary64 y.z && list_all fits_row y.rows

pub record SoundRoom (r : Room) : Type 0 where
  -- at most 24 channels, 1 to 24 of them active
  pub few_channels : length r.channels ≤ 24
  pub some_active : 1 ≤ active_in r
  pub few_active : active_in r ≤ 24
  -- at most 4 layers, and 24 rows and 24 anchors in all
  pub few_layers : length r.layers ≤ 4
  pub few_rows : length (rows_in r) ≤ 24
  pub few_anchors : length (anchors_in r) ≤ 24
  -- coordinates are finite, from -1 to 1 and strictly ascending
  pub z_ordered : T (ordered (map topology_z r.layers))
  pub layers_ordered : T (list_all ordered_layer r.layers)
  -- and doubles
  pub doubles : T (list_all fits_layer r.layers)

-- ---- the coordinates of one list
pub xs_fit : (w : TopologyRow) → T (fits_row w) → T (list_all (fits binary64) (map anchor_x w.anchors))
xs_fit w h = all_map fits_anchor (fits binary64) anchor_x (λ a q. q) w.anchors (and_yes (fits binary64 w.y) (list_all fits_anchor w.anchors) h).1

pub ys_fit : (ws : List TopologyRow) → T (list_all fits_row ws) → T (list_all (fits binary64) (map topology_y ws))
ys_fit = all_map fits_row (fits binary64) topology_y (λ w h. (and_yes (fits binary64 w.y) (list_all fits_anchor w.anchors) h).0)

pub zs_fit : (ys : List TopologyLayer) → T (list_all fits_layer ys) → T (list_all (fits binary64) (map topology_z ys))
zs_fit = all_map fits_layer (fits binary64) topology_z (λ y h. (and_yes (fits binary64 y.z) (list_all fits_row y.rows) h).0)

pub rows_of_lem : (y : TopologyLayer) → T (fits_layer y) → T (list_all fits_row y.rows)
rows_of_lem y h = (and_yes (fits binary64 y.z) (list_all fits_row y.rows) h).1

-- ---- flat lists whose coordinates are doubles, cut by counts
rows_fit : (rs : List Row) (xs : List Anchor) → T (list_all (fits binary64) (map row_y rs)) → T (list_all fits_anchor xs) → T (list_all fits_row (rows_of rs xs))
rows_fit [] xs h k = tt
rows_fit (r ∷ rs) xs h k =
    let p = and_yes (fits binary64 r.y) (list_all (fits binary64) (map row_y rs)) h in
    yes_and (fits binary64 r.y && list_all fits_anchor (take r.count xs)) (list_all fits_row (rows_of rs (drop r.count xs)))
    (yes_and (fits binary64 r.y) (list_all fits_anchor (take r.count xs)) p.0 (all_taken fits_anchor r.count xs k))
    (rows_fit rs (drop r.count xs) p.1 (all_dropped fits_anchor r.count xs k))

layers_fit : (ls : List Layer) (ts : List TopologyRow) → T (list_all (fits binary64) (map layer_z ls)) → T (list_all fits_row ts) → T (list_all fits_layer (layers_of ls ts))
layers_fit [] ts h k = tt
layers_fit (l ∷ ls) ts h k =
    let p = and_yes (fits binary64 l.z) (list_all (fits binary64) (map layer_z ls)) h in
    yes_and (fits binary64 l.z && list_all fits_row (take l.count ts)) (list_all fits_layer (layers_of ls (drop l.count ts)))
    (yes_and (fits binary64 l.z) (list_all fits_row (take l.count ts)) p.0 (all_taken fits_row l.count ts k))
    (layers_fit ls (drop l.count ts) p.1 (all_dropped fits_row l.count ts k))

-- ---- the law
pub sound_room : (l : Layout) → Sized l → Accepted l → T (list_all (fits binary64) (map layer_z l.layers)) → T (list_all (fits binary64) (map row_y l.rows)) → T (list_all (fits binary64) (map anchor_x l.anchors)) → SoundRoom (room_of l)
sound_room l s a zs ys xs =
    let rows : length (rows_in (room_of l)) ≡ length (used_rows l) = ap length (rows_are l) ∙ rows_length (used_rows l) l.anchors in
    let anchors = ap length (anchors_are l) in
    record {
      few_channels = omega (arith, used_is l s a, a.few_channels);
      some_active = a.some_active;
      few_active = a.few_active;
      few_layers = omega (arith, depth_is l s a, a.few_layers);
      few_rows = omega (arith, a.most_rows);
      few_anchors = omega (arith, a.most_anchors);
      z_ordered = a.z_ordered;
      layers_ordered = a.layers_ordered;
      doubles = layers_fit (used_layers l) _ (rw (← take-map layer_z l.depth l.layers) (all_taken (fits binary64) l.depth (map layer_z l.layers) zs)) (rows_fit l.rows l.anchors ys (all_unmap (fits binary64) anchor_x l.anchors xs));
    }
