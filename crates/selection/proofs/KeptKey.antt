-- What is picked from the parts of a key are the parts of the room with just the anchors that are kept.
use Prim.Native.Nat.{ℕ, ◌+◌, ◌≤◌, min}
use mathlib.Core.Path.{◌≡◌, refl, sym, ap, ap₂, ◌∙◌}
use mathlib.Core.Bool.{Bool}
use mathlib.Core.List.{List, [], ◌∷◌, map}
use native.Mathlib.Omega.{arith}
use lib.Ieee.{binary64, to_bits}
use lib.ListN.{length, set, length-map, length-append}
use lib.Seq.{slice, take_all}
use Rattle.lists.specs.Lists.{flatten, total}
use Rattle.std.specs.List.{filter}
use Rattle.layout.specs.declared.Anchor.{Anchor}
use Rattle.layout.specs.Steps.Accepted.{Accepted}
use Rattle.layout.specs.Room.{Room, rows_in, anchors_in}
use Rattle.layout.specs.Topology.{TopologyRow, TopologyLayer, anchor_name}
use Rattle.keys.specs.Keys.{rows_of_layer, anchors_of_row}
use Rattle.keys.specs.InKey.{layout_in, room_in}
use Rattle.layout.proofs.RoomLists.{depth_is}
use Rattle.keys.proofs.InKey.{sized, depth_is as depth-at}
use Rattle.kept_anchors.specs.Steps.Kept.{picked, is_positive, counts_of, parts_over, layers_picked, rows_picked, anchors_picked, layers_of_key, rows_of_key, anchors_of_key, anchors_left, rows_left, kept_key}
use Rattle.selection.specs.Steps.{z_bits, y_bits, x_bits, with_layers, kept_topology, kept_room}
use Rattle.kept_anchors.proofs.Apart.{filled_long, part_between, part_behind}
use Rattle.kept_anchors.proofs.Picked.{picked_most, filter_picked, map_picked}
use Rattle.kept_anchors.proofs.Reached.{counts_long}
use Rattle.selection.proofs.KeptRoom.{layer_rows, row_anchors, anchors_kept, rows_kept, kept_anchors_lem, kept_row_counts, kept_ys, kept_layer_counts, kept_zs, kept_number}
use Rattle.selection.proofs.KeyRoom.{Words, rows_few, anchors_few, layers_in_lem, rows_in_key, names_in_lem, zs_in, ys_in_key, xs_in_key}

pub concat_long : {A B : Type 0} (f : A → List B) (xs : List A) → total (map (λ (x : A). length (f x)) xs) ≡ length (flatten (map f xs))
concat_long f [] = refl
concat_long f (x ∷ xs) = omega (arith, concat_long f xs, length-append (f x) (flatten (map f xs)))

module _ (key : List ℕ) (long : length key ≡ 156) (w : Words key) (ac : Accepted (layout_in key)) (kept : List Bool) where
  abbrev r : Room
  r = room_in key

  abbrev ys : List TopologyLayer
  ys = r.layers

  abbrev q : List TopologyLayer
  q = kept_topology kept ys

  depth_in : length ys ≡ (layout_in key).depth
  depth_in = depth_is (layout_in key) (sized key long) ac

  -- the parts as they are written, one after another
  abbrev layers_over : List ℕ
  layers_over = parts_over 48 100 (length ys) (map rows_of_layer q) (map z_bits q) key

  abbrev rows_over : List ℕ
  rows_over = parts_over 52 104 (length (rows_in r)) (map anchors_of_row (layer_rows q)) (map y_bits (layer_rows q)) layers_over

  -- no more than there were
  fewer_layers_lem : length q ≤ length ys
  fewer_layers_lem =
      let cs = rows_kept kept ys in
      omega (arith, kept_number kept ys, picked_most (map is_positive cs) cs, counts_long (map rows_of_layer ys) (map is_positive (anchors_kept kept ys)), length-map ys rows_of_layer)

  fewer_rows_lem : length (layer_rows q) ≤ length (rows_in r)
  fewer_rows_lem =
      let cs = anchors_kept kept ys in
      omega (arith, length-map (layer_rows q) anchors_of_row, ap length (kept_row_counts kept ys), picked_most (map is_positive cs) cs, counts_long (map anchors_of_row (rows_in r)) kept, length-map (rows_in r) anchors_of_row)

  few : length ys ≤ 4
  few = omega (arith, depth_in, ac.few_layers)

  layers_long : length layers_over ≡ 156
  layers_long = filled_long 48 100 (length ys) (map rows_of_layer q) (map z_bits q) key (omega (arith, length-map q rows_of_layer, fewer_layers_lem)) (omega (arith, length-map q z_bits, fewer_layers_lem)) (omega (arith, few)) (omega (arith, few, long)) ∙ long

  -- what is read later is still there
  behind_layers : (c m : ℕ) → 104 ≤ c → c + m ≤ 156 → slice c (c + m) layers_over ≡ slice c (c + m) key
  behind_layers c m g h = part_behind 48 100 (length ys) (map rows_of_layer q) (map z_bits q) key (omega (arith, length-map q rows_of_layer, fewer_layers_lem)) (omega (arith, length-map q z_bits, fewer_layers_lem)) (omega (arith, few)) (omega (arith, few, long)) c m (omega (arith, few)) (omega (arith, long))

  between_layers : (c m : ℕ) → 52 ≤ c → c + m ≤ 100 → slice c (c + m) layers_over ≡ slice c (c + m) key
  between_layers c m g h = part_between 48 100 (length ys) (map rows_of_layer q) (map z_bits q) key (omega (arith, length-map q rows_of_layer, fewer_layers_lem)) (omega (arith, length-map q z_bits, fewer_layers_lem)) (omega (arith, few)) (omega (arith, few, long)) c m (omega (arith, few)) h

  ys_stay : slice 104 (104 + length (rows_in r)) layers_over ≡ map y_bits (rows_in r)
  ys_stay = behind_layers 104 (length (rows_in r)) (omega arith) (omega (arith, rows_few key long w ac)) ∙ ys_in_key key long w ac

  names_stay : slice 76 (76 + length (anchors_in r)) rows_over ≡ map anchor_name (anchors_in r)
  names_stay =
      let h = rows_few key long w ac in
      let g = anchors_few key long w ac in
      part_between 52 104 (length (rows_in r)) (map anchors_of_row (layer_rows q)) (map y_bits (layer_rows q)) layers_over (omega (arith, length-map (layer_rows q) anchors_of_row, fewer_rows_lem)) (omega (arith, length-map (layer_rows q) y_bits, fewer_rows_lem)) (omega (arith, h)) (omega (arith, h, layers_long)) 76 (length (anchors_in r)) (omega (arith, h)) (omega (arith, g))
      ∙ between_layers 76 (length (anchors_in r)) (omega arith) (omega (arith, g))
      ∙ names_in_lem key long w ac

  xs_stay : slice 128 (128 + length (anchors_in r)) rows_over ≡ map x_bits (anchors_in r)
  xs_stay =
      let h = rows_few key long w ac in
      let g = anchors_few key long w ac in
      part_behind 52 104 (length (rows_in r)) (map anchors_of_row (layer_rows q)) (map y_bits (layer_rows q)) layers_over (omega (arith, length-map (layer_rows q) anchors_of_row, fewer_rows_lem)) (omega (arith, length-map (layer_rows q) y_bits, fewer_rows_lem)) (omega (arith, h)) (omega (arith, h, layers_long)) 128 (length (anchors_in r)) (omega (arith, h)) (omega (arith, g, layers_long))
      ∙ behind_layers 128 (length (anchors_in r)) (omega arith) (omega (arith, g))
      ∙ xs_in_key key long w ac

  -- ---- how many the counts say
  layers_counted : layers_of_key key ≡ length ys
  layers_counted = omega (arith, depth_in, depth-at key long, few)

  rows_counted : rows_of_key key ≡ length (rows_in r)
  rows_counted =
      let t = ap total (layers_in_lem key long w ac) ∙ concat_long (λ (y : TopologyLayer). y.rows) ys in
      ap (λ (d : ℕ). min (total (slice 48 (48 + d) key)) 24) layers_counted ∙ omega (arith, t, rows_few key long w ac)

  anchors_counted : anchors_of_key key ≡ length (anchors_in r)
  anchors_counted =
      let t = ap total (rows_in_key key long w ac) ∙ concat_long (λ (w : TopologyRow). w.anchors) (rows_in r) in
      ap (λ (n : ℕ). min (total (slice 52 (52 + n) key)) 24) rows_counted ∙ omega (arith, t, anchors_few key long w ac)

  -- ---- what is left
  anchors_left_lem : anchors_left kept key ≡ anchors_kept kept ys
  anchors_left_lem = ap (λ (n : ℕ). counts_of (slice 52 (52 + n) key) kept) rows_counted ∙ ap (λ (l : List ℕ). counts_of l kept) (rows_in_key key long w ac)

  rows_left_lem : rows_left kept key ≡ rows_kept kept ys
  rows_left_lem =
      ap₂ (λ (n : ℕ) (l : List ℕ). counts_of (slice 48 (48 + n) key) (map is_positive l)) layers_counted anchors_left_lem
      ∙ ap (λ (l : List ℕ). counts_of l (map is_positive (anchors_kept kept ys))) (layers_in_lem key long w ac)

  kept_long : length (anchors_kept kept ys) ≡ length (rows_in r)
  kept_long = counts_long (map anchors_of_row (rows_in r)) kept ∙ length-map (rows_in r) anchors_of_row

  layers_are : layers_picked (layers_of_key key) (rows_left kept key) key ≡ layers_over
  layers_are =
      ap₂ (λ (n : ℕ) (l : List ℕ). layers_picked n l key) layers_counted rows_left_lem
      ∙ ap₂ (λ (a b : List ℕ). parts_over 48 100 (length ys) a b key) (sym (kept_layer_counts kept ys)) (ap (picked (map is_positive (rows_kept kept ys))) (zs_in key long w ac) ∙ sym (kept_zs kept ys (to_bits binary64)))

  rows_are : rows_picked (rows_of_key key) (anchors_left kept key) layers_over ≡ rows_over
  rows_are =
      let n = length (rows_in r) in
      let cs = anchors_kept kept ys in
      ap₂ (λ (m : ℕ) (l : List ℕ). rows_picked m l layers_over) rows_counted anchors_left_lem
      ∙ ap₂ (λ (a b : List ℕ). parts_over 52 104 n a b layers_over)
      (ap (picked (map is_positive cs)) (take_all n cs (omega (arith, kept_long))) ∙ sym (kept_row_counts kept ys))
      (ap (picked (map is_positive cs)) ys_stay ∙ sym (kept_ys kept ys (to_bits binary64)))

  -- the key with just these anchors has just these in its room
  pub kept_key_lem : kept_key kept key ≡ with_layers key (kept_room kept r)
  unfolding kept_key with_layers
  kept_key_lem =
      let m = length (anchors_in r) in
      let of : (f : Anchor → ℕ) → picked kept (map f (anchors_in r)) ≡ map f (row_anchors (layer_rows q)) = λ f. sym (map_picked f kept (anchors_in r)) ∙ ap (map f) (sym (kept_anchors_lem kept ys)) in
      let f2 : rows_picked (rows_of_key key) (anchors_left kept key) (layers_picked (layers_of_key key) (rows_left kept key) key) ≡ rows_over = ap (rows_picked (rows_of_key key) (anchors_left kept key)) layers_are ∙ rows_are in
      ap₂ (λ (l : List ℕ) (k : ℕ). set l 153 k)
      (ap₂ (λ (k : ℕ) (l : List ℕ). anchors_picked k kept l) anchors_counted f2
      ∙ ap₂ (λ (a b : List ℕ). parts_over 76 128 m a b rows_over) (ap (picked kept) names_stay ∙ of anchor_name) (ap (picked kept) xs_stay ∙ of x_bits))
      (ap (λ (l : List ℕ). length (filter is_positive l)) rows_left_lem ∙ ap length (filter_picked is_positive (rows_kept kept ys)) ∙ sym (kept_number kept ys))
